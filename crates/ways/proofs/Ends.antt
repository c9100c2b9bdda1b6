-- From the walks over a production's tree to what is asked of the sheet's grammar; and one answer for each question.
-- Assumes nothing.
use mathlib.Core.Path.{◌≡◌, refl, sym, ◌∙◌, ap, subst}
use Rattle.std.specs.Prelude.{Option as Past, Some, None, IfSome}
use mathlib.Core.List.{List, []}
use mathlib.Core.Option.{Option, none, some}
use Prim.Native.Nat.{ℕ, zero, suc, ◌≤◌, ◌<◌}
use native.Mathlib.Omega.{arith}
use lib.ListN.{length}
use Rattle.expressions.specs.Expr.{Exp, Content, nothing, tree, nodes_of}
use Rattle.expressions.specs.Words.{Bracket}
use Rattle.expressions.specs.Grammar.{Production, Nth, content_of, tags_of, Next}
use Rattle.layout.specs.declared.Layout.{Layout}
use Rattle.layout.specs.LaidOut.{LaidOut}
use Rattle.layout.specs.Layout.{production_count}
use Rattle.layout.specs.Records.{first_node_of, node_count_of}
use Rattle.limits.specs.Limits.{nodes_at_most}
use Rattle.few.specs.Strings.{most_brackets}
use Rattle.few.proofs.Found.{atom_way_64, end_way_64}
use Rattle.runs.specs.Way.{Way as Found, through, into, out_of_lem, across, end_way, atom_way}
use Rattle.trees.specs.declared.Symbol.{Symbol}
use Rattle.trees.specs.Trees.{TreeAt, ContentAt, Trees}
use Rattle.trees.specs.GrammarAt.{GrammarIs}
use Rattle.trees.specs.Symbol.{next_of}
use Rattle.trees.proofs.Grammars.{grammar_is, nth_is, nth_there, content_nth, content_at, nodes_of_content}
use Rattle.trees.proofs.Unique.{nodes_pos}
use Rattle.ways.specs.declared.Way.{Way}
use Rattle.ways.specs.declared.Spot.{Spot}
use Rattle.ways.specs.Held.{LineIs, no_line, a_line, WayIs, no_way, a_way}
use Rattle.ways.specs.Spot.{At}
use Rattle.ways.specs.Walks.{Through, Into, OutOf, Across}
use Rattle.ways.specs.Answers.{FollowsS, EndWayIs, AtomWayIs}
use Rattle.ways.proofs.Strings.{joined_empty, led_empty}
use Rattle.ways.proofs.Holds.{line_moved, way_moved, empty_string}

-- what a production is asked on: rule S finds no fault in the grammar, and the production has at most 32 nodes
pub record Ground (s : List ℕ) (q : ℕ) : Type 0 where
  pub trees : Trees s
  pub follows : FollowsS s
  pub there : q < production_count s
  pub small : node_count_of s q ≤ nodes_at_most

pub grounded : {s : List ℕ} {q : ℕ} {l : Layout} → LaidOut s l → Trees s → FollowsS s → q < l.productions → node_count_of s q ≤ nodes_at_most → Ground s q
grounded L trees follows below small = record { trees = trees; follows = follows; there = omega (arith, below, L.layout_is.productions_is.is); small = small }

-- so a way that was found has at most 64 brackets
module _ {s : List ℕ} {q : ℕ} (a : Ground s q) (p : ℕ) where
  abbrev grammar : List Production
  grammar = (grammar_is s a.trees).0

  is_grammar : GrammarIs s grammar
  is_grammar = (grammar_is s a.trees).1

  abbrev production : Production
  production = (nth_there s grammar is_grammar q a.there).0

  is_nth : Nth grammar q production
  is_nth = (nth_there s grammar is_grammar q a.there).1

  is_content : content_of grammar q ≡ production.content
  is_content = content_nth grammar q production is_nth

  few_nodes : nodes_of (content_of grammar q) ≤ nodes_at_most
  few_nodes = omega (arith, nodes_of_content s q (content_of grammar q) (content_at s grammar is_grammar q a.there), a.small)

  few_end : (o : Option (List Bracket)) → end_way (content_of grammar q) p ≡ o → (r : Past ℕ) (b : List ℕ) → LineIs o r b → IfSome r (λ n. n ≤ most_brackets)
  few_end none e None b no_line = tt
  few_end none e (Some n) b h = elim h [ ]
  few_end (some α) e None b h = elim h [ ]
  few_end (some α) e (Some n) b (a_line h) = omega (arith, h.length_is, end_way_64 grammar (a.follows grammar is_grammar) q p few_nodes α e)

  few_atom : (x : Next) (o : Option Found) → atom_way (tags_of grammar) (content_of grammar q) p x ≡ o → (r : Past Way) (b : List ℕ) → WayIs o r b → IfSome r (λ w. w.length ≤ most_brackets)
  few_atom x none e None b no_way = tt
  few_atom x none e (Some r) b h = elim h [ ]
  few_atom x (some w) e None b h = elim h [ ]
  few_atom x (some w) e (Some r) b (a_way h) = omega (arith, h.string_is.length_is, atom_way_64 grammar (a.follows grammar is_grammar) q p few_nodes x w e)

  pub end_way_lem : (r : Past ℕ) (b : List ℕ) → most_brackets ≤ length b → ((g : List Production) → GrammarIs s g → (d : Production) → Nth g q d → LineIs (end_way d.content p) r b) → EndWayIs s q p r b
  end_way_lem r b room is =
      record { few = few_end _ (ap (λ (c : Content). end_way c p) is_content) r b (is grammar is_grammar production is_nth); room = room; is = is }

  pub atom_way_lem : (x : Symbol) (r : Past Way) (b : List ℕ) → most_brackets ≤ length b →
      ((g : List Production) → GrammarIs s g → (d : Production) → Nth g q d → WayIs (atom_way (tags_of g) d.content p (next_of x)) r b) → AtomWayIs s q p x r b
  atom_way_lem x r b room is =
      record {
        few = few_atom (next_of x) _ (ap (λ (c : Content). atom_way (tags_of grammar) c p (next_of x)) is_content) r b (is grammar is_grammar production is_nth);
        room = room;
        is = is;
      }

module _ (s : List ℕ) (q n : ℕ) (nodes_are : n ≡ node_count_of s q) (ground : Ground s q) where
  module _ (z : n ≡ 0) (b : List ℕ) (room : most_brackets ≤ length b) where
    no_tree : (e : Exp) → ContentAt s q (tree e) → ⊥
    no_tree e h = omega (arith, nodes_pos e, h.1)

    end_of_none : (c : Content) → ContentAt s q c → (p : ℕ) (r : Past ℕ) → LineIs (end_way nothing p) r b → LineIs (end_way c p) r b
    end_of_none nothing h p r w = w
    end_of_none (tree e) h p r w = absurd (no_tree e h)

    end_none : (p : ℕ) (r : Past ℕ) → LineIs (end_way nothing p) r b → EndWayIs s q p r b
    end_none p r w = end_way_lem ground p r b room (λ g γ d m. end_of_none d.content (nth_is s g γ q d m).content_is p r w)

    -- a production with no nodes has the empty string, from place 0 to the end
    pub end_empty : (p : ℕ) → p ≡ 0 → EndWayIs s q p (Some 0) b
    end_empty zero e = end_none zero (Some 0) (a_line (empty_string b))
    end_empty (suc p) e = absurd (omega arith)

    pub end_missing : (p : ℕ) → (p ≡ 0 → ⊥) → EndWayIs s q p None b
    end_missing zero f = absurd (f refl)
    end_missing (suc p) f = end_none (suc p) None no_line

    atom_of_none : (p : ℕ) (x : Symbol) (g : List Production) (c : Content) → ContentAt s q c → WayIs (atom_way (tags_of g) c p (next_of x)) None b
    atom_of_none p x g nothing h = no_way
    atom_of_none p x g (tree e) h = absurd (no_tree e h)

    pub atom_none : (p : ℕ) (x : Symbol) → AtomWayIs s q p x None b
    atom_none p x = atom_way_lem ground p x None b room (λ g γ d m. atom_of_none p x g d.content (nth_is s g γ q d m).content_is)

  module _ (some_nodes : n ≡ 0 → ⊥) (t : Spot) (node_is : t.node ≡ first_node_of s q) (count_is : t.nodes ≡ n) (bracket_1 : t.bracket ≡ 1) (atom_1 : t.atom ≡ 1) where
    here : (e : Exp) → ContentAt s q (tree e) → At s t e 1 1
    here e h = record { stands = subst (λ (z : ℕ). TreeAt s z e) (sym node_is) h.0; bracket_is = bracket_1; atom_is = atom_1 }

    module _ (b : List ℕ) (room : most_brackets ≤ length b) where
      through_of : (p : ℕ) → p ≡ 0 → (r : Past ℕ) (d : List ℕ) → Through s t 0 b r d → (c : Content) → ContentAt s q c → LineIs (end_way c p) r d
      through_of p e r d a nothing h = absurd (some_nodes (nodes_are ∙ h))
      through_of zero e r d a (tree f) h = line_moved (joined_empty (through f 1)) (a.is f 1 1 (here f h) [] (empty_string b))
      through_of (suc p) e r d a (tree f) h = absurd (omega arith)

      pub end_through : (p : ℕ) → p ≡ 0 → (r : Past ℕ) (d : List ℕ) → Through s t 0 b r d → EndWayIs s q p r d
      end_through p e r d h =
          end_way_lem ground p r d (omega (arith, h.kept.long, room)) (λ g γ c m. through_of p e r d h c.content (nth_is s g γ q c m).content_is)

      out_from : (p : ℕ) → (p ≡ 0 → ⊥) → (r : Past ℕ) (d : List ℕ) → OutOf s t p 0 b r d → (c : Content) → ContentAt s q c → LineIs (end_way c p) r d
      out_from p e r d a nothing h = absurd (some_nodes (nodes_are ∙ h))
      out_from zero e r d a (tree f) h = absurd (e refl)
      out_from (suc p) e r d a (tree f) h = line_moved (joined_empty (out_of_lem f 1 1 (suc p))) (a.is f 1 1 (here f h) [] (empty_string b))

      pub end_out : (p : ℕ) → (p ≡ 0 → ⊥) → (r : Past ℕ) (d : List ℕ) → OutOf s t p 0 b r d → EndWayIs s q p r d
      end_out p e r d h =
          end_way_lem ground p r d (omega (arith, h.kept.long, room)) (λ g γ c m. out_from p e r d h c.content (nth_is s g γ q c m).content_is)

      into_from : (x : Symbol) (p : ℕ) → p ≡ 0 → (r : Past Way) (d : List ℕ) → Into s t x 0 b r d → (g : List Production) → GrammarIs s g → (c : Content) → ContentAt s q c →
          WayIs (atom_way (tags_of g) c p (next_of x)) r d
      into_from x p e r d a g γ nothing h = absurd (some_nodes (nodes_are ∙ h))
      into_from x zero e r d a g γ (tree f) h = way_moved (led_empty (into (tags_of g) f 1 1 (next_of x))) (a.is g γ f 1 1 (here f h) [] (empty_string b))
      into_from x (suc p) e r d a g γ (tree f) h = absurd (omega arith)

      pub atom_into : (x : Symbol) (p : ℕ) → p ≡ 0 → (r : Past Way) (d : List ℕ) → Into s t x 0 b r d → AtomWayIs s q p x r d
      atom_into x p e r d h =
          atom_way_lem ground p x r d (omega (arith, h.kept.long, room)) (λ g γ c m. into_from x p e r d h g γ c.content (nth_is s g γ q c m).content_is)

      across_from : (x : Symbol) (p : ℕ) → (p ≡ 0 → ⊥) → (r : Past Way) (d : List ℕ) → Across s t p x 0 b r d → (g : List Production) → GrammarIs s g → (c : Content) → ContentAt s q c →
          WayIs (atom_way (tags_of g) c p (next_of x)) r d
      across_from x p e r d a g γ nothing h = absurd (some_nodes (nodes_are ∙ h))
      across_from x zero e r d a g γ (tree f) h = absurd (e refl)
      across_from x (suc p) e r d a g γ (tree f) h = way_moved (led_empty (across (tags_of g) f 1 1 (suc p) (next_of x))) (a.is g γ f 1 1 (here f h) [] (empty_string b))

      pub atom_across : (x : Symbol) (p : ℕ) → (p ≡ 0 → ⊥) → (r : Past Way) (d : List ℕ) → Across s t p x 0 b r d → AtomWayIs s q p x r d
      atom_across x p e r d h =
          atom_way_lem ground p x r d (omega (arith, h.kept.long, room)) (λ g γ c m. across_from x p e r d h g γ c.content (nth_is s g γ q c m).content_is)
