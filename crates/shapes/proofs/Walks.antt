-- A grammar's productions one after another, from one number on: what is told of a nonterminal's tags and of its first star is told of those that are left.
-- Assumes nothing.
use mathlib.Core.Path.{◌≡◌, refl, sym, ap, ap₂, subst, ◌∙◌}
use mathlib.Core.Bool.{Bool, true, false}
use mathlib.Core.List.{List, [], ◌∷◌, ◌++◌, append-nil}
use mathlib.Core.Option.{Option, none, some}
use Prim.Native.Nat.{ℕ, zero, suc, ◌+◌, ◌≤◌, ◌<◌}
use native.Mathlib.Numerals.{add-one}
use native.Mathlib.Omega.{arith}
use lib.Dec.{eqb}
use lib.ListN.{length, drop}
use borrow.Author.Tests.{eq-eqb, ne_eqb}
use Rattle.std.specs.Prelude.{Option as Answered, Some, None, IfSome}
use Rattle.expressions.specs.Expr.{Content}
use Rattle.expressions.specs.Grammar.{Production, only_if, content_of, tags_of, Nth}
use Rattle.layout.specs.Layout.{production_count}
use Rattle.layout.specs.LaidOut.{LaidOut}
use Rattle.layout.specs.declared.Layout.{Layout}
use Rattle.layout.specs.Records.{nonterminal_of, tag_number_of, first_node_of, node_count_of}
use Rattle.trees.specs.Parsed.{RunsInside}
use Rattle.trees.specs.GrammarAt.{ProductionIs, GrammarIs}
use Rattle.trees.proofs.Grammars.{length_grammar, nth_there, nth_is, content_nth}
use Rattle.runs.specs.Options.{bind, or_else, when_true}
use Rattle.salvage.specs.Shaped.{star_over, single, first_star}
use Rattle.shapes.specs.Told.{NumberOr, there, missing, StarTold, TagTold, FirstTold}

-- what is left from a production on begins with it
drop_nth : (g : List Production) (q : ℕ) (d : Production) → Nth g q d → drop q g ≡ d ∷ drop (suc q) g
drop_nth [] q d n = absurd n
drop_nth (e ∷ g) zero d n = ap (λ (z : Production). z ∷ g) (sym n)
drop_nth (e ∷ g) (suc q) d n = drop_nth g q d n

drop_past : {A : Type 0} (n : ℕ) (xs : List A) → length xs ≤ n → drop n xs ≡ []
drop_past zero [] h = refl
drop_past zero (x ∷ xs) h = absurd (omega arith)
drop_past (suc n) [] h = refl
drop_past (suc n) (x ∷ xs) h = drop_past n xs (omega arith)

module _ (s : List ℕ) where
  pub record Left (g : List Production) (q : ℕ) : Type 0 where
    pub production : Production
    pub begins : drop q g ≡ production ∷ drop (q + 1) g
    pub is : ProductionIs s q production
    pub content : content_of g q ≡ production.content

  pub left_at : (g : List Production) → GrammarIs s g → (q : ℕ) → q < production_count s → Left g q
  left_at g h q b =
      let d = nth_there s g h q b in
      record { production = d.0; begins = rw add-one (drop_nth g q d.0 d.1); is = nth_is s g h q d.0 d.1; content = content_nth g q d.0 d.1 }

  pub none_left : (g : List Production) → GrammarIs s g → (q : ℕ) → production_count s ≤ q → drop q g ≡ []
  none_left g h q b = drop_past q g (omega (arith, length_grammar s g h))

  -- ---- the tags of nonterminal n
  pub data SeenSo : Answered ℕ → List ℕ → Type 0 where
    none_yet : SeenSo None []
    one_yet : {t : ℕ} → t < 256 → SeenSo (Some t) (t ∷ [])

  -- what is seen of them before production q
  pub record TagsSo (n q : ℕ) (seen : Answered ℕ) : Type 0 where
    pub is : (g : List Production) → GrammarIs s g → (v : List ℕ) × SeenSo seen v × (tags_of g n ≡ v ++ tags_of (drop q g) n)

  module _ (n : ℕ) where
    pub so_start : TagsSo n 0 None
    so_start = record { is = λ g h. ([], none_yet, refl) }

    tags_left : (q : ℕ) (b : Bool) → eqb n (nonterminal_of s q) ≡ b → (g : List Production) → Left g q → tags_of (drop q g) n ≡ only_if b (tag_number_of s q) ++ tags_of (drop (q + 1) g) n
    tags_left q b e g f =
        ap (λ (ds : List Production). tags_of ds n) f.begins
        ∙ ap₂ (λ (c : Bool) (t : ℕ). only_if c t ++ tags_of (drop (q + 1) g) n) (ap (eqb n) f.is.nonterminal_is ∙ e) f.is.tag_is

    pub so_passes : (q : ℕ) (seen : Answered ℕ) → q < production_count s → (n ≡ nonterminal_of s q → ⊥) → TagsSo n q seen → TagsSo n (q + 1) seen
    so_passes q seen b e so =
        record { is = λ g h. let w = so.is g h in (w.0, w.1, w.2 ∙ ap (λ (l : List ℕ). w.0 ++ l) (tags_left q false (ne_eqb n (nonterminal_of s q) e) g (left_at g h q b))) }

    first_seen : {v : List ℕ} → SeenSo None v → v ≡ []
    first_seen none_yet = refl

    pub so_first : (q : ℕ) → q < production_count s → n ≡ nonterminal_of s q → tag_number_of s q < 256 → TagsSo n q None → TagsSo n (q + 1) (Some (tag_number_of s q))
    so_first q b e few so =
        record {
          is = λ g h.
              let w = so.is g h in
              let l = tags_left q true (eq-eqb n (nonterminal_of s q) e) g (left_at g h q b) in
              (tag_number_of s q ∷ [], one_yet few, w.2 ∙ ap (λ (v : List ℕ). v ++ tags_of (drop q g) n) (first_seen w.1) ∙ l);
        }

    pub so_second : (q seen : ℕ) → q < production_count s → n ≡ nonterminal_of s q → TagsSo n q (Some seen) → TagTold s n None
    so_second q seen b e so =
        record {
          few = tt;
          is = λ g h.
              let w = so.is g h in
              by g seen w.0 w.1 (tags_of (drop (q + 1) g) n) (w.2 ∙ ap (λ (l : List ℕ). w.0 ++ l) (tags_left q true (eq-eqb n (nonterminal_of s q) e) g (left_at g h q b)));
        }
      where
        two : {ts : List ℕ} (t u : ℕ) (us : List ℕ) → ts ≡ t ∷ u ∷ us → NumberOr (single ts) None
        two t u us e = subst (λ (l : List ℕ). NumberOr (single l) None) (sym e) missing

        by : (g : List Production) (seen : ℕ) (v : List ℕ) → SeenSo (Some seen) v → (us : List ℕ) → tags_of g n ≡ v ++ (tag_number_of s q ∷ us) → NumberOr (single (tags_of g n)) None
        by g seen v (one_yet {t} h) us e = two t (tag_number_of s q) us e

    pub so_all : (q : ℕ) (seen : Answered ℕ) → IfSome seen (λ i. i < 256) → production_count s ≤ q → TagsSo n q seen → TagTold s n seen
    so_all q seen few b so =
        record {
          few = few;
          is = λ g h.
              let w = so.is g h in
              by seen w.0 w.1 (w.2 ∙ ap (λ (ds : List Production). w.0 ++ tags_of ds n) (none_left g h q b) ∙ append-nil w.0);
        }
      where
        by : {ts : List ℕ} (seen : Answered ℕ) (v : List ℕ) → SeenSo seen v → ts ≡ v → NumberOr (single ts) seen
        by seen v none_yet e = subst (λ (l : List ℕ). NumberOr (single l) None) (sym e) missing
        by seen v (one_yet {t} h) e = subst (λ (l : List ℕ). NumberOr (single l) (Some t)) (sym e) (there h)

    -- ---- its first star
    pub record StarsSo (q : ℕ) : Type 0 where
      pub is : (g : List Production) → GrammarIs s g → first_star g n ≡ first_star (drop q g) n

    pub stars_start : StarsSo 0
    stars_start = record { is = λ g h. refl }

    stars_left : (q : ℕ) (b : Bool) → eqb n (nonterminal_of s q) ≡ b → (g : List Production) → Left g q →
        first_star (drop q g) n ≡ or_else (bind (when_true b (content_of g q)) star_over) (first_star (drop (q + 1) g) n)
    stars_left q b e g f =
        ap (λ (ds : List Production). first_star ds n) f.begins
        ∙ ap₂ (λ (c : Bool) (t : Content). or_else (bind (when_true c t) star_over) (first_star (drop (q + 1) g) n)) (ap (eqb n) f.is.nonterminal_is ∙ e) (sym f.content)

    pub stars_other : (q : ℕ) → q < production_count s → (n ≡ nonterminal_of s q → ⊥) → StarsSo q → StarsSo (q + 1)
    stars_other q b e so = record { is = λ g h. so.is g h ∙ stars_left q false (ne_eqb n (nonterminal_of s q) e) g (left_at g h q b) }

    missing_is : {o : Option ℕ} → NumberOr o None → o ≡ none
    missing_is missing = refl

    there_is : {o : Option ℕ} {r : ℕ} → NumberOr o (Some r) → o ≡ some r
    there_is (there h) = refl

    pub stars_none : (q : ℕ) → q < production_count s → n ≡ nonterminal_of s q → StarTold s q None → StarsSo q → StarsSo (q + 1)
    stars_none q b e t so =
        record {
          is = λ g h.
              so.is g h ∙ stars_left q true (eq-eqb n (nonterminal_of s q) e) g (left_at g h q b)
              ∙ ap (λ (o : Option ℕ). or_else o (first_star (drop (q + 1) g) n)) (missing_is (t.is g h));
        }

    pub stars_found : (q r : ℕ) → q < production_count s → n ≡ nonterminal_of s q → StarTold s q (Some r) → StarsSo q → FirstTold s n (Some r)
    stars_found q r b e t so =
        record {
          few = t.few;
          is = λ g h.
              let f = so.is g h ∙ stars_left q true (eq-eqb n (nonterminal_of s q) e) g (left_at g h q b) ∙ ap (λ (o : Option ℕ). or_else o (first_star (drop (q + 1) g) n)) (there_is (t.is g h)) in
              subst (λ (o : Option ℕ). NumberOr o (Some r)) (there_is (t.is g h) ∙ sym f) (t.is g h);
        }

    pub stars_nowhere : (q : ℕ) → production_count s ≤ q → StarsSo q → FirstTold s n None
    stars_nowhere q b so =
        record {
          few = tt;
          is = λ g h. subst (λ (o : Option ℕ). NumberOr o None) (sym (so.is g h ∙ ap (λ (ds : List Production). first_star ds n) (none_left g h q b))) missing;
        }

-- ---- what the layout says of a production's number and nodes
module _ (s : List ℕ) (l : Layout) (L : LaidOut s l) (q : ℕ) (b : q < l.productions) where
  pub production_there : q < production_count s
  production_there = omega (arith, L.layout_is.productions_is.is)

  pub nodes_there : RunsInside s → first_node_of s q + node_count_of s q ≤ l.nodes
  nodes_there R = omega (arith, R.inside q production_there, L.layout_is.nodes_is.is)

pub all_passed : (s : List ℕ) (l : Layout) → LaidOut s l → (q : ℕ) → l.productions ≤ q → production_count s ≤ q
all_passed s l L q h = omega (arith, L.layout_is.productions_is.is)
