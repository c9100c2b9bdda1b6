-- An atom: whether it can be the next symbol, and the way to it.
-- Assumes nothing.
use mathlib.Core.Path.{◌≡◌, sym, ◌∙◌, ap, subst}
use mathlib.Core.Bool.{Bool, true, false}
use Rattle.std.specs.Prelude.{Some, None}
use mathlib.Core.List.{List, [], append-nil}
use mathlib.Core.Option.{some}
use Prim.Native.Nat.{ℕ}
use native.Mathlib.Omega.{arith}
use Rattle.expressions.specs.Expr.{Atom, atom, nonterminal, anychar}
use Rattle.expressions.specs.Words.{Bracket}
use Rattle.expressions.specs.Grammar.{Production, tags_of, can_be}
use Rattle.layout.specs.Records.{kind_of, argument_of}
use Rattle.runs.specs.Options.{when_true}
use Rattle.runs.specs.Way.{led}
use Rattle.trees.specs.declared.Symbol.{Symbol}
use Rattle.trees.specs.GrammarAt.{GrammarIs}
use Rattle.trees.specs.Symbol.{next_of}
use Rattle.trees.specs.Answers.{CanBeIs, CharacterIs}
use Rattle.trees.proofs.Answers.{can_be_of_grammar}
use Rattle.ways.specs.declared.Way.{Way}
use Rattle.ways.specs.declared.Spot.{Spot}
use Rattle.ways.specs.Held.{kind_number, argument_number, HoldsString, WayIs, no_way, a_way}
use Rattle.ways.specs.Spot.{At}
use Rattle.ways.specs.Walks.{CanIs, AtomWay}

module _ (s : List ℕ) (k n : ℕ) (x : Symbol) (r : Bool) where
  nonterminal_of_lem : k ≡ 1 → CanBeIs s n x r → (g : List Production) → GrammarIs s g → (a : Atom) → k ≡ kind_number a → n ≡ argument_number a → r ≡ can_be (tags_of g) a (next_of x)
  nonterminal_of_lem e c g γ (nonterminal m) p q = c.is ∙ can_be_of_grammar s n x g γ ∙ ap (λ (z : ℕ). can_be (tags_of g) (nonterminal z) (next_of x)) q
  nonterminal_of_lem e c g γ anychar p q = absurd (omega arith)

  pub can_nonterminal : k ≡ 1 → CanBeIs s n x r → CanIs s k n x r
  can_nonterminal e c = record { is = nonterminal_of_lem e c }

  character_of : (k ≡ 1 → ⊥) → CharacterIs x r → (g : List Production) → GrammarIs s g → (a : Atom) → k ≡ kind_number a → n ≡ argument_number a → r ≡ can_be (tags_of g) a (next_of x)
  character_of e c g γ (nonterminal m) p q = absurd (e p)
  character_of e c g γ anychar p q = c.is (tags_of g)

  pub can_character : (k ≡ 1 → ⊥) → CharacterIs x r → CanIs s k n x r
  can_character e c = record { is = character_of e c }

module _ (s : List ℕ) (t : Spot) (x : Symbol) (n : ℕ) (b : List ℕ) where
  module _ (k m : ℕ) (kind : k ≡ kind_of s t.node) (argument : m ≡ argument_of s t.node) (hit : Bool) (can : CanIs s k m x hit) where
    kind_of_lem : {i j : ℕ} (a : Atom) → At s t (atom a) i j → k ≡ kind_number a
    kind_of_lem (nonterminal c) h = kind ∙ h.stands.0
    kind_of_lem anychar h = kind ∙ h.stands.0

    argument_of_lem : {i j : ℕ} (a : Atom) → At s t (atom a) i j → m ≡ argument_number a
    argument_of_lem (nonterminal c) h = argument ∙ h.stands.1
    argument_of_lem anychar h = argument ∙ h.stands.1

    told : (g : List Production) → GrammarIs s g → {i j : ℕ} (a : Atom) → At s t (atom a) i j → hit ≡ can_be (tags_of g) a (next_of x)
    told g γ a h = can.is g γ a (kind_of_lem a h) (argument_of_lem a h)

    pub atom_cannot : hit ≡ false → AtomWay s t x n b None
    atom_cannot f =
        record {
          few = tt;
          is = λ g γ a i j at α h.
              subst (λ (c : Bool). WayIs (led (some α) (when_true c (record { string = []; place = j; kind = a }))) None b) (sym f ∙ told g γ a at) no_way;
        }

    module _ (r : Way) (length_is : r.length ≡ n) (place : r.place ≡ t.atom) (kind_is : r.kind ≡ k) (argument_is : r.argument ≡ m) where
      reached : {i j : ℕ} (a : Atom) → At s t (atom a) i j → (α : List Bracket) → HoldsString α n b → WayIs (led (some α) (some (record { string = []; place = j; kind = a }))) (Some r) b
      reached a at α h =
          a_way (record {
            string_is = subst (λ (β : List Bracket). HoldsString β r.length b) (sym (append-nil α)) (subst (λ (i : ℕ). HoldsString α i b) (sym length_is) h);
            place_is = place ∙ at.atom_is;
            kind_is = kind_is ∙ kind_of_lem a at;
            argument_is = argument_is ∙ argument_of_lem a at;
          })

      pub atom_reached : hit ≡ true → AtomWay s t x n b (Some r)
      atom_reached f =
          record {
            few = (omega arith, omega arith);
            is = λ g γ a i j at α h.
                subst (λ (c : Bool). WayIs (led (some α) (when_true c (record { string = []; place = j; kind = a }))) (Some r) b) (sym f ∙ told g γ a at) (reached a at α h);
          }
