-- What becomes of a byte; names, keywords, mixed content. Assumes nothing.
use mathlib.Core.Path.{◌≡◌, refl, sym, ◌∙◌, ap, subst}
use mathlib.Core.Bool.{Bool, true, false, cond}
use mathlib.Core.Option.{Option, none, some}
use mathlib.Core.List.{List, [], ◌∷◌, ◌++◌}
use Prim.Native.Nat.{ℕ, suc, ◌+◌, ◌*◌, ◌≤◌, ◌<◌}
use native.Mathlib.Omega.{arith}
use native.Mathlib.Numerals.{add-one}
use borrow.Author.Tests.{lt-ltb, le-ltb, eq-eqb, ne_eqb}
use lib.Dec.{ltb}
use lib.ListN.{length, drop, get_or, length-append, drop_of_length-le}
use lib.Seq.{drop-cons}
use Rattle.limits.specs.Limits.{nodes_at_most, longest_name}
use Rattle.notation.specs.Statements.{parentheses}
use Rattle.expressions.specs.Expr.{nonterminal, anychar, Exp, atom, alt, star, nodes}
use Rattle.models.specs.Models.{mixed, Declaration}
use Rattle.models.specs.Expressions.{or_names, spec_nodes}
use Rattle.models.specs.Reader.{Phase, Move, to, longer}
use Rattle.models.proofs.Counted.{nodes_counted, depth_counted}
use Rattle.declarations.specs.declared.NodeRow.{NodeRow}
use Rattle.declarations.specs.Nodes.{Shows, StarShown, OrNameIs}
use Rattle.stages.specs.declared.Station.{Station}
use Rattle.stages.specs.declared.Headway.{Headway}
use Rattle.stages.specs.declared.Fate.{Fate}
use Rattle.stages.specs.declared.Moved.{Moved}
use Rattle.stages.specs.Headway.{station_of, LeftAfter, any_names, MixedShown, ContentShown, PhaseHolds}
use Rattle.stages.specs.Steps.{moved_to, moved_on, told_as, FateIs, moves, refuses, LongerIs, SpelledIs}

-- as the code tells it
module _ {number : List ℕ → ℕ} {d : Declaration} {r : Moved} where
  pub stops : (s : Headway) → r ≡ told_as s Fate.Refused → FateIs number (λ p. none) d r
  stops s e = subst (λ z. FateIs number (λ p. none) d z) (sym e) (refuses (λ p. refl))

  pub goes_by : (f : ℕ → Option Move) (q : Phase) (s : Headway) (k : ℕ) → f parentheses ≡ some (to q) → r ≡ moved_on s (station_of q) k → PhaseHolds number q (moved_to s (station_of q) k) → FateIs number f d r
  goes_by f q s k g e h = subst (λ z. FateIs number f d z) (sym e) (moves q g (record { station_is = refl; holds = h }))

  pub goes : (q : Phase) (s : Headway) (k : ℕ) → r ≡ moved_on s (station_of q) k → PhaseHolds number q (moved_to s (station_of q) k) → FateIs number (λ p. some (to q)) d r
  goes q s k e h = goes_by (λ p. some (to q)) q s k refl e h

-- a name goes on
module _ (t : Station) (s : Headway) where
  pub longer_more : (r : Moved) → s.long < longest_name → r ≡ moved_on s t (s.long + 1) → LongerIs t s r
  longer_more r l e = record {
    is = λ number d m b f n h.
        let size : s.long + 1 ≡ length (m ++ b ∷ []) = omega (arith, n, length-append m (b ∷ [])) in
        let few : ltb (length m) longest_name ≡ true = lt-ltb (length m) longest_name (omega (arith, n, l)) in
        subst (λ z. FateIs number (λ p. longer m f b) d z) (sym (e ∙ ap (moved_on s t) size)) (moves (f (m ++ b ∷ [])) (ap (λ z. cond z (some (to (f (m ++ b ∷ [])))) none) few) h);
  }

  pub longer_full : (r : Moved) → longest_name ≤ s.long → r ≡ told_as s Fate.Refused → LongerIs t s r
  longer_full r l e = record {
    is = λ number d m b f n h.
        let many : ltb (length m) longest_name ≡ false = le-ltb (length m) longest_name (omega (arith, n, l)) in
        subst (λ z. FateIs number (λ p. longer m f b) d z) (sym e) (refuses (λ p. ap (λ z. cond z (some (to (f (m ++ b ∷ [])))) none) many));
  }

-- a keyword goes on, or is whole
module _ (t : Station) (c : ℕ) (s : Headway) (b : ℕ) (r : Moved) where
  pub spelled_next : b ≡ c → r ≡ moved_on s t (s.long + 1) → SpelledIs t c s b r
  spelled_next e m = record { is = λ number d q h. rw (eq-eqb b c e) (subst (λ z. FateIs number (λ p. some (to q)) d z) (sym m) (moves q refl h)) }

  pub spelled_stuck : (b ≡ c → ⊥) → r ≡ told_as s Fate.Refused → SpelledIs t c s b r
  spelled_stuck e z = record { is = λ number d q h. rw (ne_eqb b c e) (stops s z) }

module _ (word rest : List ℕ) (k : ℕ) (h : LeftAfter word rest k) where
  pub next_left : k < length word → rest ≡ get_or word k 0 ∷ drop (suc k) word
  next_left l = h.left ∙ drop-cons word k 0 l

  pub more_read : k < length word → LeftAfter word (drop (suc k) word) (k + 1)
  more_read l = record { in_word = omega arith; left = ap (λ n. drop n word) (sym (add-one k)) }

  pub none_left : length word ≤ k → rest ≡ []
  none_left l = h.left ∙ drop_of_length-le word l

-- mixed content: one name more, and its star
module _ (number : List ℕ → ℕ) where
  or_last : (e : Exp) (names : List (List ℕ)) (m : List ℕ) → or_names number e (names ++ m ∷ []) ≡ alt (or_names number e names) (atom (nonterminal (number m)))
  or_last e [] m = refl
  or_last e (n ∷ names) m = or_last (alt e (atom (nonterminal (number n)))) names m

  any_last : (names : List (List ℕ)) (m : List ℕ) → any_names (names ++ m ∷ []) ≡ true
  any_last [] m = refl
  any_last (n ∷ names) m = refl

  pub one_name_more : (names : List (List ℕ)) (m : List ℕ) (k : ℕ) (b : Bool) (a r : NodeRow) → number m ≡ k → MixedShown number names b a → OrNameIs a k r → spec_nodes (mixed (names ++ m ∷ [])) ≤ nodes_at_most
      → MixedShown number (names ++ m ∷ []) true r
  one_name_more names m k b a r e h o few =
      let size : length (names ++ m ∷ []) ≡ length names + 1 = length-append names (m ∷ []) in
      let count : nodes (star (or_names number (atom anychar) names)) ≡ 2 * length names + 2 = nodes_counted number (mixed names) in
      record {
        named_is = sym (any_last names m);
        row_is = subst (λ (x : Exp). Shows x r) (ap (λ j. alt (or_names number (atom anychar) names) (atom (nonterminal j))) (sym e) ∙ sym (or_last (atom anychar) names m)) (o.is (or_names number (atom anychar) names) h.row_is (omega (arith, size, count, few)));
      }

  pub its_star : (names : List (List ℕ)) (b : Bool) (a r : NodeRow) → MixedShown number names b a → StarShown a r → spec_nodes (mixed names) ≤ nodes_at_most → ContentShown number (mixed names) r
  its_star names b a r h o few =
      let count : nodes (star (or_names number (atom anychar) names)) ≡ 2 * length names + 2 = nodes_counted number (mixed names) in
      let x = o.is (or_names number (atom anychar) names) h.row_is (omega (arith, count, few)) in
      record { laid = x.laid; deep_is = x.deep_is ∙ depth_counted number (mixed names) }
