-- There are as many of the first two strings as the count says.
-- Assumes nothing.
use mathlib.Core.Path.{◌≡◌, refl, sym, ◌∙◌, ap}
use mathlib.Core.Bool.{Bool, true, false}
use mathlib.Core.List.{List, [], ◌∷◌, ◌++◌}
use Prim.Native.Nat.{ℕ, zero, suc, ◌+◌}
use lib.Dec.{eqb}
use Rattle.expressions.specs.Expr.{Exp, atom, cat, alt, star, empty, nodes, atoms, Content, nothing, tree}
use Rattle.expressions.specs.Words.{Bracket, opening, closing}
use Rattle.expressions.specs.Grammar.{Next, tag, character, end, can_be}
use Rattle.expressions.specs.Count.{Count, none, one, many, add, mul, rep, bit}
use Rattle.expressions.specs.Decide as counts
use Rattle.parting.specs.Firsts.{Firsts, no_string, one_string, two_strings, either, each_changed, both, goes_round, when, each_opened, each_closed, each_enclosed, firsts_through, firsts_into, firsts_out_of, firsts_across, firsts_to_end, firsts_to_atom, firsts}

abbrev pub tally : Firsts → Count
tally no_string = none
tally (one_string α) = one
tally (two_strings α β) = many

tally_either : (f g : Firsts) → tally (either f g) ≡ add (tally f) (tally g)
tally_either no_string g = refl
tally_either (one_string α) no_string = refl
tally_either (one_string α) (one_string β) = refl
tally_either (one_string α) (two_strings β γ) = refl
tally_either (two_strings α β) g = refl

tally_each : (h : List Bracket → List Bracket) (f : Firsts) → tally (each_changed h f) ≡ tally f
tally_each h no_string = refl
tally_each h (one_string α) = refl
tally_each h (two_strings α β) = refl

tally_both : (f g : Firsts) → tally (both f g) ≡ mul (tally f) (tally g)
tally_both no_string g = refl
tally_both (one_string α) g = tally_each (λ β. α ++ β) g
tally_both (two_strings α β) no_string = refl
tally_both (two_strings α β) (one_string γ) = refl
tally_both (two_strings α β) (two_strings γ δ) = refl

tally_turned : (f g : Firsts) → tally (goes_round f g) ≡ rep (tally f) (tally g)
tally_turned no_string g = refl
tally_turned (one_string α) no_string = refl
tally_turned (one_string α) (one_string γ) = refl
tally_turned (one_string α) (two_strings γ δ) = refl
tally_turned (two_strings α β) no_string = refl
tally_turned (two_strings α β) (one_string γ) = refl
tally_turned (two_strings α β) (two_strings γ δ) = refl

tally_when : (b : Bool) → tally (when b) ≡ bit b
tally_when true = refl
tally_when false = refl

tally_enclosed : (i : ℕ) (f : Firsts) → tally (each_enclosed i f) ≡ tally f
tally_enclosed i f = tally_each (λ α. opening i ∷ α) (each_closed i f) ∙ tally_each (λ α. α ++ closing i ∷ []) f

-- what two give together
module _ (op : Count → Count → Count) {a a' b b' : Count} where
  on : a ≡ a' → b ≡ b' → op a b ≡ op a' b'
  on e f = ap (λ (z : Count). op z b) e ∙ ap (op a') f

pub tally_through : (e : Exp) (i : ℕ) → tally (firsts_through e i) ≡ counts.null e
tally_through (atom k) i = refl
tally_through (cat l r) i =
    let f = firsts_through l (suc i) in
    let g = firsts_through r (suc i + nodes l) in
    tally_enclosed i (both f g) ∙ tally_both f g ∙ on mul (tally_through l (suc i)) (tally_through r (suc i + nodes l))
tally_through (alt l r) i =
    let f = firsts_through l (suc i) in
    let g = firsts_through r (suc i + nodes l) in
    tally_enclosed i (either f g) ∙ tally_either f g ∙ on add (tally_through l (suc i)) (tally_through r (suc i + nodes l))
tally_through (star e) i =
    let f = firsts_through e (suc i) in
    tally_enclosed i (goes_round f (one_string [])) ∙ tally_turned f (one_string []) ∙ ap (λ (z : Count). rep z one) (tally_through e (suc i))
tally_through empty i = refl

module _ (tags : ℕ → List ℕ) (x : Next) where
  pub tally_into : (e : Exp) (i : ℕ) → tally (firsts_into tags e i x) ≡ counts.first tags e x
  tally_into (atom k) i = tally_each (λ α. opening i ∷ α) (when (can_be tags k x)) ∙ tally_when (can_be tags k x)
  tally_into (cat l r) i =
      let f = firsts_into tags l (suc i) x in
      let h = firsts_through l (suc i) in
      let g = firsts_into tags r (suc i + nodes l) x in
      tally_each (λ α. opening i ∷ α) (either f (both h g)) ∙ tally_either f (both h g)
      ∙ on add (tally_into l (suc i)) (tally_both h g ∙ on mul (tally_through l (suc i)) (tally_into r (suc i + nodes l)))
  tally_into (alt l r) i =
      let f = firsts_into tags l (suc i) x in
      let g = firsts_into tags r (suc i + nodes l) x in
      tally_each (λ α. opening i ∷ α) (either f g) ∙ tally_either f g ∙ on add (tally_into l (suc i)) (tally_into r (suc i + nodes l))
  tally_into (star e) i =
      let f = firsts_through e (suc i) in
      let g = firsts_into tags e (suc i) x in
      tally_each (λ α. opening i ∷ α) (goes_round f g) ∙ tally_turned f g ∙ on rep (tally_through e (suc i)) (tally_into e (suc i))
  tally_into empty i = refl

pub tally_out : (e : Exp) (i j p : ℕ) → tally (firsts_out_of e i j p) ≡ counts.last e j p
tally_out (atom k) i j p = tally_each (λ α. α ++ closing i ∷ []) (when (eqb p j)) ∙ tally_when (eqb p j)
tally_out (cat l r) i j p =
    let f = firsts_out_of l (suc i) j p in
    let h = firsts_through r (suc i + nodes l) in
    let g = firsts_out_of r (suc i + nodes l) (j + atoms l) p in
    tally_each (λ α. α ++ closing i ∷ []) (either (both f h) g) ∙ tally_either (both f h) g
    ∙ on add (tally_both f h ∙ on mul (tally_out l (suc i) j p) (tally_through r (suc i + nodes l))) (tally_out r (suc i + nodes l) (j + atoms l) p)
tally_out (alt l r) i j p =
    let f = firsts_out_of l (suc i) j p in
    let g = firsts_out_of r (suc i + nodes l) (j + atoms l) p in
    tally_each (λ α. α ++ closing i ∷ []) (either f g) ∙ tally_either f g
    ∙ on add (tally_out l (suc i) j p) (tally_out r (suc i + nodes l) (j + atoms l) p)
tally_out (star e) i j p =
    let f = firsts_out_of e (suc i) j p in
    let h = firsts_through e (suc i) in
    tally_each (λ α. α ++ closing i ∷ []) (both f (goes_round h (one_string []))) ∙ tally_both f (goes_round h (one_string []))
    ∙ on mul (tally_out e (suc i) j p) (tally_turned h (one_string []) ∙ ap (λ (z : Count). rep z one) (tally_through e (suc i)))
tally_out empty i j p = refl

module _ (tags : ℕ → List ℕ) (x : Next) where
  pub tally_across : (e : Exp) (i j p : ℕ) → tally (firsts_across tags e i j p x) ≡ counts.follow tags e j p x
  tally_across (atom k) i j p = refl
  tally_across (cat l r) i j p =
      let f = firsts_across tags l (suc i) j p x in
      let o = firsts_out_of l (suc i) j p in
      let n = firsts_into tags r (suc i + nodes l) x in
      let g = firsts_across tags r (suc i + nodes l) (j + atoms l) p x in
      tally_either (either f (both o n)) g
      ∙ on add
      (tally_either f (both o n) ∙ on add (tally_across l (suc i) j p) (tally_both o n ∙ on mul (tally_out l (suc i) j p) (tally_into tags x r (suc i + nodes l))))
      (tally_across r (suc i + nodes l) (j + atoms l) p)
  tally_across (alt l r) i j p =
      let f = firsts_across tags l (suc i) j p x in
      let g = firsts_across tags r (suc i + nodes l) (j + atoms l) p x in
      tally_either f g ∙ on add (tally_across l (suc i) j p) (tally_across r (suc i + nodes l) (j + atoms l) p)
  tally_across (star e) i j p =
      let f = firsts_across tags e (suc i) j p x in
      let o = firsts_out_of e (suc i) j p in
      let h = firsts_through e (suc i) in
      let n = firsts_into tags e (suc i) x in
      tally_either f (both o (goes_round h n))
      ∙ on add (tally_across e (suc i) j p)
      (tally_both o (goes_round h n) ∙ on mul (tally_out e (suc i) j p) (tally_turned h n ∙ on rep (tally_through e (suc i)) (tally_into tags x e (suc i))))
  tally_across empty i j p = refl

tally_end : (e : Content) (p : ℕ) → tally (firsts_to_end e p) ≡ counts.to_end e p
tally_end nothing zero = refl
tally_end nothing (suc p) = refl
tally_end (tree e) zero = tally_through e 1
tally_end (tree e) (suc p) = tally_out e 1 1 (suc p)

tally_atom : (tags : ℕ → List ℕ) (e : Content) (p : ℕ) (x : Next) → tally (firsts_to_atom tags e p x) ≡ counts.to_atom tags e p x
tally_atom tags nothing p x = refl
tally_atom tags (tree e) zero x = tally_into tags x e 1
tally_atom tags (tree e) (suc p) x = tally_across tags x e 1 1 (suc p)

pub tally_firsts : (tags : ℕ → List ℕ) (e : Content) (p : ℕ) (x : Next) → tally (firsts tags e p x) ≡ counts.count tags e p x
tally_firsts tags e p (tag t) = tally_atom tags e p (tag t)
tally_firsts tags e p character = tally_atom tags e p character
tally_firsts tags e p end = tally_end e p
