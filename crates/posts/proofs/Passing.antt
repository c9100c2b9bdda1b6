-- One token more: what was passed, and that none was wanted. Assumes nothing.
use mathlib.Core.Path.{◌≡◌, refl, sym, ◌∙◌, ap, subst}
use mathlib.Core.Bool.{Bool, true, false, cond, ◌&&◌}
use mathlib.Core.List.{List, [], ◌∷◌, ◌++◌}
use Prim.Native.Nat.{ℕ, suc, ◌+◌, ◌≤◌, ◌<◌}
use native.Mathlib.Omega.{arith}
use lib.Dec.{eqb}
use borrow.Author.Tests.{eq-eqb, ne_eqb}
use Rattle.notation.specs.Tokens.{TextToken}
use Rattle.posts.specs.declared.Milestone.{Milestone}
use Rattle.posts.specs.declared.Wanted.{Wanted}
use Rattle.posts.specs.declared.Wanted.TheVariants.{Post, Nonterminal}
use Rattle.posts.specs.Posts.{next_production, one_post, passed, passed_all, is_wanted, NoneWanted}
use Rattle.posts.specs.ByKind.{is_post_kind, passed_kind, is_wanted_kind}

pub passed_more : (m : Milestone) (ts : List TextToken) (t : TextToken) → passed_all m (ts ++ t ∷ []) ≡ passed (passed_all m ts) t
passed_more m [] t = refl
passed_more m (u ∷ ts) t = passed_more (passed m u) ts t

pub none_more : (w : Wanted) (m : Milestone) (ts : List TextToken) (t : TextToken) → NoneWanted w m ts → is_wanted w (passed_all m ts) t ≡ false → NoneWanted w m (ts ++ t ∷ [])
none_more w m [] t h e = (e, tt)
none_more w m (u ∷ ts) t h e = (h.0, none_more w (passed m u) ts t h.1 e)

-- what the code hands back
module _ (m : Milestone) (k : ℕ) where
  by_tests : (d p : Bool) → eqb k 23 ≡ d → is_post_kind k ≡ p → passed_kind m k ≡ cond d (next_production m) (cond p (one_post m) m)
  by_tests d p e f = ap (λ (b : Bool). cond b (next_production m) (cond (is_post_kind k) (one_post m) m)) e ∙ ap (λ (b : Bool). cond d (next_production m) (cond b (one_post m) m)) f

  pub pass_defined : k ≡ 23 → record { productions = m.productions + 1; posts = 0 } ≡ passed_kind m k
  pass_defined e =
      let z : m.productions + 1 ≡ suc m.productions = omega arith in
      ap (λ (n : ℕ). record { productions = n; posts = 0 }) z ∙ sym (by_tests true (is_post_kind k) (eq-eqb k 23 e) refl)

  pub pass_post : (b : Bool) → (k ≡ 23 → ⊥) → b ≡ is_post_kind k → b ≡ true → record { productions = m.productions; posts = m.posts + 1 } ≡ passed_kind m k
  pass_post b n e f =
      let z : m.posts + 1 ≡ suc m.posts = omega arith in
      ap (λ (n : ℕ). record { productions = m.productions; posts = n }) z ∙ sym (by_tests false true (ne_eqb k 23 n) (sym e ∙ f))

  pub pass_other : (b : Bool) → (k ≡ 23 → ⊥) → b ≡ is_post_kind k → b ≡ false → m ≡ passed_kind m k
  pass_other b n e f = sym (by_tests false false (ne_eqb k 23 n) (sym e ∙ f))

  -- no count grows by more than one
  few : (n : ℕ) (d p : Bool) → m.productions < n → m.posts < n → ((cond d (next_production m) (cond p (one_post m) m)).productions ≤ n) × ((cond d (next_production m) (cond p (one_post m) m)).posts ≤ n)
  few n true p a b = (omega (arith, a), omega arith)
  few n false true a b = (omega (arith, a), omega (arith, b))
  few n false false a b = (omega (arith, a), omega (arith, b))

  pub few_passed : (n : ℕ) (r : Milestone) → r ≡ passed_kind m k → m.productions < n → m.posts < n → (r.productions ≤ n) × (r.posts ≤ n)
  few_passed n r e a b = subst (λ (z : Milestone). (z.productions ≤ n) × (z.posts ≤ n)) (sym e) (few n (eqb k 23) (is_post_kind k) a b)

pub meets_post : (w : Wanted) (m : Milestone) (k n p j : ℕ) (b : Bool) → w ≡ Post p j → b ≡ is_post_kind k → b && (eqb m.productions p && eqb m.posts j) ≡ is_wanted_kind w m k n
meets_post w m k n p j b e f = ap (λ (z : Bool). z && (eqb m.productions p && eqb m.posts j)) f ∙ ap (λ (z : Wanted). is_wanted_kind z m k n) (sym e)

pub meets_nonterminal : (w : Wanted) (m : Milestone) (k n i : ℕ) → w ≡ Nonterminal i → eqb k 0 && eqb n i ≡ is_wanted_kind w m k n
meets_nonterminal w m k n i e = ap (λ (z : Wanted). is_wanted_kind z m k n) (sym e)
