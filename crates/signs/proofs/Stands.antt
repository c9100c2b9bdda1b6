-- Found by its post, a node's own token stands there. Assumes nothing.
use mathlib.Core.Path.{◌≡◌, refl, sym, ◌∙◌, ap, ap₂, subst}
use mathlib.Core.Bool.{Bool, true, false, ◌&&◌, true≢false}
use mathlib.Core.List.{List, [], ◌∷◌, ◌++◌}
use mathlib.Core.Option.{some}
use Prim.Native.Nat.{ℕ, suc, ◌+◌}
use native.Mathlib.Omega.{arith}
use lib.Dec.{eqb}
use lib.ListN.{length, drop}
use lib.Seq.{drop-append_seam, drop-drop}
use borrow.Author.Tests.{eqb-true}
use Rattle.std.specs.Prelude.{Option as Found, Some, None}
use Rattle.expressions.specs.Expr.{Exp}
use Rattle.parting.specs.Parting.{Node}
use Rattle.notation.specs.Rules.{Tree, expression, TextRule, Rules}
use Rattle.notation.specs.Tokens.{TextToken, name, token_bytes}
use Rattle.notation.specs.RuleText.{RuleText}
use Rattle.posts.specs.declared.Milestone.{Milestone}
use Rattle.posts.specs.declared.Wanted.{Wanted}
use Rattle.posts.specs.declared.Halt.{Halt}
use Rattle.posts.specs.Posts.{set_out, passed_all, is_post, is_wanted}
use Rattle.posts.specs.Found.{StandsAt, next, behind, FirstWanted, WantedTold, there, nowhere, HaltIs}
use Rattle.posts.specs.Promises.{own_token, in_order_of, Kth}
use Rattle.posts.proofs.Nodes.{posts_are_nodes, posts_there}
use Rattle.signs.specs.Order.{rank}
use Rattle.signs.specs.Promises.{OwnAt, SignStands}
use Rattle.signs.proofs.Own.{own_token_there}

-- the bytes from a token's place on begin with it
stands_there : {before : List TextToken} {t : TextToken} {x : List ℕ} {i : ℕ} → StandsAt before t x i → (rest : List ℕ) × (drop i x ≡ token_bytes t ++ rest)
stands_there {t = t} {x = x} {i = i} (next g r e h m n) =
    (r, ap (λ (k : ℕ). drop k x) n ∙ ap (λ (y : List ℕ). drop (length g) y) e ∙ drop-append_seam g (token_bytes t ++ r))
stands_there {t = t} {x = x} {i = i} (behind {u = u} {j = j} g r e h m s n) =
    let z = stands_there s in (
      z.0,
      ap (λ (k : ℕ). drop k x) (n ∙ far)
          ∙ sym (drop-drop (length (token_bytes u) + j) (length g) x)
          ∙ ap (λ (y : List ℕ). drop (length (token_bytes u) + j) (drop (length g) y)) e
          ∙ ap (λ (y : List ℕ). drop (length (token_bytes u) + j) y) (drop-append_seam g (token_bytes u ++ r))
          ∙ sym (drop-drop j (length (token_bytes u)) (token_bytes u ++ r))
          ∙ ap (λ (y : List ℕ). drop j y) (drop-append_seam (token_bytes u) r)
          ∙ z.1,
    )
  where
    far : length g + length (token_bytes u) + j ≡ length g + (length (token_bytes u) + j)
    far = omega arith

both_true : (a b : Bool) → a && b ≡ true → (a ≡ true) × (b ≡ true)
both_true true b e = (refl, e)
both_true false b e = absurd (true≢false (sym e))

-- what a token that is wanted is
record Met (p k : ℕ) (m : Milestone) (t : TextToken) : Type 0 where
  is_post_lem : is_post t ≡ true
  milestone : m ≡ record { productions = p; posts = k }

met : (p k : ℕ) (m : Milestone) (t : TextToken) → is_wanted (Wanted.Post p k) m t ≡ true → Met p k m t
met p k m t e =
    let a = both_true (is_post t) (eqb m.productions p && eqb m.posts k) e in
    let b = both_true (eqb m.productions p) (eqb m.posts k) a.1 in
    let x : m.productions ≡ p = eqb-true m.productions p b.0 in
    let y : m.posts ≡ k = eqb-true m.posts k b.1 in
    record { is_post_lem = a.0; milestone = ap₂ (λ (a b : ℕ). record { productions = a; posts = b }) x y }

pub sign_stands : SignStands
sign_stands text v h q d nth t inside n f node r halt = on r.found refl (halt.told v h)
  where
    post : ℕ
    post = suc (rank (expression t) 1 n)

    own : Kth (name d.tag ∷ in_order_of d.inside) post (own_token f)
    own = subst (λ o. Kth (in_order_of o) (rank (expression t) 1 n) (own_token f)) (sym inside) (own_token_there (expression t) f 1 n node)

    on : (o : Found ℕ) → r.found ≡ o → WantedTold (Wanted.Post (suc q) post) h.tokens text o → OwnAt text f r
    on (Some i) e (there w) =
        let m = met (suc q) post (passed_all set_out w.before) w.token w.wanted in
        let same : w.token ≡ own_token f = posts_are_nodes h.tokens v h.grammatical q d nth w.before w.token (own_token f) w.after w.are m.is_post_lem post m.milestone own in
        let s = stands_there w.stands in
        record { at = i; there = e; rest = s.0; are = s.1 ∙ ap (λ k. token_bytes k ++ s.0) same }
    on None e (nowhere w) = absurd (posts_there h.tokens v h.grammatical q d nth post (own_token f) own w)
