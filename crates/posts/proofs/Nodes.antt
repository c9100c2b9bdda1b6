-- A production's posts are its tag and its nodes in order. Assumes nothing.
use mathlib.Core.Path.{◌≡◌, refl, sym, ◌∙◌, ap, subst}
use mathlib.Core.Bool.{Bool, true, false, cond, ◌&&◌, true≢false}
use mathlib.Core.List.{List, [], ◌∷◌, ◌++◌, append-nil}
use mathlib.Core.Option.{Option}
use Prim.Native.Nat.{ℕ, zero, suc, ◌+◌, ◌≤◌}
use native.Mathlib.Omega.{arith}
use lib.Dec.{eqb}
use borrow.Author.Tests.{eq-eqb}
use Rattle.notation.specs.Rules.{Tree, TextRule, Rules}
use Rattle.notation.specs.Tokens.{TextToken, nonterminal, value, attribute, name, start_tag, end_tag, empty_tag, string, word, sign, DEFINED, ASSIGNED, OPEN, CLOSE, BRACE, UNBRACE, DOT, BAR, STAR, SEMICOLON, EQUALS}
use Rattle.notation.specs.Productions.{ContentIs, nothing, something, RuleIs, production, ProductionsAre, one, more, RulesAre, start_alone, start_first}
use Rattle.posts.specs.declared.Milestone.{Milestone}
use Rattle.posts.specs.declared.Wanted.{Wanted}
use Rattle.posts.specs.Posts.{is_post, is_defined, set_out, next_production, one_post, passed, passed_all, is_wanted, NoneWanted}
use Rattle.posts.specs.Promises.{in_order_of, Kth, PostsAreNodes, PostsThere}
use Rattle.posts.proofs.Shown.{posts_in, Shows, nothing_shown, braces_mute, post_shown, after_mute, before_mute, one_behind, inside_shows}

-- a post is no ::=
post_only : (t : TextToken) → is_post t ≡ true → is_defined t ≡ false
post_only (nonterminal n) h = refl
post_only (value v) h = refl
post_only (attribute m a) h = refl
post_only (name n) h = refl
post_only (start_tag n) h = refl
post_only (end_tag n) h = refl
post_only (empty_tag n) h = refl
post_only (string cs) h = refl
post_only (word w) h = refl
post_only (sign DEFINED) h = absurd (true≢false (sym h))
post_only (sign ASSIGNED) h = refl
post_only (sign OPEN) h = refl
post_only (sign CLOSE) h = refl
post_only (sign BRACE) h = refl
post_only (sign UNBRACE) h = refl
post_only (sign DOT) h = refl
post_only (sign BAR) h = refl
post_only (sign STAR) h = refl
post_only (sign SEMICOLON) h = refl
post_only (sign EQUALS) h = refl

-- what a token leads to, by what it is
data Moved (m : Milestone) (t : TextToken) : Type 0 where
  begins : is_defined t ≡ true → passed m t ≡ next_production m → Moved m t
  counts : is_defined t ≡ false → is_post t ≡ true → passed m t ≡ one_post m → Moved m t
  stays : is_defined t ≡ false → is_post t ≡ false → passed m t ≡ m → Moved m t

moved : (m : Milestone) (t : TextToken) → Moved m t
moved m t = on (is_defined t) (is_post t) refl refl
  where
    on : (d p : Bool) → is_defined t ≡ d → is_post t ≡ p → Moved m t
    on true p e f = begins e (ap (λ (k : Bool). cond k (next_production m) (cond (is_post t) (one_post m) m)) e)
    on false true e f = counts e f (ap (λ (k : Bool). cond k (next_production m) (cond (is_post t) (one_post m) m)) e ∙ ap (λ (k : Bool). cond k (one_post m) m) f)
    on false false e f = stays e f (ap (λ (k : Bool). cond k (next_production m) (cond (is_post t) (one_post m) m)) e ∙ ap (λ (k : Bool). cond k (one_post m) m) f)

no_fewer : (m : Milestone) (ts : List TextToken) → m.productions ≤ (passed_all m ts).productions
no_fewer m [] = omega arith
no_fewer m (t ∷ ts) = on (moved m t) (no_fewer (passed m t) ts)
  where
    on : Moved m t → (passed m t).productions ≤ (passed_all (passed m t) ts).productions → m.productions ≤ (passed_all (passed m t) ts).productions
    on (begins d e) h = omega (arith, h, ap (λ (k : Milestone). k.productions) e)
    on (counts d p e) h = omega (arith, h, ap (λ (k : Milestone). k.productions) e)
    on (stays d p e) h = omega (arith, h, ap (λ (k : Milestone). k.productions) e)

-- the token is among the posts behind b more ::= signs, a posts of the first of them having been passed
abbrev Among : ℕ → ℕ → ℕ → List TextToken → TextToken → Type 0
Among zero a k l t = (j : ℕ) × (k ≡ a + j) × Kth (posts_in zero l) j t
Among (suc b) a k l t = Kth (posts_in (suc b) l) k t

begun_among : (b a k : ℕ) (u t : TextToken) (l : List TextToken) → is_defined u ≡ true → Among b 0 k l t → Among (suc b) a k (u ∷ l) t
begun_among zero a k u t l d (j, e, h) =
    let i : k ≡ j = omega (arith, e) in
    subst (λ (y : List TextToken). Kth y k t) (sym (ap (λ (z : Bool). cond z (posts_in zero l) (posts_in (suc zero) l)) d)) (subst (λ (i : ℕ). Kth (posts_in zero l) i t) (sym i) h)
begun_among (suc b) a k u t l d h = subst (λ (y : List TextToken). Kth y k t) (sym (ap (λ (z : Bool). cond z (posts_in (suc b) l) (posts_in (suc (suc b)) l)) d)) h

shown_as : (u : TextToken) (l : List TextToken) (p : Bool) → is_defined u ≡ false → is_post u ≡ p → posts_in zero (u ∷ l) ≡ cond p (u ∷ posts_in zero l) (posts_in zero l)
shown_as u l p d e =
    ap (λ (z : Bool). cond z [] (cond (is_post u) (u ∷ posts_in zero l) (posts_in zero l))) d ∙ ap (λ (z : Bool). cond z (u ∷ posts_in zero l) (posts_in zero l)) e

skipped_as : (b : ℕ) (u : TextToken) (l : List TextToken) → is_defined u ≡ false → posts_in (suc b) (u ∷ l) ≡ posts_in (suc b) l
skipped_as b u l d = ap (λ (z : Bool). cond z (posts_in b l) (posts_in (suc b) l)) d

counted_among : (b a k : ℕ) (u t : TextToken) (l : List TextToken) → is_defined u ≡ false → is_post u ≡ true → Among b (suc a) k l t → Among b a k (u ∷ l) t
counted_among zero a k u t l d p (j, e, h) = (suc j, omega (arith, e), subst (λ (y : List TextToken). Kth y (suc j) t) (sym (shown_as u l true d p)) h)
counted_among (suc b) a k u t l d p h = subst (λ (y : List TextToken). Kth y k t) (sym (skipped_as b u l d)) h

stayed_among : (b a k : ℕ) (u t : TextToken) (l : List TextToken) → is_defined u ≡ false → is_post u ≡ false → Among b a k l t → Among b a k (u ∷ l) t
stayed_among zero a k u t l d p (j, e, h) = (j, e, subst (λ (y : List TextToken). Kth y j t) (sym (shown_as u l false d p)) h)
stayed_among (suc b) a k u t l d p h = subst (λ (y : List TextToken). Kth y k t) (sym (skipped_as b u l d)) h

-- the token behind these is among the posts
among : (before : List TextToken) (t : TextToken) (after : List TextToken) → is_post t ≡ true → (m : Milestone) (b : ℕ) → (passed_all m before).productions ≡ m.productions + b
    → Among b m.posts (passed_all m before).posts (before ++ t ∷ after) t
among [] t after p m zero e = (0, omega arith, subst (λ (y : List TextToken). Kth y 0 t) (sym (shown_as t after true (post_only t p) p)) refl)
among [] t after p m (suc b) e = absurd (omega (arith, e))
among (u ∷ before) t after p m b e = on (λ c g. among before t after p (passed m u) c g) (moved m u) b e
  where
    on : ((c : ℕ) → (passed_all (passed m u) before).productions ≡ (passed m u).productions + c → Among c (passed m u).posts (passed_all (passed m u) before).posts (before ++ t ∷ after) t)
        → Moved m u → (c : ℕ) → (passed_all (passed m u) before).productions ≡ m.productions + c → Among c m.posts (passed_all (passed m u) before).posts (u ∷ (before ++ t ∷ after)) t
    on again (begins d f) zero g = absurd (omega (arith, g, no_fewer (passed m u) before, ap (λ (k : Milestone). k.productions) f))
    on again (begins d f) (suc c) g =
        begun_among c m.posts (passed_all (passed m u) before).posts u t (before ++ t ∷ after) d
        (subst (λ (a : ℕ). Among c a (passed_all (passed m u) before).posts (before ++ t ∷ after) t) (ap (λ (k : Milestone). k.posts) f)
        (again c (omega (arith, g, ap (λ (k : Milestone). k.productions) f))))
    on again (counts d q f) c g =
        counted_among c m.posts (passed_all (passed m u) before).posts u t (before ++ t ∷ after) d q
        (subst (λ (a : ℕ). Among c a (passed_all (passed m u) before).posts (before ++ t ∷ after) t) (ap (λ (k : Milestone). k.posts) f)
        (again c (omega (arith, g, ap (λ (k : Milestone). k.productions) f))))
    on again (stays d q f) c g =
        stayed_among c m.posts (passed_all (passed m u) before).posts u t (before ++ t ∷ after) d q
        (subst (λ (a : ℕ). Among c a (passed_all (passed m u) before).posts (before ++ t ∷ after) t) (ap (λ (k : Milestone). k.posts) f)
        (again c (omega (arith, g, ap (λ (k : Milestone). k.productions) f))))

-- what stands behind a production's ::=
content_shows : {ts : List TextToken} {o : Option Tree} → ContentIs ts o → Shows ts (in_order_of o)
content_shows nothing = nothing_shown
content_shows (something h) = inside_shows h

record Body (ts : List TextToken) (d : TextRule) : Type 0 where
  owner : ℕ
  rest : List TextToken
  are : ts ≡ nonterminal owner ∷ sign DEFINED ∷ rest
  shows : Shows rest (name d.tag ∷ in_order_of d.inside)

body : {ts : List TextToken} {d : TextRule} → RuleIs ts d → Body ts d
body (production {n = n} {tag = tag} {fs = fs} {ts = ts} {gs = gs} {e = e} h f g c k) = record {
  owner = n;
  rest = fs ++ name tag ∷ sign OPEN ∷ (ts ++ sign CLOSE ∷ gs);
  are = refl;
  shows =
      after_mute fs (name tag ∷ sign OPEN ∷ (ts ++ sign CLOSE ∷ gs)) (name tag ∷ in_order_of e) (braces_mute f)
      (one_behind (name tag ∷ []) (sign OPEN ∷ (ts ++ sign CLOSE ∷ gs)) (name tag ∷ []) (in_order_of e) (post_shown (name tag) refl refl)
      (after_mute (sign OPEN ∷ []) (ts ++ sign CLOSE ∷ gs) (in_order_of e) (record { skipped = λ b ys. refl; shown = λ ys. refl })
      (before_mute ts (sign CLOSE ∷ gs) (in_order_of e) (content_shows c)
      (after_mute (sign CLOSE ∷ []) gs [] (record { skipped = λ b ys. refl; shown = λ ys. refl }) (braces_mute k)))));
}

-- the posts behind the ::= of production q begin with its own
record Begin (q : ℕ) (ts : List TextToken) (d : TextRule) : Type 0 where
  others : List TextToken
  are : posts_in (suc q) ts ≡ (name d.tag ∷ in_order_of d.inside) ++ others

first_begins : (ts us : List TextToken) (d : TextRule) → Body ts d → Begin zero (ts ++ us) d
first_begins ts us d b = record { others = posts_in zero us; are = ap (λ (y : List TextToken). posts_in (suc zero) (y ++ us)) b.are ∙ b.shows.shown us }

later_begins : (q : ℕ) (ts us : List TextToken) (d e : TextRule) → Body ts d → Begin q us e → Begin (suc q) (ts ++ us) e
later_begins q ts us d e b i = record { others = i.others; are = ap (λ (y : List TextToken). posts_in (suc (suc q)) (y ++ us)) b.are ∙ b.shows.skipped q us ∙ i.are }

productions_begin : {ts : List TextToken} {rs : List TextRule} → ProductionsAre ts rs → (q : ℕ) (d : TextRule) → Kth rs q d → Begin q ts d
productions_begin (one {ts = ts} {r = r} h) zero d e =
    subst (λ (y : List TextToken). Begin zero y d) (append-nil ts) (subst (Begin zero (ts ++ [])) (sym e) (first_begins ts [] r (body h)))
productions_begin (one h) (suc q) d e = absurd e
productions_begin (more {ts = ts} {us = us} {r = r} h k) zero d e = subst (Begin zero (ts ++ us)) (sym e) (first_begins ts us r (body h))
productions_begin (more {ts = ts} {us = us} {r = r} h k) (suc q) d e = later_begins q ts us r d (body h) (productions_begin k q d e)

rules_begin : {ts : List TextToken} {r : Rules} → RulesAre ts r → (q : ℕ) (d : TextRule) → Kth r.productions q d → Begin q ts d
rules_begin (start_alone {n = n} h k) q d e = let b = productions_begin k q d e in record { others = b.others; are = b.are }
rules_begin (start_first k) q d e = productions_begin k q d e

-- the k-th of a longer list
one_numbered : (l r : List TextToken) (k : ℕ) (t u : TextToken) → Kth (l ++ r) k t → Kth l k u → t ≡ u
one_numbered [] r k t u h i = absurd i
one_numbered (x ∷ l) r zero t u h i = h ∙ sym i
one_numbered (x ∷ l) r (suc k) t u h i = one_numbered l r k t u h i

pub posts_are_nodes : PostsAreNodes
posts_are_nodes ts r h q d n before t u after e p k m i =
    let b = rules_begin h q d n in
    let a : Kth (posts_in (suc q) (before ++ t ∷ after)) (passed_all set_out before).posts t = among before t after p set_out (suc q) (omega (arith, ap (λ (z : Milestone). z.productions) m)) in
    let c : Kth ((name d.tag ∷ in_order_of d.inside) ++ b.others) k t =
    subst (λ (z : List TextToken). Kth z k t) b.are (subst (λ (z : List TextToken). Kth (posts_in (suc q) z) k t) (sym e) (subst (λ (z : ℕ). Kth (posts_in (suc q) (before ++ t ∷ after)) z t) (ap (λ (z : Milestone). z.posts) m) a)) in
    one_numbered (name d.tag ∷ in_order_of d.inside) b.others k t u c i

-- none is wanted of tokens among whose posts the one that is wanted stands
abbrev far : ℕ → ℕ → ℕ → ℕ
far zero a k = a + k
far (suc b) a k = k

far_fresh : (b k : ℕ) → far b 0 k ≡ k
far_fresh zero k = omega arith
far_fresh (suc b) k = refl

is_met : (m : Milestone) (t : TextToken) (p k : ℕ) → is_post t ≡ true → p ≡ m.productions → k ≡ m.posts → is_wanted (Wanted.Post p k) m t ≡ true
is_met m t p k e f g =
    ap (λ (z : Bool). z && (eqb m.productions p && eqb m.posts k)) e ∙ ap (λ (z : Bool). z && eqb m.posts k) (eq-eqb m.productions p (sym f)) ∙ eq-eqb m.posts k (sym g)

none_there : (ts : List TextToken) (m : Milestone) (b k p j : ℕ) (u : TextToken) → Kth (posts_in b ts) k u → p ≡ m.productions + b → j ≡ far b m.posts k → NoneWanted (Wanted.Post p j) m ts → ⊥
none_there [] m b k p j u h e f n = h
none_there (t ∷ ts) m b k p j u h e f n = on (λ c i a x y. none_there ts (passed m t) c i p j u a x y n.1) (moved m t) b k h e f
  where
    on : ((c i : ℕ) → Kth (posts_in c ts) i u → p ≡ (passed m t).productions + c → j ≡ far c (passed m t).posts i → ⊥) → Moved m t → (c i : ℕ) → Kth (posts_in c (t ∷ ts)) i u → p ≡ m.productions + c → j ≡ far c m.posts i → ⊥
    on again (begins d g) zero i a x y = subst (λ (z : List TextToken). Kth z i u) (ap (λ (z : Bool). cond z [] (cond (is_post t) (t ∷ posts_in zero ts) (posts_in zero ts))) d) a
    on again (begins d g) (suc c) i a x y =
        again c i (subst (λ (z : List TextToken). Kth z i u) (ap (λ (z : Bool). cond z (posts_in c ts) (posts_in (suc c) ts)) d) a)
        (omega (arith, x, ap (λ (z : Milestone). z.productions) g)) (y ∙ sym (ap (λ (z : Milestone). far c z.posts i) g ∙ far_fresh c i))
    on again (counts d q g) zero zero a x y =
        let z : is_wanted (Wanted.Post p j) m t ≡ true = is_met m t p j q (omega (arith, x)) (omega (arith, y)) in
        true≢false (sym z ∙ n.0)
    on again (counts d q g) zero (suc i) a x y =
        again zero i (subst (λ (z : List TextToken). Kth z (suc i) u) (shown_as t ts true d q) a)
        (omega (arith, x, ap (λ (z : Milestone). z.productions) g)) (omega (arith, y, ap (λ (z : Milestone). z.posts) g))
    on again (counts d q g) (suc c) i a x y =
        again (suc c) i (subst (λ (z : List TextToken). Kth z i u) (skipped_as c t ts d) a) (omega (arith, x, ap (λ (z : Milestone). z.productions) g)) y
    on again (stays d q g) zero i a x y =
        again zero i (subst (λ (z : List TextToken). Kth z i u) (shown_as t ts false d q) a)
        (omega (arith, x, ap (λ (z : Milestone). z.productions) g)) (omega (arith, y, ap (λ (z : Milestone). z.posts) g))
    on again (stays d q g) (suc c) i a x y =
        again (suc c) i (subst (λ (z : List TextToken). Kth z i u) (skipped_as c t ts d) a) (omega (arith, x, ap (λ (z : Milestone). z.productions) g)) y

still_numbered : (l r : List TextToken) (k : ℕ) (t : TextToken) → Kth l k t → Kth (l ++ r) k t
still_numbered [] r k t h = absurd h
still_numbered (x ∷ l) r zero t h = h
still_numbered (x ∷ l) r (suc k) t h = still_numbered l r k t h

pub posts_there : PostsThere
posts_there ts r h q d n k u i w =
    let b = rules_begin h q d n in
    none_there ts set_out (suc q) k (suc q) k u (subst (λ (z : List TextToken). Kth z k u) (sym b.are) (still_numbered (name d.tag ∷ in_order_of d.inside) b.others k u i)) (omega arith) refl w
