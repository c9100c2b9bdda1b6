-- What is promised of posts: those of a production are its tag and its nodes, in the order in which they are written. Assumes nothing.
use Rattle.std.specs.Prelude.{◌≡◌, true, List, [], ◌∷◌, ◌++◌, ℕ, zero, suc}
use Rattle.std.proofs.Math.Option.{Option, none, some}
use Rattle.expressions.specs.Expr.{nonterminal, anychar, Exp, atom, cat, alt, star, empty}
use Rattle.notation.specs.Rules.{Tree, expression, TextRule, Rules}
use Rattle.notation.specs.Tokens as tokens
use Rattle.notation.specs.Tokens.{TextToken, word, CHAR, EMPTY, sign, DOT, BAR, STAR}
use Rattle.notation.specs.Productions.{RulesAre}
use Rattle.posts.specs.declared.Wanted.{Wanted}
use Rattle.posts.specs.Posts.{set_out, passed_all, is_post, NoneWanted}

-- the token that is a node's own
abbrev pub own_token : Exp → TextToken
own_token (atom (nonterminal n)) = tokens.nonterminal n
own_token (atom anychar) = word CHAR
own_token (cat l r) = sign DOT
own_token (alt l r) = sign BAR
own_token (star e) = sign STAR
own_token empty = word EMPTY

-- of every node, as they are written: a sign stands between its parts, or behind the only one
abbrev pub in_order : Exp → List TextToken
in_order (atom k) = own_token (atom k) ∷ []
in_order (cat l r) = in_order l ++ sign DOT ∷ in_order r
in_order (alt l r) = in_order l ++ sign BAR ∷ in_order r
in_order (star e) = in_order e ++ sign STAR ∷ []
in_order empty = word EMPTY ∷ []

abbrev pub in_order_of : Option Tree → List TextToken
in_order_of none = []
in_order_of (some t) = in_order (expression t)

-- the k-th of a list
abbrev pub Kth : {A : Type 0} → List A → ℕ → A → Type 0
Kth [] k x = ⊥
Kth (y ∷ l) zero x = x ≡ y
Kth (y ∷ l) (suc k) x = Kth l k x

-- behind the ::= of production q its k-th post is the k-th of these, as long as there are any
abbrev pub PostsAreNodes : Type 0
PostsAreNodes = (ts : List TextToken) (r : Rules) → RulesAre ts r → (q : ℕ) (d : TextRule) → Kth r.productions q d → (before : List TextToken) (t u : TextToken) (after : List TextToken) → ts ≡ before ++ t ∷ after
    → is_post t ≡ true → (k : ℕ) → passed_all set_out before ≡ record { productions = suc q; posts = k } → Kth (tokens.name d.tag ∷ in_order_of d.inside) k u → t ≡ u

-- and each of them is there
abbrev pub PostsThere : Type 0
PostsThere = (ts : List TextToken) (r : Rules) → RulesAre ts r → (q : ℕ) (d : TextRule) → Kth r.productions q d → (k : ℕ) (u : TextToken) → Kth (tokens.name d.tag ∷ in_order_of d.inside) k u
    → NoneWanted (Wanted.Post (suc q) k) set_out ts → ⊥
