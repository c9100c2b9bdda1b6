-- Strings one after another, and the first of two that is there: by cases on which are there.
-- Assumes nothing.
use mathlib.Core.Path.{◌≡◌, refl, sym, ap}
use mathlib.Core.Bool.{true, false, true≢false}
use mathlib.Core.List.{List, [], ◌∷◌, append_assoc}
use mathlib.Core.Option.{Option, none, some}
use Prim.Native.Nat.{ℕ}
use Rattle.expressions.specs.Words.{Bracket, opening, closing}
use Rattle.runs.specs.Options.{or_else}
use Rattle.runs.specs.Way.{Way as Found, joined, led, enclosed}
use Rattle.ways.specs.Held.{there, string_of}

pub joined_assoc : (o p q : Option (List Bracket)) → joined (joined o p) q ≡ joined o (joined p q)
joined_assoc none p q = refl
joined_assoc (some α) none q = refl
joined_assoc (some α) (some β) none = refl
joined_assoc (some α) (some β) (some γ) = ap some (append_assoc α β γ)

pub led_assoc : (o p : Option (List Bracket)) (w : Option Found) → led (joined o p) w ≡ led o (led p w)
led_assoc none p w = refl
led_assoc (some α) none w = refl
led_assoc (some α) (some β) none = refl
led_assoc (some α) (some β) (some w) =
    ap (λ (γ : List Bracket). some (record { string = γ; place = w.place; kind = w.kind })) (append_assoc α β w.string)

pub joined_none : (o : Option (List Bracket)) → joined o none ≡ none
joined_none none = refl
joined_none (some α) = refl

pub led_none : (o : Option (List Bracket)) → led o none ≡ none
led_none none = refl
led_none (some α) = refl

-- the empty string in front changes nothing
pub joined_empty : (o : Option (List Bracket)) → joined (some []) o ≡ o
joined_empty none = refl
joined_empty (some α) = refl

pub led_empty : (w : Option Found) → led (some []) w ≡ w
led_empty none = refl
led_empty (some w) = refl

-- the first of two that is there
pub joined_first : (o p q : Option (List Bracket)) → there (joined o p) ≡ true → joined o p ≡ joined o (or_else p q)
joined_first none p q h = refl
joined_first (some α) none q h = absurd (true≢false (sym h))
joined_first (some α) (some β) q h = refl

pub joined_second : (o p q : Option (List Bracket)) → there (joined o p) ≡ false → joined o q ≡ joined o (or_else p q)
joined_second none p q h = refl
joined_second (some α) none q h = refl
joined_second (some α) (some β) q h = absurd (true≢false h)

pub led_first : (o : Option (List Bracket)) (p q : Option Found) → there (string_of (led o p)) ≡ true → led o p ≡ led o (or_else p q)
led_first none p q h = refl
led_first (some α) none q h = absurd (true≢false (sym h))
led_first (some α) (some w) q h = refl

pub led_second : (o : Option (List Bracket)) (p q : Option Found) → there (string_of (led o p)) ≡ false → led o q ≡ led o (or_else p q)
led_second none p q h = refl
led_second (some α) none q h = refl
led_second (some α) (some w) q h = absurd (true≢false h)

-- a node's own brackets around a string
pub enclosed_is : (i : ℕ) (o p : Option (List Bracket)) → joined (joined (joined o (some (opening i ∷ []))) p) (some (closing i ∷ [])) ≡ joined o (enclosed i p)
enclosed_is i none p = refl
enclosed_is i (some α) none = refl
enclosed_is i (some α) (some β) = ap some (simp append_assoc)
