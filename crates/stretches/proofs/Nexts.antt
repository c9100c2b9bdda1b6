-- A byte that is a character by itself is what the reader says; and what the reader's answer tells of characters.
-- Assumes nothing.
use mathlib.Core.Path.{◌≡◌, refl, sym, ap, ◌∙◌, subst}
use mathlib.Core.Logic.{◌⊎◌, inl, inr, ⊎_elim}
use mathlib.Core.Bool.{Bool, true, false, not, ◌&&◌, ◌||◌, true≢false}
use mathlib.Core.List.{List, [], ◌∷◌, ◌++◌}
use Prim.Native.Nat.{ℕ, suc, ◌+◌, ◌-◌, ◌≤◌, ◌<◌}
use native.Mathlib.Omega.{arith}
use lib.Dec.{leb, ltb, eqb}
use lib.ListN.{length, drop, get_or}
use lib.Seq.{drop-cons}
use borrow.Author.Tests.{ne_eqb, eqb-true, eqb-false, leb-true, ltb-true, not-true}
use Rattle.text.specs.Chars.{Char, utf8}
use Rattle.text.specs.Names.{blank}
use Rattle.text.proofs.Shapes.{shape1}
use Rattle.tokens.specs.Tokens.{front, Means, char}
use Rattle.tokens.specs.declared.Cursor.{Cursor}
use Rattle.tokens.specs.declared.Event.{Event}
use Rattle.tokens.specs.declared.Event.TheVariants.{Start, End, Empty, Character}
use Rattle.tokens.specs.declared.Answer.{Answer}
use Rattle.tokens.specs.declared.Answer.TheVariants.{Token, Waiting, Begun, Bad, Long}
use Rattle.tokens.proofs.Theory.{one_answer}
use Rattle.tokens.proofs.Streams.{token_moves}
use Rattle.calls.proofs.Read.{token_means}
use Rattle.stretches.specs.declared.Literal.{Literal}
use Rattle.std.specs.Prelude.{Option as Stands, Some, None}
use Rattle.output.specs.Escape.{escaped_as, escaped}
use Rattle.output.specs.Reach.{farthest}
use Rattle.runs.specs.Visits.{most_visits}
use Rattle.stretches.specs.Literal.{plain, space, allows, LiteralIs}

-- the event of a token
abbrev event_in : Answer → Event
event_in (Token e n) = e
event_in (Waiting e n) = e
event_in Begun = Character 0 true
event_in Bad = Character 0 true
event_in Long = Character 0 true

-- whether an event's character stood there itself
abbrev literally : Event → Bool
literally (Start from len) = true
literally (End from len) = true
literally (Empty from len) = true
literally (Character c l) = l

or_true : (a b : Bool) → (a || b) ≡ true → (a ≡ true) ⊎ (b ≡ true)
or_true true b h = inl refl
or_true false b h = inr h

pub and_true : (a b : Bool) → (a && b) ≡ true → (a ≡ true) × (b ≡ true)
and_true true b h = (refl, h)
and_true false b h = absurd (true≢false (sym h))

-- what the limits allow
pub record Allowed (k count room to : ℕ) : Type 0 where
  pub visits : count + k ≤ most_visits
  pub longest : 5 ≤ room
  pub reach : to ≤ farthest

pub allowed_is : (k count room to : ℕ) → k ≤ most_visits → allows k count room to ≡ true → Allowed k count room to
allowed_is k count room to h e =
    let p = and_true (leb count (most_visits - k)) (leb 5 room && leb to farthest) e in
    let q = and_true (leb 5 room) (leb to farthest) p.1 in
    record { visits = omega (arith, h, leb-true count (most_visits - k) p.0); longest = leb-true 5 room q.0; reach = leb-true to farthest q.1 }

pub record Alone (b : ℕ) : Type 0 where
  pub small : b < 128
  pub char_ok : Char b
  pub not_60 : b ≡ 60 → ⊥
  pub not_38 : b ≡ 38 → ⊥
  pub not_62 : b ≡ 62 → ⊥
  pub not_13 : b ≡ 13 → ⊥

pub alone_plain : (b : ℕ) → plain b ≡ true → Alone b
alone_plain b h =
    let p = and_true (leb 32 b) (ltb b 127 && (not (eqb b 60) && (not (eqb b 38) && not (eqb b 62)))) h in
    let q = and_true (ltb b 127) (not (eqb b 60) && (not (eqb b 38) && not (eqb b 62))) p.1 in
    let r = and_true (not (eqb b 60)) (not (eqb b 38) && not (eqb b 62)) q.1 in
    let s = and_true (not (eqb b 38)) (not (eqb b 62)) r.1 in
    let low = leb-true 32 b p.0 in
    let high = ltb-true b 127 q.0 in
    record {
      small = omega arith;
      char_ok = inr (inr (inr (inl (omega arith, omega arith))));
      not_60 = eqb-false b 60 (not-true _ r.0);
      not_38 = eqb-false b 38 (not-true _ s.0);
      not_62 = eqb-false b 62 (not-true _ s.1);
      not_13 = λ q. omega arith;
    }

spaces : (b : ℕ) → space b ≡ true → (b ≡ 32) ⊎ ((b ≡ 9) ⊎ (b ≡ 10))
spaces b h =
    ⊎_elim (λ e. inl (eqb-true b 32 e)) (λ e. ⊎_elim (λ f. inr (inl (eqb-true b 9 f))) (λ f. inr (inr (eqb-true b 10 f))) (or_true (eqb b 9) (eqb b 10) e))
    (or_true (eqb b 32) (eqb b 9 || eqb b 10) h)

pub alone_space : (b : ℕ) → space b ≡ true → Alone b
alone_space b h =
    ⊎_elim (λ e. by e (inr (inr (inr (inl (omega arith, omega arith))))) (omega arith) (λ q. omega arith))
    (⊎_elim (λ e. by e (inl e) (omega arith) (λ q. omega arith)) (λ e. by e (inr (inl e)) (omega arith) (λ q. omega arith)))
    (spaces b h)
  where
    by : {n : ℕ} → b ≡ n → Char b → n < 33 → (b ≡ 13 → ⊥) → Alone b
    by e c s h = record { small = omega arith; char_ok = c; not_60 = λ q. omega arith; not_38 = λ q. omega arith; not_62 = λ q. omega arith; not_13 = h }

pub blank_space : (b : ℕ) → space b ≡ true → blank b ≡ true
blank_space b h = ⊎_elim (λ e. rw e) (⊎_elim (λ e. rw e) (λ e. rw e)) (spaces b h)

-- its bytes in the stream and as we write it: itself
pub one_byte : (b : ℕ) → Alone b → utf8 b ≡ b ∷ []
one_byte b a = shape1 b a.small

pub as_it_is : (b : ℕ) → Alone b → escaped b ≡ b ∷ []
unfolding escaped_as
as_it_is b a = rw (ne_eqb b 38 a.not_38, ne_eqb b 60 a.not_60, ne_eqb b 62 a.not_62, ne_eqb b 13 a.not_13) (one_byte b a)

module _ (part : List ℕ) (at : ℕ) where
  pub alone_next : at < length part → Alone (get_or part at 0) → Means (front part at) at (Token (Character (get_or part at 0) true) (record { at = at + 1 }))
  alone_next h a =
      let b : ℕ = get_or part at 0 in
      let bytes : utf8 b ≡ b ∷ [] = one_byte b a in
      let starts : drop at part ≡ utf8 b ++ drop (suc at) part = drop-cons part at 0 h ∙ ap (λ (w : List ℕ). w ++ drop (suc at) part) (sym bytes) in
      let read = token_means part at (char b) (drop (suc at) part) starts (a.char_ok, a.not_60, a.not_38, a.not_62, a.not_13) (omega (arith, ap length bytes)) tt in
      subst (λ (n : ℕ). Means (front part at) at (Token (Character b true) (record { at = at + n }))) (ap length bytes) read

  module _ (x : Answer) (m : Means (front part at) at x) where
    pub no_token : ((e : Event) (next : Cursor) → x ≡ Token e next → ⊥) → LiteralIs part at None
    no_token h c next n = h (Character c true) next (one_answer (front part at) at x (Token (Character c true) next) m n)

    module _ (e : Event) (next : Cursor) (q : x ≡ Token e next) where
      token : Means (front part at) at (Token e next)
      token = subst (Means (front part at) at) q m

      pub no_character : ((c : ℕ) (l : Bool) → e ≡ Character c l → ⊥) → LiteralIs part at None
      no_character h c then n = h c true (ap event_in (one_answer (front part at) at (Token e next) (Token (Character c true) then) token n))

      pub by_reference : (c : ℕ) (l : Bool) → e ≡ Character c l → l ≡ false → LiteralIs part at None
      by_reference c l f k d then n =
          true≢false (sym (ap (λ (y : Answer). literally (event_in y)) (one_answer (front part at) at (Token e next) (Token (Character d true) then) token n)) ∙ ap literally f ∙ k)

      module _ (h : at ≤ length part) (c : ℕ) (l : Bool) (f : e ≡ Character c l) (k : l ≡ true) where
        there : Means (front part at) at (Token (Character c true) next)
        there = subst (λ (y : Event). Means (front part at) at (Token y next)) (f ∙ ap (Character c) k) token

        pub reaches : at ≤ next.at
        reaches = omega (arith, (token_moves part at (Character c true) next h there.0).0)

        pub read_character : LiteralIs part at (Some (record { character = c; width = next.at - at }))
        read_character =
            let n : next.at ≡ at + (next.at - at) = omega (arith, reaches) in
            subst (λ (i : ℕ). Means (front part at) at (Token (Character c true) (record { at = i }))) n there

  -- what stands there is what the reader says, and takes a byte at least
  pub stands : (r : Stands Literal) → LiteralIs part at r → (l : Literal) → r ≡ Some l → Means (front part at) at (Token (Character l.character true) (record { at = at + l.width }))
  stands r m l q = subst (LiteralIs part at) q m

  pub onward : (c n : ℕ) → at ≤ length part → Means (front part at) at (Token (Character c true) (record { at = at + n })) → (0 < n) × (at + n ≤ length part)
  onward c n h m =
      let moved = token_moves part at (Character c true) (record { at = at + n }) h m.0 in
      (omega (arith, moved.0), moved.1)
