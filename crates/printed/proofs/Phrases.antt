-- Bytes that spell tokens in front of whatever may follow. Assumes nothing.
use mathlib.Core.Path.{◌≡◌, refl, sym, subst}
use mathlib.Core.Bool.{Bool, true, false}
use mathlib.Core.List.{List, [], ◌∷◌, ◌++◌, append_assoc}
use Prim.Native.Nat.{ℕ}
use Rattle.notation.specs.Tokens.{TextToken, name, word, Keyword, sign, Sign, OPEN, word_bytes, sign_bytes, token_bytes}
use Rattle.notation.specs.Gaps.{Gap, white, Ending, gap, open_comment}
use Rattle.notation.specs.Spelled.{word_byte, joins, MayFollow, TypedAs, end, token}
use Rattle.printed.specs.Spacing.{◌␣◌}

-- it belongs to no word in front of it
abbrev pub Quiet : List ℕ → Type 0
Quiet [] = Unit {0}
Quiet (b ∷ bs) = word_byte b ≡ false

pub record Phrase (ts : List TextToken) (x : List ℕ) : Type 0 where
  pub spells : (us : List TextToken) (y : List ℕ) → Quiet y → TypedAs us y → TypedAs (ts ++ us) (x ++ y)

-- a blank in front
pub blank_front : (b : ℕ) → Rattle.text.specs.Names.blank b ≡ true → (ts : List TextToken) (x : List ℕ) → TypedAs ts x → TypedAs ts (b ∷ x)
blank_front b h ts x (end (gap g)) = end (gap (white h g))
blank_front b h ts x (end (open_comment {g = g} c i j)) = end (open_comment {g = b ∷ g} c (white h i) j)
blank_front b h ts x (token {g = g} {rest = r} t i m s) = token {g = b ∷ g} {rest = r} t (white h i) m s

-- no bytes
pub empty_phrase : Phrase [] []
empty_phrase = record { spells = λ us y q s. s }

pub a_word : (t : TextToken) → ((b : ℕ) → joins t b ≡ word_byte b) → Phrase (t ∷ []) (token_bytes t)
a_word t h = record { spells = λ us y q s. token {g = []} {rest = y} t Gap.none (may y q) s }
  where
    may : (y : List ℕ) → Quiet y → MayFollow t y
    may [] q = tt
    may (b ∷ y) q = subst (λ z. z ≡ false) (sym (h b)) q

-- a token that nothing joins
pub closed : (t : TextToken) → ((b : ℕ) → joins t b ≡ false) → (ts : List TextToken) (x : List ℕ) → Phrase ts x → Phrase (t ∷ ts) (token_bytes t ++ x)
closed t h ts x p = record { spells = λ us y q s. rw append_assoc (token {g = []} {rest = x ++ y} t Gap.none (may (x ++ y)) (p.spells us y q s)) }
  where
    may : (y : List ℕ) → MayFollow t y
    may [] = tt
    may (b ∷ y) = h b

pub closed_alone : (t : TextToken) → ((b : ℕ) → joins t b ≡ false) → Phrase (t ∷ []) (token_bytes t)
closed_alone t h = record { spells = λ us y q s. token {g = []} {rest = y} t Gap.none (may y) s }
  where
    may : (y : List ℕ) → MayFollow t y
    may [] = tt
    may (b ∷ y) = h b

-- one after the other
pub spaced : (ts us : List TextToken) (x y : List ℕ) → Phrase ts x → Phrase us y → Phrase (ts ++ us) (x ␣ y)
spaced ts us x y p q = record { spells = λ ws z h s. rw (append_assoc, append_assoc) (p.spells (us ++ ws) (32 ∷ (y ++ z)) refl (blank_front 32 refl (us ++ ws) (y ++ z) (q.spells ws z h s))) }

pub joined : (ts us : List TextToken) (x y : List ℕ) → Phrase ts x → Phrase us y → ((z : List ℕ) → Quiet z → Quiet (y ++ z)) → Phrase (ts ++ us) (x ++ y)
joined ts us x y p q quiet = record { spells = λ ws z h s. rw (append_assoc, append_assoc) (p.spells (us ++ ws) (y ++ z) (quiet z h) (q.spells ws z h s)) }

-- a space in front
pub space_front : (ts : List TextToken) (x : List ℕ) → Phrase ts x → Phrase ts (32 ∷ x)
space_front ts x p = record { spells = λ us y q s. blank_front 32 refl (ts ++ us) (x ++ y) (p.spells us y q s) }

-- bytes that spell tokens of a kind
pub record Said (Is : List TextToken → Type 0) (x : List ℕ) : Type 0 where
  pub tokens : List TextToken
  pub are : Is tokens
  pub phrase : Phrase tokens x

pub said_as : {A B : List TextToken → Type 0} {x : List ℕ} → ((ts : List TextToken) → A ts → B ts) → Said A x → Said B x
said_as f s = record { tokens = s.tokens; are = f s.tokens s.are; phrase = s.phrase }

pub spaced_said : {A B C : List TextToken → Type 0} {x y : List ℕ} → ((ts us : List TextToken) → A ts → B us → C (ts ++ us)) → Said A x → Said B y → Said C (x ␣ y)
spaced_said {x = x} {y = y} f s t = record { tokens = s.tokens ++ t.tokens; are = f s.tokens t.tokens s.are t.are; phrase = spaced s.tokens t.tokens x y s.phrase t.phrase }
