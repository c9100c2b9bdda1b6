-- What can be told of names and strings by looking. Assumes nothing.
use Rattle.std.specs.Prelude.{◌≡◌, refl, ◌⊎◌, Bool, true, false, List, [], ◌∷◌, ℕ, ◌≤◌, length}
use Rattle.std.proofs.Common.{inl, inr, arith}
use Rattle.std.proofs.Math.Decide.{dec_le, ℕ_discrete}
use Rattle.limits.specs.Limits.{longest_name}
use Rattle.text.specs.Chars.{In, Char}
use Rattle.text.specs.Characters.{AllChar, utf8s}
use Rattle.text.specs.Names.{All, Name, name_byte, name_first}
use Rattle.notation.specs.Tokens.{TagName, StringOf}

pub both? : {P Q : Type 0} → Dec P → Dec Q → Dec (P × Q)
both? (yes p) (yes q) = yes (p, q)
both? (yes p) (no q) = no (λ h. q h.1)
both? (no p) d = no (λ h. p h.0)

pub either? : {P Q : Type 0} → Dec P → Dec Q → Dec (P ⊎ Q)
either? (yes p) d = yes (inl p)
either? (no p) (yes q) = yes (inr q)
either? {P} {Q} (no p) (no q) = no neither
  where
    neither : P ⊎ Q → ⊥
    neither (inl h) = p h
    neither (inr h) = q h

pub true? : (b : Bool) → Dec (b ≡ true)
true? true = yes refl
true? false = no (λ e. let z : ◌≡◌ {A = ℕ} 0 1 = cc in omega arith)

pub all? : (p : ℕ → Bool) (l : List ℕ) → Dec (All p l)
all? p [] = yes tt
all? p (x ∷ l) = both? (true? (p x)) (all? p l)

pub name? : (n : List ℕ) → Dec (Name n)
name? [] = no (λ h. h)
name? (x ∷ n) = both? (true? (name_first x)) (all? name_byte n)

pub tag_name? : (n : List ℕ) → Dec (TagName n)
tag_name? n = told (name? n) (dec_le (length n) longest_name)
  where
    told : Dec (Name n) → Dec (length n ≤ longest_name) → Dec (TagName n)
    told (yes a) (yes s) = yes (record { a_name = a; short = s })
    told (yes a) (no s) = no (λ h. s h.short)
    told (no a) d = no (λ h. a h.a_name)

in? : (a c b : ℕ) → Dec (In a c b)
in? a c b = both? (dec_le a c) (dec_le c b)

pub char? : (c : ℕ) → Dec (Char c)
char? c =
    either? (ℕ_discrete c 0x9) (either? (ℕ_discrete c 0xA) (either? (ℕ_discrete c 0xD)
    (either? (in? 0x20 c 0xD7FF) (either? (in? 0xE000 c 0xFFFD) (in? 0x10000 c 0x10FFFF)))))

pub all_char? : (cs : List ℕ) → Dec (AllChar cs)
all_char? [] = yes tt
all_char? (c ∷ cs) = both? (char? c) (all_char? cs)

pub string? : (cs : List ℕ) → Dec (StringOf cs)
string? cs = told (all_char? cs) (dec_le (length (utf8s cs)) 255)
  where
    told : Dec (AllChar cs) → Dec (length (utf8s cs) ≤ 255) → Dec (StringOf cs)
    told (yes a) (yes s) = yes (record { characters = a; short = s })
    told (yes a) (no s) = no (λ h. s h.short)
    told (no a) d = no (λ h. a h.characters)
