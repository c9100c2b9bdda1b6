-- Numbers 2 and 3: bytes whose sections are not as they must be, and a tag whose length is 0.
-- Assumes nothing.
use mathlib.Core.Path.{◌≡◌, ap}
use mathlib.Core.Bool.{true}
use mathlib.Core.List.{List, [], ◌∷◌}
use Prim.Native.Nat.{ℕ}
use native.Mathlib.Omega.{arith}
use lib.Dec.{leb}
use lib.ListN.{length, get_or}
use borrow.Author.Tests.{leb-true}
use Rattle.text.specs.Names.{Name}
use Rattle.layout.specs.Layout.{Size, Sections}
use Rattle.sheet.specs.Tags.{tag_bytes}
use Rattle.sheet.specs.Defect.{DefectIs, its_sections, a_tag}

pub no_sections : (s : List ℕ) → leb 24 (length s) ≡ true → leb (length s) 27928 ≡ true → (Sections s → ⊥) → DefectIs s 2
no_sections s l m h = its_sections (record { least = leb-true _ _ l; most = leb-true _ _ m }) h

-- a name has a byte
unnamed : (n : List ℕ) → Name n → length n ≡ 0 → ⊥
unnamed [] h e = h
unnamed (x ∷ n) h e = omega (arith, e)

-- the first byte of tag 0 is 0
pub blank_tag : (s : List ℕ) → Size s → Sections s → get_or (tag_bytes s 0) 0 0 ≡ 0 → DefectIs s 3
blank_tag s z c e =
    a_tag z c
    (λ t. let x = t.named 0 (omega (arith, c.some_tags)) in unnamed x.0 x.1.a_name (omega (arith, e, ap (λ (u : List ℕ). get_or u 0 0) x.1.spelled)))
