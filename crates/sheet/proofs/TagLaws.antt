-- Laws of number 3: a tag's 16 bytes by their parts, and all tags by what holds of each.
-- Assumes nothing.
use mathlib.Core.Path.{◌≡◌, refl, ap, sym, ◌∙◌}
use mathlib.Core.Bool.{Bool, true, ◌&&◌}
use mathlib.Core.List.{List, [], ◌∷◌, ◌++◌}
use Prim.Native.Nat.{ℕ, suc, ◌+◌, ◌-◌, ◌*◌, ◌≤◌, ◌<◌}
use native.Mathlib.Omega.{arith}
use lib.Dec.{eqb}
use Rattle.std.specs.List.{list_all}
use lib.ListN.{length, get_or, take, drop, replicate, length-take, length-drop, length-replicate, take-append-drop}
use lib.Seq.{take_at, drop_at, take_all}
use Rattle.text.specs.Names.{name_first, name_byte, All}
use Rattle.tells.specs.Tells.{Tells, holds}
use Rattle.layout.specs.Layout.{tag_count}
use Rattle.layout.specs.LaidOut.{LaidOut}
use Rattle.layout.specs.declared.Layout.{Layout}
use Rattle.sheet.specs.Tags.{tag_bytes, TagAt, Tags}
use Rattle.sheet.specs.TagTests.{TagSpelled, New}
use Rattle.tells.proofs.Laws.{as_told, both_told, bool_tells, eqb_tells}

-- what a test of every byte tells
pub all_listed : (p : ℕ → Bool) (f : List ℕ) (b : Bool) → b ≡ list_all p f → Tells (All p f) b
all_listed p f b e = rw e (go f) where
  go : (f : List ℕ) → Tells (All p f) (list_all p f)
  go [] = holds tt
  go (x ∷ f) = both_told (bool_tells (p x)) (go f)

-- zero fill
abbrev zeros : ℕ → List ℕ
zeros n = replicate n 0

pub zeros_listed : (f : List ℕ) (b : Bool) → b ≡ list_all (λ x. eqb x 0) f → Tells (f ≡ replicate (length f) 0) b
zeros_listed f b e = rw e (go f) where
  go : (f : List ℕ) → Tells (f ≡ replicate (length f) 0) (list_all (λ x. eqb x 0) f)
  go [] = holds refl
  go (x ∷ f) = as_told (λ p. let z = p.0 in let r = p.1 in cc) (λ (e : x ∷ f ≡ 0 ∷ zeros (length f)). let z : x ≡ 0 = cc in let r : f ≡ zeros (length f) = cc in (z, r)) (both_told (eqb_tells x 0) (go f))

-- 16 bytes, of which the first says that m follow the name's first
module _ (x y : ℕ) (r : List ℕ) (m : ℕ) (counted : x ≡ suc m) (inside : m ≤ 14) (sixteen : length r ≡ 14) where
  record Parts : Type 0 where
    begins : name_first y ≡ true
    goes_on : All name_byte (take m r)
    filled : drop m r ≡ replicate (length (drop m r)) 0

  name_length : length (take m r) ≡ m
  name_length = simp length-take (omega arith)

  fill_length : length (drop m r) ≡ 14 - m
  fill_length = simp length-drop (omega arith)

  spells : Parts → (n : List ℕ) × TagSpelled (x ∷ (y ∷ r)) n
  spells p = (
    y ∷ take m r,
    record {
      a_name = (p.begins, p.goes_on);
      short = omega (arith, name_length);
      spelled =
          let j : length (drop m r) ≡ 15 - suc (length (take m r)) = omega (arith, name_length, fill_length) in
          let e : r ≡ take m r ++ zeros (15 - suc (length (take m r))) =
          sym (take-append-drop m r) ∙ ap (λ (l : List ℕ). take m r ++ l) (p.filled ∙ ap zeros j) in
          let f : x ≡ suc (length (take m r)) = omega (arith, name_length) in
          ap (λ (k : ℕ). k ∷ (y ∷ r)) f ∙ ap (λ (l : List ℕ). suc (length (take m r)) ∷ (y ∷ l)) e;
    },
  )

  parts : (n : List ℕ) → TagSpelled (x ∷ (y ∷ r)) n → Parts
  parts [] s = absurd s.a_name
  parts (v ∷ n) s =
      let fill = zeros (15 - suc (length n)) in
      let e : ◌≡◌ {A = List ℕ} (x ∷ (y ∷ r)) (suc (length n) ∷ (v ∷ (n ++ fill))) = s.spelled in
      let ex : x ≡ suc (length n) = cc in
      let ey : y ≡ v = cc in
      let er : r ≡ n ++ fill = cc in
      let k : length n ≡ m = omega arith in
      let et : take m r ≡ n = ap (λ (l : List ℕ). take m l) er ∙ take_at n fill m k in
      let ed : drop m r ≡ fill = ap (λ (l : List ℕ). drop m l) er ∙ drop_at n fill m k in
      record {
        begins = ap name_first ey ∙ s.a_name.0;
        goes_on = rw et s.a_name.1;
        filled = ed ∙ ap zeros (sym (ap length ed ∙ length-replicate (15 - suc (length n)) 0));
      }

  spells_told : {a z : Bool} → Tells (All name_byte (take m r)) a → Tells (drop m r ≡ replicate (length (drop m r)) 0) z → Tells ((n : List ℕ) × TagSpelled (x ∷ (y ∷ r)) n) (name_first y && (a && z))
  spells_told ta tz =
      as_told (λ p. spells (record { begins = p.0; goes_on = p.1.0; filled = p.1.1 })) (λ z. let p = parts z.0 z.1 in (p.begins, (p.goes_on, p.filled)))
      (both_told (bool_tells (name_first y)) (both_told ta tz))

-- the 16 bytes with the parts that the code cuts out of them
pub tag_told :
    (b : List ℕ) → length b ≡ 16 → (n : ℕ) → n ≡ get_or b 0 0 → 1 ≤ n → n ≤ 15 → {a z : Bool} →
    Tells (All name_byte (take (n + 1 - 2) (drop 2 b))) a →
    Tells (take (length b - (n + 1)) (drop (n + 1) b) ≡ replicate (length (take (length b - (n + 1)) (drop (n + 1) b))) 0) z →
    Tells ((m : List ℕ) × TagSpelled b m) (name_first (get_or b 1 0) && (a && z))
tag_told [] l n e lo hi ta tz = absurd (omega arith)
tag_told (x ∷ []) l n e lo hi ta tz = absurd (omega arith)
tag_told (x ∷ (y ∷ r)) l n e lo hi ta tz =
    let m = n - 1 in
    let b : List ℕ = x ∷ (y ∷ r) in
    let k : n + 1 ≡ suc (suc m) = omega arith in
    let j : n + 1 - 2 ≡ m = omega arith in
    let w : take (length b - (n + 1)) (drop (n + 1) b) ≡ drop m r =
    ap (λ (i : ℕ). take (length b - i) (drop i b)) k ∙ take_all (length b - suc (suc m)) (drop m r) (omega (arith, length-drop m r)) in
    spells_told x y r m (omega arith) (omega arith) (omega arith) (rw j at ta) (rw w at tz)

-- the first byte of a tag is the length of its name
pub too_short : (b n : List ℕ) → TagSpelled b n → get_or b 0 0 < 1 → ⊥
too_short b [] s h = s.a_name
too_short b (v ∷ n) s h = omega (arith, ap (λ (l : List ℕ). get_or l 0 0) s.spelled)

pub too_long : (b n : List ℕ) → TagSpelled b n → 15 < get_or b 0 0 → ⊥
too_long b n s h = omega (arith, s.short, ap (λ (l : List ℕ). get_or l 0 0) s.spelled)

-- number 3, tag by tag
abbrev pub TagFits : List ℕ → ℕ → Type 0
TagFits s t = ((n : List ℕ) × TagSpelled (tag_bytes s t) n) × New s t

pub tags_from : (s : List ℕ) → ((t : ℕ) → t < tag_count s → TagFits s t) → Tags s
tags_from s h =
    record {
      named = λ t z. let w = (h t z).0 in (w.0, record { a_name = w.1.a_name; short = w.1.short; spelled = w.1.spelled });
      different = λ t u n zt zu at au.
          let below : t < u → ⊥ = λ k. (h u zu).1 t k (at.spelled ∙ sym au.spelled) in
          let above : u < t → ⊥ = λ k. (h t zt).1 u k (au.spelled ∙ sym at.spelled) in
          omega arith;
    }

pub from_tags : (s : List ℕ) → Tags s → (t : ℕ) → t < tag_count s → TagFits s t
from_tags s h t z =
    let w = h.named t z in (
      (w.0, record { a_name = w.1.a_name; short = w.1.short; spelled = w.1.spelled }),
      λ u k e.
          let at : TagAt s u w.0 = record { a_name = w.1.a_name; short = w.1.short; spelled = e ∙ w.1.spelled } in
          let same : u ≡ t = h.different u t w.0 (omega arith) z at w.1 in
          omega arith,
    )

-- the part that the code cuts out is the tag's bytes
pub tag_part : (s : List ℕ) (l : Layout) → LaidOut s l → (t : ℕ) → take (l.tags_at + 16 * t + 16 - (l.tags_at + 16 * t)) (drop (l.tags_at + 16 * t) s) ≡ tag_bytes s t
tag_part s l d t =
    let e : l.tags_at + 16 * t + 16 - (l.tags_at + 16 * t) ≡ 16 = omega arith in
    ap (λ (k : ℕ). take k (drop (l.tags_at + 16 * t) s)) e ∙ ap (λ (k : ℕ). take 16 (drop (k + 16 * t) s)) d.layout_is.tags_at_is.is

pub tag_ends : (s : List ℕ) (l : Layout) → LaidOut s l → (u t : ℕ) → u ≤ t → t < l.tags → l.tags_at + 16 * u + 16 ≤ length s
tag_ends s l d u t h k =
    omega (arith, d.tags_from, d.tags_before, d.productions_before, d.nodes_before, d.programs_before, d.strings_before)
