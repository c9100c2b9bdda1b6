-- The row of a token. Assumes nothing.
use mathlib.Core.Path.{◌≡◌, refl, sym, ◌∙◌, ap, ap₂, subst}
use mathlib.Core.Bool.{Bool, true, cond}
use mathlib.Core.Option.{Option, none, some}
use mathlib.Core.List.{List, [], ◌∷◌, ◌++◌, append_assoc, append-nil}
use Prim.Native.Nat.{ℕ, ◌+◌, ◌-◌, ◌≤◌, ◌<◌}
use native.Mathlib.Omega.{arith}
use lib.Dec.{eqb}
use borrow.Author.Tests.{eq-eqb, ne_eqb}
use lib.ListN.{length, take, drop, length-append, length-drop, take-append-drop}
use lib.Seq.{sets, sets-eq, length-sets, take_at, drop_at, take-append_seam, drop-append_seam, length-take-le}
use Rattle.lent.specs.Put.{put, PutAs}
use Rattle.text.specs.Characters.{utf8s}
use Rattle.limits.specs.Limits.{longest_program}
use Rattle.programs.specs.Program.{program_bytes}
use Rattle.notation.specs.Program.{TextProgram}
use Rattle.notation.specs.Rules.{Rules}
use Rattle.notation.specs.Tokens.{Dollar, plain, left, right, TextToken, nonterminal, value, attribute, name, start_tag, end_tag, empty_tag, string, word, Keyword, sign, Sign, DEFINED, ASSIGNED, OPEN, CLOSE, BRACE, UNBRACE, DOT, BAR, STAR, SEMICOLON, EQUALS, token_bytes}
use Rattle.encoding.specs.Distinct.{place_of, offset_of}
use Rattle.encoding.specs.Encoded.{tags_stored, strings_stored, program_of}
use Rattle.reading.specs.Statements.{Listing, value_of_list}
use Rattle.reading.specs.Rules.{Progress}
use Rattle.reading.proofs.Telling.{none≢some}
use Rattle.lexemes.specs.Kinds.{mark_number, word_number, sign_number, token_kind, token_number, TokenFits}
use Rattle.sketches.specs.Sketched.{listing_of}
use Rattle.mentions.specs.SoFar.{whole_in}
use Rattle.pages.specs.declared.Page.{Page}
use Rattle.pages.specs.Pages.{page_text, PageIs}
use Rattle.strokes.specs.Strokes.{sealed_bytes}
use Rattle.inks.specs.declared.Ink.{Ink}
use Rattle.inks.specs.Held.{inks_in}
use Rattle.inks.proofs.Promises.{seals_inked}
use Rattle.shelves.specs.Shelves.{RowMentioned}
use Rattle.shelves.proofs.Outcomes.{no_word, mark_kind, sign_kind}
use Rattle.unquoting.specs.Unquoted.{UnquotedIs}
use Rattle.rowing.specs.Rows.{PartIs, InkIn, RowOf}

-- no room, or no such part
pub part_short : (x : List ℕ) (from number : ℕ) (out : List ℕ) → length x < number → PartIs x from number out out 0
part_short x from number out h = record {
  inside = omega arith;
  is = λ front row rest e f g k. absurd (omega (arith, h, ap length e, length-append front (row ++ rest), length-append row rest, g));
}

pub part_full : (x : List ℕ) (from number : ℕ) (out : List ℕ) → length out < number → PartIs x from number out out 0
part_full x from number out h = record { inside = omega arith; is = λ front row rest e f g k. absurd (omega (arith, h, k)) }

pub part_far : (x : List ℕ) (from number : ℕ) (out : List ℕ) → length x < from + number → PartIs x from number out out 0
part_far x from number out h = record {
  inside = omega arith;
  is = λ front row rest e f g k. absurd (omega (arith, h, ap length e, length-append front (row ++ rest), length-append row rest, f, g));
}

unfolding_put : (memory : List ℕ) (at : ℕ) (new : List ℕ) → put true memory at new ≡ sets memory at new
unfolding put
unfolding_put memory at new = refl

pub part_put : (x : List ℕ) (from number : ℕ) (out after : List ℕ) (n : ℕ) → number ≤ length out → from + number ≤ length x → PutAs true out 0 (take (from + number - from) (drop from x)) after n → PartIs x from number out after n
part_put x from number out after n h k p =
    let m : from + number - from ≡ number = omega arith in
    let p' = subst (λ (i : ℕ). PutAs true out 0 (take i (drop from x)) after n) m p in
    let new : List ℕ = take number (drop from x) in
    let long : length new ≡ number = length-take-le number (drop from x) (omega (arith, k, length-drop from x)) in
    let after_is : after ≡ new ++ drop (0 + length new) out = p'.left ∙ unfolding_put out 0 new ∙ sets-eq new out 0 (omega (arith, long, h)) in
    record {
      inside = omega (arith, p'.next, ap length after_is, length-append new (drop (0 + length new) out));
      is = λ front row rest e f g j.
          let same : new ≡ row = ap₂ (λ (i : ℕ) (z : List ℕ). take i z) g (ap₂ (λ (i : ℕ) (z : List ℕ). drop i z) f e ∙ drop-append_seam front (row ++ rest)) ∙ take-append_seam row rest in
          ap₂ (λ (i : ℕ) (z : List ℕ). take i z) p'.next after_is ∙ take_at new (drop (0 + length new) out) (0 + length new) (omega arith) ∙ same;
    }

-- a string
pub row_string : (x : List ℕ) (kind number : ℕ) (ink : Ink) (out after : List ℕ) (n : ℕ) → kind ≡ 9 → length after ≡ length out → UnquotedIs x out after n → RowOf x kind number ink out after n
row_string x kind number ink out after n e long u = record { inside = omega (arith, u.inside, long); is = λ r s t rest w f k j b i. on r s t rest w f (sym e ∙ k) b }
  where
    on : (r : Rules) (s : Progress) (t : TextToken) (rest : List ℕ) → x ≡ token_bytes t ++ rest → TokenFits t → 9 ≡ token_kind t → length out ≡ 256 → RowMentioned r s t (take n after)
    on r s (nonterminal m) rest w f k b = absurd (omega arith)
    on r s (value m) rest w f k b = absurd (omega arith)
    on r s (attribute m a) rest w f k b = absurd (let h = mark_kind m in omega (arith, h, k))
    on r s (name m) rest w f k b = absurd (omega arith)
    on r s (start_tag m) rest w f k b = absurd (omega arith)
    on r s (end_tag m) rest w f k b = absurd (omega arith)
    on r s (empty_tag m) rest w f k b = absurd (omega arith)
    on r s (string cs) rest w f k b =
        let h = u.is cs rest f w (omega (arith, f.short, b)) in
        ap₂ (λ (i : ℕ) (z : List ℕ). take i z) h.long h.are ∙ take-append_seam (utf8s cs) (drop n out)
    on r s (word m) rest w f k b = tt
    on r s (sign g) rest w f k b = absurd (let h = sign_kind g in omega (arith, h, k))

-- the program that a } ends
whole_listing : (o : Option Listing) (p : TextProgram) → whole_in o ≡ some p → (q : Listing) × (o ≡ some q) × (value_of_list q ≡ some p)
whole_listing none p e = absurd (none≢some refl e)
whole_listing (some q) p e = (q, refl, e)

pub row_program : (x : List ℕ) (kind number : ℕ) (ink : Ink) (page : Page) (out after : List ℕ) (n : ℕ) → kind ≡ 28 → PageIs (sealed_bytes (inks_in ink)) page → length page.bytes ≡ 256 → PartIs page.bytes 0 page.len out after n
    → RowOf x kind number ink out after n
row_program x kind number ink page out after n e g l u = record { inside = u.inside; is = λ r s t rest w f k j b i. on r s t (sym e ∙ k) b i }
  where
    on : (r : Rules) (s : Progress) (t : TextToken) → 28 ≡ token_kind t → length out ≡ 256 → InkIn r s ink → RowMentioned r s t (take n after)
    on r s (nonterminal m) k b i = tt
    on r s (value m) k b i = tt
    on r s (attribute m a) k b i = tt
    on r s (name m) k b i = absurd (omega arith)
    on r s (start_tag m) k b i = absurd (omega arith)
    on r s (end_tag m) k b i = absurd (omega arith)
    on r s (empty_tag m) k b i = absurd (omega arith)
    on r s (string cs) k b i = absurd (omega arith)
    on r s (word m) k b i = tt
    on r s (sign DEFINED) k b i = tt
    on r s (sign ASSIGNED) k b i = tt
    on r s (sign OPEN) k b i = tt
    on r s (sign CLOSE) k b i = tt
    on r s (sign BRACE) k b i = tt
    on r s (sign UNBRACE) k b i = λ p h.
        let q = whole_listing (listing_of s) p h in
        let bytes = seals_inked (place_of (tags_stored r)) (offset_of (strings_stored r)) q.0 p ink page (i q.0 q.1) q.2 g in
        let short : page.len ≤ length page.bytes = omega (arith, g.short, l) in
        u.is [] (page_text page) (drop page.len page.bytes) (sym (take-append-drop page.len page.bytes)) refl (sym (length-take-le page.len page.bytes short)) (omega (arith, g.short, b)) ∙ bytes
    on r s (sign DOT) k b i = tt
    on r s (sign BAR) k b i = tt
    on r s (sign STAR) k b i = tt
    on r s (sign SEMICOLON) k b i = tt
    on r s (sign EQUALS) k b i = tt

-- a name stands behind so many bytes of its token
abbrev front_of : ℕ → ℕ
front_of k = cond (eqb k 5) 0 (cond (eqb k 7) 2 1)

named_row : (r : Rules) (s : Progress) (t : TextToken) (x rest out after : List ℕ) (from number n : ℕ) → x ≡ token_bytes t ++ rest → TokenFits t → number ≡ token_number t → length out ≡ 256 → from ≡ front_of (token_kind t) → (token_kind t ≡ 9 → ⊥) → (token_kind t ≡ 28 → ⊥)
    → PartIs x from number out after n → RowMentioned r s t (take n after)
named_row r s (nonterminal m) x rest out after from number n w f j b e k9 k28 u = tt
named_row r s (value m) x rest out after from number n w f j b e k9 k28 u = tt
named_row r s (attribute m a) x rest out after from number n w f j b e k9 k28 u = tt
named_row r s (name m) x rest out after from number n w f j b e k9 k28 u = u.is [] m rest w e j (omega (arith, j, f.short, b))
named_row r s (start_tag m) x rest out after from number n w f j b e k9 k28 u = u.is (60 ∷ []) m (62 ∷ rest) (w ∙ ap (λ (z : List ℕ). 60 ∷ z) (append_assoc m (62 ∷ []) rest)) e j (omega (arith, j, f.short, b))
named_row r s (end_tag m) x rest out after from number n w f j b e k9 k28 u = u.is (60 ∷ 47 ∷ []) m (62 ∷ rest) (w ∙ ap (λ (z : List ℕ). 60 ∷ 47 ∷ z) (append_assoc m (62 ∷ []) rest)) e j (omega (arith, j, f.short, b))
named_row r s (empty_tag m) x rest out after from number n w f j b e k9 k28 u = u.is (60 ∷ []) m (47 ∷ 62 ∷ rest) (w ∙ ap (λ (z : List ℕ). 60 ∷ z) (append_assoc m (47 ∷ 62 ∷ []) rest)) e j (omega (arith, j, f.short, b))
named_row r s (string cs) x rest out after from number n w f j b e k9 k28 u = absurd (k9 refl)
named_row r s (word m) x rest out after from number n w f j b e k9 k28 u = tt
named_row r s (sign DEFINED) x rest out after from number n w f j b e k9 k28 u = tt
named_row r s (sign ASSIGNED) x rest out after from number n w f j b e k9 k28 u = tt
named_row r s (sign OPEN) x rest out after from number n w f j b e k9 k28 u = tt
named_row r s (sign CLOSE) x rest out after from number n w f j b e k9 k28 u = tt
named_row r s (sign BRACE) x rest out after from number n w f j b e k9 k28 u = tt
named_row r s (sign UNBRACE) x rest out after from number n w f j b e k9 k28 u = absurd (k28 refl)
named_row r s (sign DOT) x rest out after from number n w f j b e k9 k28 u = tt
named_row r s (sign BAR) x rest out after from number n w f j b e k9 k28 u = tt
named_row r s (sign STAR) x rest out after from number n w f j b e k9 k28 u = tt
named_row r s (sign SEMICOLON) x rest out after from number n w f j b e k9 k28 u = tt
named_row r s (sign EQUALS) x rest out after from number n w f j b e k9 k28 u = tt

row_named : (x : List ℕ) (kind number : ℕ) (ink : Ink) (out after : List ℕ) (from n : ℕ) → (kind ≡ 9 → ⊥) → (kind ≡ 28 → ⊥) → from ≡ front_of kind → PartIs x from number out after n → RowOf x kind number ink out after n
row_named x kind number ink out after from n a c e u = record {
  inside = u.inside;
  is = λ r s t rest w f k j b i. named_row r s t x rest out after from number n w f j b (e ∙ ap front_of k) (λ h. a (k ∙ h)) (λ h. c (k ∙ h)) u;
}

pub row_five : (x : List ℕ) (kind number : ℕ) (ink : Ink) (out after : List ℕ) (n : ℕ) → (kind ≡ 9 → ⊥) → (kind ≡ 28 → ⊥) → kind ≡ 5 → PartIs x 0 number out after n → RowOf x kind number ink out after n
row_five x kind number ink out after n a c e u = row_named x kind number ink out after 0 n a c (sym (ap (λ (b : Bool). cond b 0 (cond (eqb kind 7) 2 1)) (eq-eqb kind 5 e))) u

pub row_seven : (x : List ℕ) (kind number : ℕ) (ink : Ink) (out after : List ℕ) (n : ℕ) → (kind ≡ 9 → ⊥) → (kind ≡ 28 → ⊥) → (kind ≡ 5 → ⊥) → kind ≡ 7 → PartIs x 2 number out after n → RowOf x kind number ink out after n
row_seven x kind number ink out after n a c d e u =
    row_named x kind number ink out after 2 n a c (sym (ap (λ (b : Bool). cond b 0 (cond (eqb kind 7) 2 1)) (ne_eqb kind 5 d) ∙ ap (λ (b : Bool). cond b 2 1) (eq-eqb kind 7 e))) u

pub row_other : (x : List ℕ) (kind number : ℕ) (ink : Ink) (out after : List ℕ) (n : ℕ) → (kind ≡ 9 → ⊥) → (kind ≡ 28 → ⊥) → (kind ≡ 5 → ⊥) → (kind ≡ 7 → ⊥) → PartIs x 1 number out after n → RowOf x kind number ink out after n
row_other x kind number ink out after n a c d e u =
    row_named x kind number ink out after 1 n a c (sym (ap (λ (b : Bool). cond b 0 (cond (eqb kind 7) 2 1)) (ne_eqb kind 5 d) ∙ ap (λ (b : Bool). cond b 2 1) (ne_eqb kind 7 e))) u
