-- What the parts of a step are told, as facts: tests of numbers, entries of the report, names, and that a token may be taken.
-- Assumes nothing.
use mathlib.Core.Path.{◌≡◌, refl, sym, ap, ap₂, subst, ◌∙◌}
use mathlib.Core.Bool.{Bool, true, false, not, cond, ◌&&◌, ◌||◌, and-false}
use mathlib.Core.List.{List, ◌++◌}
use mathlib.Core.Option.{Option, none, some}
use Prim.Native.Nat.{ℕ, ◌+◌, ◌-◌, ◌*◌, ◌/◌, ◌≤◌, ◌<◌}
use native.Mathlib.Omega.{arith}
use lib.Dec.{eqb, leb}
use lib.ListN.{length, take, drop}
use Rattle.std.specs.Prelude.{Option as Answered, Some}
use Rattle.std.specs.Option.{option_eq}
use borrow.Author.Tests.{eq-eqb, ne_eqb, eqb-false, leb-true, leb-false}
use Rattle.lent.specs.Put.{put}
use Rattle.lent.proofs.Laws.{put_append}
use Rattle.tokens.specs.declared.Event.{Event}
use Rattle.tokens.specs.declared.Event.TheVariants.{Start, End, Empty, Character}
use Rattle.sheet.specs.Sheet.{Sheet}
use Rattle.calls.specs.Held.{leaves_open}
use Rattle.calls.specs.Names.{tag_named, character_token, token_of}
use Rattle.lookups.specs.Found.{answer_of, TagFound}
use Rattle.runs.specs.Machine.{same_tag}
use Rattle.salvage.specs.Salvage.{starts_with, lost}
use Rattle.state.specs.Bytes.{number_bytes, Wrote}
use Rattle.salvaging.specs.declared.Resumed.{Resumed}
use Rattle.salvaging.specs.declared.Resumed.TheVariants.{Here}
use Rattle.salvaging.specs.Resumed.{ResumedIs}
use Rattle.steps.specs.Taken.{EventIn}
use Rattle.rescued.specs.Bytes.{entry_width, entry_bytes}
use Rattle.turns.specs.declared.Stand.{Stand}
use Rattle.turns.specs.declared.Place.{Place}
use Rattle.turns.specs.declared.Given.{Given}
use Rattle.turns.specs.declared.Turn.{Turn}
use Rattle.turns.specs.Stands.{going, stopping, Ready, MayTake}
use Rattle.turns.specs.Turned.{ToldAs, no_entry, entry, NamedAs, BeginsAs, SkipEnds}

pub goes_as : {r : Turn} {t t' : Stand} {i k j d : ℕ} → r ≡ going t i k j d → t ≡ t' → r ≡ going t' i k j d
goes_as {r} {t} {t'} {i} {k} {j} {d} e f = e ∙ ap (λ (y : Stand). going y i k j d) f

pub stops_as : {r : Turn} {t t' : Stand} {n i k j d : ℕ} → r ≡ stopping t n i k j d → t ≡ t' → r ≡ stopping t' n i k j d
stops_as {r} {t} {t'} {n} {i} {k} {j} {d} e f = e ∙ ap (λ (y : Stand). stopping y n i k j d) f

-- ---- numbers
pub open_16 : (n : ℕ) → n ≡ 16 → leaves_open n ≡ true
open_16 n e = ap (λ (b : Bool). b || eqb n 17) (eq-eqb n 16 e)

pub open_17 : (n : ℕ) → (n ≡ 16 → ⊥) → n ≡ 17 → leaves_open n ≡ true
open_17 n d e = ap₂ (λ (b c : Bool). b || c) (ne_eqb n 16 d) (eq-eqb n 17 e)

pub closed_by : (n : ℕ) → (n ≡ 16 → ⊥) → (n ≡ 17 → ⊥) → leaves_open n ≡ false
closed_by n d e = ap₂ (λ (b c : Bool). b || c) (ne_eqb n 16 d) (ne_eqb n 17 e)

true_false : ◌≡◌ {A = Bool} true false → ⊥
true_false e = let z : ◌≡◌ {A = ℕ} 0 1 = cc in omega arith

pub no_stretch : (n a b : ℕ) → (not (eqb n 27) && leb a b) ≡ true → (n ≡ 27 → ⊥) × (a ≤ b)
no_stretch n a b h = by (eqb n 27) refl (leb a b) refl h
  where
    by : (c : Bool) → eqb n 27 ≡ c → (d : Bool) → leb a b ≡ d → (not c && d) ≡ true → (n ≡ 27 → ⊥) × (a ≤ b)
    by true u d v w = absurd (true_false (sym w))
    by false u true v w = (eqb-false n 27 u, leb-true a b v)
    by false u false v w = absurd (true_false (sym w))

pub some_stretch : (n a b : ℕ) → (not (eqb n 27) && leb a b) ≡ false → (n ≡ 27 → ⊥) → b < a
some_stretch n a b h d = leb-false a b (sym (ap (λ (c : Bool). not c && leb a b) (ne_eqb n 27 d)) ∙ h)

pub end_27 : (n a b : ℕ) → n ≡ 27 → a ≡ cond (eqb n 27) a b
end_27 n a b e = sym (ap (λ (c : Bool). cond c a b) (eq-eqb n 27 e))

pub end_other : (n a b : ℕ) → (n ≡ 27 → ⊥) → b ≡ cond (eqb n 27) a b
end_other n a b e = sym (ap (λ (c : Bool). cond c a b) (ne_eqb n 27 e))

-- ---- the report
pub told_entry : (rep r₁ r₂ rep' : List ℕ) (at p₁ p₂ p₃ f l n : ℕ) → Wrote 8 rep at (number_bytes 8 f) r₁ p₁ → Wrote 8 r₁ p₁ (number_bytes 8 l) r₂ p₂ → Wrote 8 r₂ p₂ (number_bytes 8 n) rep' p₃ →
    rep' ≡ put true rep at (entry_bytes (lost f l n))
unfolding entry_bytes
told_entry rep r₁ r₂ rep' at p₁ p₂ p₃ f l n u v w =
    let a : List ℕ = number_bytes 8 f in
    let b : List ℕ = number_bytes 8 l in
    let e : List ℕ = number_bytes 8 n in
    let i : p₁ ≡ at + length a = omega (arith, u.next, u.wide) in
    let j : p₂ ≡ p₁ + length b = omega (arith, v.next, v.wide) in
    let k : put true r₂ p₂ e ≡ put true r₁ p₁ (b ++ e) = ap₂ (λ (z : List ℕ) (q : ℕ). put true z q e) v.left j ∙ put_append true r₁ p₁ b e in
    w.left ∙ k ∙ ap₂ (λ (z : List ℕ) (q : ℕ). put true z q (b ++ e)) u.left i ∙ put_append true rep at a (b ++ e)

module _ {rep rep' : List ℕ} {told f l n : ℕ} {b : Bool} (T : ToldAs rep told f l n rep' b) where
  pub told_no : not b ≡ true → (length rep / entry_width ≤ told) × (rep' ≡ rep)
  told_no e = by T e
    where
      by : {b : Bool} → ToldAs rep told f l n rep' b → not b ≡ true → (length rep / entry_width ≤ told) × (rep' ≡ rep)
      by (no_entry h k) e = (h, k)
      by (entry h k) e = absurd (true_false (sym e))

  pub told_yes : not b ≡ false → (told < length rep / entry_width) × (rep' ≡ put true rep (entry_width * told) (entry_bytes (lost f l n)))
  told_yes e = by T e
    where
      by : {b : Bool} → ToldAs rep told f l n rep' b → not b ≡ false → (told < length rep / entry_width) × (rep' ≡ put true rep (entry_width * told) (entry_bytes (lost f l n)))
      by (no_entry h k) e = absurd (true_false e)
      by (entry h k) e = (h, k)

pub entry_at : {rep' : List ℕ} (rep : List ℕ) (at f l l' n : ℕ) → rep' ≡ put true rep at (entry_bytes (lost f l n)) → l ≡ l' → rep' ≡ put true rep at (entry_bytes (lost f l' n))
entry_at rep at f l l' n e k = e ∙ ap (λ (i : ℕ). put true rep at (entry_bytes (lost f i n))) k

-- ---- names
found_tag : (o : Option ℕ) (t : ℕ) → option_eq eqb (answer_of o) (Some t) ≡ same_tag o t
found_tag none t = refl
found_tag (some u) t = refl

pub named_as : (s part : List ℕ) (from len end t : ℕ) (r : Answered ℕ) (b : Bool) → end ≡ from + len → TagFound s (take (end - from) (drop from part)) r → b ≡ option_eq eqb r (Some t) → NamedAs s part from len t b
named_as s part from len end t r b e T q =
    record {
      is = λ a i h.
          let k : end - from ≡ len = omega arith in
          q ∙ ap (λ (o : Answered ℕ). option_eq eqb o (Some t)) (T.is a i ∙ ap (λ (j : ℕ). answer_of (tag_named a.names (take j (drop from part)))) k)
          ∙ found_tag (tag_named a.names (take len (drop from part))) t;
    }

pub begins_so : {s part : List ℕ} {e : Event} {t d : ℕ} {b c : Bool} → BeginsAs s part e t d b → b ≡ c → BeginsAs s part e t d c
begins_so B e = record { is = λ a i h. sym e ∙ B.is a i h }

-- ---- what is found, by its case
pub skip_ends : (t : Stand) (g : Given) (len : ℕ) (p : Place) (rep rep' : List ℕ) (r : Turn) (x y : Resumed) → x ≡ y → SkipEnds t g len p rep rep' r y → SkipEnds t g len p rep rep' r x
skip_ends t g len p rep rep' r x y e h = subst (SkipEnds t g len p rep rep' r) (sym e) h

pub may_take : {s : List ℕ} {g : Given} {part : List ℕ} {p : Place} {t : Stand} {b out area : List ℕ} {e : Event} → Ready s g part p t b out area → EventIn part e → MayTake s t.live b part e
may_take R i =
    record {
      ready =
          record {
            ready = record { sheet = R.grounds.sheet; is_sheet = R.grounds.is_sheet; passed = R.grounds.passed; shaped = R.on.stands.shaped; fits = R.on.stands.fits };
            long = R.on.long;
          };
      event = i;
      count = R.on.stands.count;
    }

pub inside_part : (w w' part : List ℕ) (from to : ℕ) (x : Resumed) → ResumedIs w w' part from x → x ≡ Here to → to ≤ length part
inside_part w w' part from to x h e = let k = subst (ResumedIs w w' part from) e h in omega (arith, k.1)

-- ---- whether a token begins a record, by its kind
character_no : (t : ℕ) (literally : Bool) (c : ℕ) → starts_with t (character_token literally c) ≡ false
character_no t true c = refl
character_no t false c = refl

module _ {s part : List ℕ} {t d : ℕ} where
  pub not_alone : {e : Event} → (d ≡ 1 → ⊥) → BeginsAs s part e t d false
  not_alone {e} n = record { is = λ a i h. sym (ap (λ (b : Bool). b && starts_with t (token_of a part e)) (ne_eqb d 1 n)) }

  never : {e : Event} → ((a : Sheet) → starts_with t (token_of a part e) ≡ false) → BeginsAs s part e t d false
  never {e} f = record { is = λ a i h. sym (ap (λ (b : Bool). eqb d 1 && b) (f a) ∙ and-false (eqb d 1)) }

  of_name : {e : Event} {from len : ℕ} {b : Bool} → d ≡ 1 → ((a : Sheet) → starts_with t (token_of a part e) ≡ same_tag (tag_named a.names (take len (drop from part))) t) → NamedAs s part from len t b →
      BeginsAs s part e t d b
  of_name {e} {from} {len} k f N = record { is = λ a i h. N.is a i h ∙ sym (f a) ∙ sym (ap (λ (b : Bool). b && starts_with t (token_of a part e)) (eq-eqb d 1 k)) }

  pub is_start : {e : Event} {from len : ℕ} {b : Bool} → d ≡ 1 → e ≡ Start from len → NamedAs s part from len t b → BeginsAs s part e t d b
  is_start k z N = of_name k (λ a. ap (λ (y : Event). starts_with t (token_of a part y)) z) N

  pub is_empty : {e : Event} {from len : ℕ} {b : Bool} → d ≡ 1 → e ≡ Empty from len → NamedAs s part from len t b → BeginsAs s part e t d b
  is_empty k z N = of_name k (λ a. ap (λ (y : Event). starts_with t (token_of a part y)) z) N

  pub is_end : {e : Event} {from len : ℕ} → e ≡ End from len → BeginsAs s part e t d false
  is_end z = never (λ a. ap (λ (y : Event). starts_with t (token_of a part y)) z)

  pub is_character : {e : Event} {c : ℕ} {literally : Bool} → e ≡ Character c literally → BeginsAs s part e t d false
  is_character {e} {c} {literally} z = never (λ a. ap (λ (y : Event). starts_with t (token_of a part y)) z ∙ character_no t literally c)

pub in_start : (part : List ℕ) (e : Event) {from len : ℕ} → EventIn part e → e ≡ Start from len → from + len ≤ length part
in_start part e h z = subst (EventIn part) z h

pub in_empty : (part : List ℕ) (e : Event) {from len : ℕ} → EventIn part e → e ≡ Empty from len → from + len ≤ length part
in_empty part e h z = subst (EventIn part) z h
