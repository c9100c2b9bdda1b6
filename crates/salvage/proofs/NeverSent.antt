-- A damaged record, as if it had never been sent: neither byte string can begin in it and end behind it, since `<` follows it; so reading resumes just behind it, in the state before it, and
-- from there on the run is that on the stream without it.
-- Assumes nothing.
use mathlib.Core.Path.{◌≡◌, sym, ap, ◌∙◌, subst}
use mathlib.Core.Logic.{◌⊎◌, inl, inr}
use mathlib.Core.List.{List, [], ◌∷◌, ◌++◌}
use Prim.Native.Nat.{ℕ, zero, suc, ◌+◌, ◌-◌, ◌≤◌, ◌<◌}
use native.Mathlib.Omega.{arith}
use lib.ListN.{length, drop, length-append, length-drop}
use lib.Seq.{drop-append-add, drop-append-le, drop-append_seam}
use Rattle.text.specs.Chars.{Starts}
use Rattle.tokens.specs.Tokens.{start, end}
use Rattle.sheet.specs.Sheet.{Sheet}
use Rattle.runs.specs.Execute.{name_of}
use Rattle.runs.specs.Fits.{NamesFit}
use Rattle.runs.specs.Machine.{Configuration}
use Rattle.salvage.specs.Shape.{RecordTags}
use Rattle.salvage.specs.Resumption.{record_start, root_end, MayResume, ResumesAt}
use Rattle.salvage.specs.Salvage.{lost, Salvage, reporting, Salvages, drops}
use Rattle.salvage.specs.NeverSent.{DamagedRecord}
use Rattle.salvage.proofs.One.{salvage_one}
use Rattle.salvage.proofs.Some.{runs_on}
use Rattle.salvage.proofs.Opens.{NoOpen, OpensOnce, none_append, name_none}
use Rattle.salvage.proofs.Before.{lies_in}
use Rattle.salvage.proofs.Later.{later_salvage, moves}

-- the run on the stream without it, from the same place in the same state and room, answers the same, with the same output, visits and state; its report is the same but for that
-- record's stretch, which is d
pub record AsWithout (a : Sheet) (x : RecordTags) (area room : ℕ) (p d q : List ℕ) (z : Configuration) (n : ℕ) (r : Salvage) : Type 0 where
  pub without : Salvage
  pub salvages : Salvages a x (p ++ q) area (length p) room z without
  pub last : ℕ
  pub is_last : suc last ≡ length p + length d
  pub same : r ≡ reporting (lost (length p) last n) (later_salvage (length d) without)

names_none : (ns : List (List ℕ)) (t : ℕ) → NamesFit ns → NoOpen (name_of ns t)
names_none [] t h = tt
names_none (n ∷ ns) zero (f, h) = name_none n f.0
names_none (n ∷ ns) (suc t) (f, h) = names_none ns t h

module _ (a : Sheet) (x : RecordTags) (fit : NamesFit a.names) where
  closing_none : NoOpen (62 ∷ [])
  closing_none = ((λ e. omega (arith, e)), tt)

  pub record_start_once : OpensOnce (record_start a x)
  record_start_once = none_append (name_of a.names x.record_tag) (62 ∷ []) (names_none a.names x.record_tag fit) closing_none

  pub root_end_once : OpensOnce (root_end a x)
  root_end_once = ((λ e. omega (arith, e)), none_append (name_of a.names x.root_tag) (62 ∷ []) (names_none a.names x.root_tag fit) closing_none)

  pub may_lie_in : (l r : List ℕ) → 0 < length l → Starts (l ++ 60 ∷ r) (record_start a x) ⊎ Starts (l ++ 60 ∷ r) (root_end a x) → Starts l (record_start a x) ⊎ Starts l (root_end a x)
  may_lie_in l r n (inl k) = inl (lies_in l r (record_start a x) record_start_once n k)
  may_lie_in l r n (inr k) = inr (lies_in l r (root_end a x) root_end_once n k)

  -- both begin with <
  pub may_open : (l : List ℕ) → MayResume a x l 0 → (r : List ℕ) × (l ≡ 60 ∷ r)
  may_open l (inl (v, e)) = (_, e)
  may_open l (inr (v, e)) = (_, e)

  module _ (area room : ℕ) (p d q : List ℕ) (z : Configuration) (n : ℕ) (h : DamagedRecord a x area p d q z n) where
    abbrev s : List ℕ
    s = p ++ (d ++ q)

    all : length s ≡ length p + (length d + length q)
    all = length-append p (d ++ q) ∙ ap (λ (i : ℕ). length p + i) (length-append d q)

    in_d : (j : ℕ) → drop (length p + j) s ≡ drop j (d ++ q)
    in_d j = drop-append-add p (d ++ q) j

    behind_d : drop (length p + length d) s ≡ q
    behind_d = in_d (length d) ∙ drop-append_seam d q

    -- none stands in d past its start
    none_in : (j : ℕ) → 0 < j → j < length d → MayResume a x s (length p + j) → ⊥
    none_in j f g m =
        let (r, o) = may_open q h.followed in
        let e : drop (length p + j) s ≡ drop j d ++ 60 ∷ r = in_d j ∙ drop-append-le j d q (omega arith) ∙ ap (λ (u : List ℕ). drop j d ++ u) o in
        h.holds_neither j f (may_lie_in (drop j d) r (omega (arith, length-drop j d, g)) (moved (drop (length p + j) s) (drop j d ++ 60 ∷ r) e m))
      where
        moved : (f g : List ℕ) → f ≡ g → Starts f (record_start a x) ⊎ Starts f (root_end a x) → Starts g (record_start a x) ⊎ Starts g (root_end a x)
        moved f g e m = subst (λ (u : List ℕ). Starts u (record_start a x) ⊎ Starts u (root_end a x)) e m

    resumes : (last : ℕ) → suc last ≡ length p + length d → ResumesAt a x s (length p) h.refused_at (suc last)
    resumes last e =
        record {
          not_before = omega (arith, h.before_its_end, e);
          past_start = omega (arith, h.has_bytes, e);
          stands = subst (λ (u : List ℕ). Starts u (record_start a x) ⊎ Starts u (root_end a x)) (sym (ap (λ (i : ℕ). drop i s) e ∙ behind_d)) h.followed;
          none_sooner = λ i i₁ i₂ i₃ m. none_in (i - length p) (omega (arith, i₂)) (omega (arith, i₃, e, i₂)) (let c : i ≡ length p + (i - length p) = omega (arith, i₂) in subst (MayResume a x s) c m);
        }

    same_rest : (i : ℕ) → length p ≤ i → drop (length d + i) s ≡ drop i (p ++ q)
    same_rest i l =
        let j : ℕ = i - length p in
        let b : length d + i ≡ length p + (length d + j) = omega (arith, l) in
        let c : i ≡ length p + j = omega (arith, l) in
        ap (λ (u : ℕ). drop u s) b ∙ in_d (length d + j) ∙ drop-append-add d q j ∙ sym (drop-append-add p q j) ∙ ap (λ (u : ℕ). drop u (p ++ q)) (sym c)

    -- the rest comes out as if the record had never been sent
    pub as_without : (r : Salvage) → Salvages a x s area (length p) room z r → AsWithout a x area room p d q z n r
    as_without r k =
        let last : ℕ = length p + length d - 1 in
        let e : suc last ≡ length p + length d = omega (arith, h.has_bytes) in
        let within : suc last ≤ length s = omega (arith, e, all) in
        let (r₁, k₁) = runs_on a x s area (length s) (suc last) within (omega arith) room z in
        let one = salvage_one a x s area k (drops n h.refused_at last h.refused_in h.is_record h.is_refused h.with_damage (resumes last e) k₁) in
        let (r₂, k₂, u) = moves a x s (p ++ q) (length d) (length p) same_rest (omega (arith, all, length-append p q)) area k₁ within (length p) (omega arith) (omega (arith, e)) in
        record { without = r₂; salvages = k₂; last = last; is_last = e; same = one ∙ ap (reporting (lost (length p) last n)) u }
