-- A text declares one thing at most, and any two answers that are allowed are equal. Assumes nothing.
use mathlib.Core.Path.{◌≡◌, refl, sym, ◌∙◌, ap, subst}
use mathlib.Core.Logic.{◌⊎◌, inl, inr, ⊎_elim}
use mathlib.Core.Option.{Option, some}
use mathlib.Core.List.{List, [], ◌∷◌, ◌++◌}
use Prim.Native.Nat.{ℕ, suc, ◌+◌, ◌≤◌, ◌<◌}
use native.Mathlib.Omega.{arith}
use native.Mathlib.Decide.{dec_lt}
use lib.ListN.{length, take, drop}
use Rattle.notation.specs.Refusal.{Continues, RefusedAt}
use Rattle.notation.proofs.Refusals.{one_place, none_where_written}
use Rattle.reading.specs.Machine.{walk}
use Rattle.models.specs.Models.{Declaration}
use Rattle.models.specs.Spelling.{DtdIs}
use Rattle.models.specs.Family.{Grammatical, WithFewNodes, Family, Holdable}
use Rattle.models.specs.Answers.{WordAt, AnyAt, EntityAt, AttlistAt, Stands, any, entity, attlist, other, GoesOnPast, TooMuchAt, ModelsTold, declares, refuses, ReadModels, declared, no_family, too_large, too_deep, too_much}
use Rattle.models.specs.Reader.{DtdProgress, outside, step_declarations}
use Rattle.models.specs.Promises.{OneDtd, OneModelsAnswer}
use Rattle.models.proofs.Walk.{declarations_walk}

pub one_dtd : OneDtd
one_dtd p q text ds es a b =
    let x = declarations_walk (p + q) a.are (omega arith) [] in
    let y = declarations_walk (p + q) b.are (omega arith) [] in
    let same : ◌≡◌ {A = Option DtdProgress} (some (outside ds)) (some (outside es)) = sym x ∙ y in
    cc

one_family : (text : List ℕ) (ds es : List Declaration) → Family text ds → Family text es → ds ≡ es
one_family text ds es a b = one_dtd _ _ text ds es a.spelled b.spelled

-- what stands at a byte
pub starts_any : (text : List ℕ) (k : ℕ) → AnyAt text k → (r : List ℕ) × (drop k text ≡ 65 ∷ 78 ∷ r)
starts_any text k a = (89 ∷ a.any.rest, a.any.is)

pub starts_entity : (text : List ℕ) (k : ℕ) → EntityAt text k → (c : ℕ) × (r : List ℕ) × (drop k text ≡ c ∷ r) × (c ≡ 65 → ⊥)
starts_entity text k (inl h) = (37, h.0, h.1, λ e. omega (arith, e))
starts_entity text k (inr (inl h)) = (38, h.0, h.1, λ e. omega (arith, e))
starts_entity text k (inr (inr h)) = (78, 84 ∷ 73 ∷ 84 ∷ 89 ∷ h.entity.rest, h.entity.is, λ e. omega (arith, e))

pub starts_attlist : (text : List ℕ) (k : ℕ) → AttlistAt text k → (r : List ℕ) × (drop k text ≡ 65 ∷ 84 ∷ r)
starts_attlist text k a = (84 ∷ 76 ∷ 73 ∷ 83 ∷ 84 ∷ a.attlist.rest, a.attlist.is)

any_or_entity : (text : List ℕ) (k : ℕ) → AnyAt text k → EntityAt text k → ⊥
any_or_entity text k a e =
    let s = starts_any text k a in
    let t = starts_entity text k e in
    let l : ◌≡◌ {A = List ℕ} (t.0 ∷ t.1) (65 ∷ 78 ∷ s.0) = sym t.2 ∙ s.1 in
    t.3 (cc)

any_or_attlist : (text : List ℕ) (k : ℕ) → AnyAt text k → AttlistAt text k → ⊥
any_or_attlist text k a e =
    let s = starts_any text k a in
    let t = starts_attlist text k e in
    let l : ◌≡◌ {A = List ℕ} (65 ∷ 84 ∷ t.0) (65 ∷ 78 ∷ s.0) = sym t.1 ∙ s.1 in
    let h : ◌≡◌ {A = ℕ} 84 78 = cc in
    omega (arith, h)

entity_or_attlist : (text : List ℕ) (k : ℕ) → EntityAt text k → AttlistAt text k → ⊥
entity_or_attlist text k a e =
    let s = starts_entity text k a in
    let t = starts_attlist text k e in
    let l : ◌≡◌ {A = List ℕ} (s.0 ∷ s.1) (65 ∷ 84 ∷ t.0) = sym s.2 ∙ t.1 in
    s.3 (cc)

one_number : {text : List ℕ} {k m n : ℕ} → Stands text k m → Stands text k n → m ≡ n
one_number (any a) (any b) = refl
one_number {text} {k} (any a) (entity b) = absurd (any_or_entity text k a b)
one_number {text} {k} (any a) (attlist b) = absurd (any_or_attlist text k a b)
one_number (any a) (other x y z) = absurd (x a)
one_number {text} {k} (entity a) (any b) = absurd (any_or_entity text k b a)
one_number (entity a) (entity b) = refl
one_number {text} {k} (entity a) (attlist b) = absurd (entity_or_attlist text k a b)
one_number (entity a) (other x y z) = absurd (y a)
one_number {text} {k} (attlist a) (any b) = absurd (any_or_attlist text k b a)
one_number {text} {k} (attlist a) (entity b) = absurd (entity_or_attlist text k b a)
one_number (attlist a) (attlist b) = refl
one_number (attlist a) (other x y z) = absurd (z a)
one_number (other x y z) (any b) = absurd (x b)
one_number (other x y z) (entity b) = absurd (y b)
one_number (other x y z) (attlist b) = absurd (z b)
one_number (other x y z) (other x' y' z') = refl

-- with few nodes, or by the grammar alone
by_grammar : (text : List ℕ) (k : ℕ) → GoesOnPast WithFewNodes text k → GoesOnPast Grammatical text k
by_grammar text k o = (o.0, record { rest = o.1.rest; value = o.1.value; writes = o.1.writes.grammatical })

-- the least beginning that is too much
less : (text : List ℕ) (j k : ℕ) → TooMuchAt text j → TooMuchAt text k → j < k → ⊥
less text j k a b h = a.too_much (b.no_fewer (suc j) h a.declarations a.of_family)

one_too_much : (text : List ℕ) (j k : ℕ) → TooMuchAt text j → TooMuchAt text k → j ≡ k
one_too_much text j k a b = on (dec_lt j k) (dec_lt k j)
  where
    on : Dec (j < k) → Dec (k < j) → j ≡ k
    on (yes h) d = absurd (less text j k a b h)
    on (no h) (yes h') = absurd (less text k j b a h')
    on (no h) (no h') = omega arith

module _ (text : List ℕ) where
  same : (j k : ℕ) → RefusedAt Family text j → RefusedAt Family text k → j ≡ k
  same j k a b = one_place ℕ (List Declaration) Family text j k a b

  not_both : (ds : List Declaration) (k : ℕ) → Family text ds → RefusedAt Family text k → ⊥
  not_both ds k a b = none_where_written ℕ (List Declaration) Family text ds k a b

  answers : {a b : ModelsTold} → ReadModels text a → ReadModels text b → a ≡ b
  answers (declared {ds = ds} f h) (declared {ds = es} g k) = ap declares (one_family text ds es f g)
  answers (declared {ds = ds} f h) (no_family {k = k} r o s) = absurd (not_both ds k f r)
  answers (declared {ds = ds} f h) (too_large {k = k} r o s) = absurd (not_both ds k f r)
  answers (declared {ds = ds} f h) (too_deep {k = k} r o) = absurd (not_both ds k f r)
  answers (declared {ds = ds} f h) (too_much {k = k} {ds = es} g n t) = absurd (n (subst Holdable (one_family text ds es f g) h))
  answers (no_family {k = k} r o s) (declared {ds = ds} f h) = absurd (not_both ds k f r)
  answers (no_family {k = k} {n = m} r o s) (no_family {k = j} {n = n} q u v) =
      let e = same j k q r in
      let t : Stands text k n = subst (λ i. Stands text i n) e v in
      let f = one_number s t in
      cc
  answers (no_family {k = k} r o s) (too_large {k = j} q u v) = absurd (o (subst (GoesOnPast Grammatical text) (same j k q r) u))
  answers (no_family {k = k} r o s) (too_deep {k = j} q u) = absurd (o (subst (GoesOnPast Grammatical text) (same j k q r) (by_grammar text j u)))
  answers (no_family {k = k} r o s) (too_much {k = j} {ds = es} g n t) = absurd (not_both es k g r)
  answers (too_large {k = k} r o s) (declared {ds = ds} f h) = absurd (not_both ds k f r)
  answers (too_large {k = k} r o s) (no_family {k = j} q u v) = absurd (u (subst (GoesOnPast Grammatical text) (same k j r q) o))
  answers (too_large {k = k} r o s) (too_large {k = j} q u v) = ap (refuses 53) (same k j r q)
  answers (too_large {k = k} r o s) (too_deep {k = j} q u) = absurd (s (subst (GoesOnPast WithFewNodes text) (same j k q r) u))
  answers (too_large {k = k} r o s) (too_much {k = j} {ds = es} g n t) = absurd (not_both es k g r)
  answers (too_deep {k = k} r o) (declared {ds = ds} f h) = absurd (not_both ds k f r)
  answers (too_deep {k = k} r o) (no_family {k = j} q u v) = absurd (u (subst (GoesOnPast Grammatical text) (same k j r q) (by_grammar text k o)))
  answers (too_deep {k = k} r o) (too_large {k = j} q u v) = absurd (v (subst (GoesOnPast WithFewNodes text) (same k j r q) o))
  answers (too_deep {k = k} r o) (too_deep {k = j} q u) = ap (refuses 54) (same k j r q)
  answers (too_deep {k = k} r o) (too_much {k = j} {ds = es} g n t) = absurd (not_both es k g r)
  answers (too_much {k = k} {ds = ds} f n t) (declared {ds = es} g h) = absurd (n (subst Holdable (one_family text es ds g f) h))
  answers (too_much {k = k} {ds = ds} f n t) (no_family {k = j} r o s) = absurd (not_both ds j f r)
  answers (too_much {k = k} {ds = ds} f n t) (too_large {k = j} r o s) = absurd (not_both ds j f r)
  answers (too_much {k = k} {ds = ds} f n t) (too_deep {k = j} r o) = absurd (not_both ds j f r)
  answers (too_much {k = k} {ds = ds} f n t) (too_much {k = j} {ds = es} g m u) = ap (refuses 56) (one_too_much text k j t u)

pub one_models_answer : OneModelsAnswer
one_models_answer text a b x y = answers text x y
