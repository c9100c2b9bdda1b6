-- From the passes to the checker's answers: the dry pass leaves the list as lent and ends four bytes for each fault on, so its end tells
-- the count and the room; the T faults' end tells 8 from 9; and a pass that fits puts the whole list. Assumes nothing.
use mathlib.Core.Path.{◌≡◌, refl, sym, ap, ◌∙◌}
use mathlib.Core.Bool.{true, false}
use mathlib.Core.List.Memᴰ
use mathlib.Core.List.{List, [], ◌∷◌, ◌++◌, Memᴰ}
use mathlib.Core.Logic.{⊎_elim}
use Prim.Native.Nat.{ℕ, ◌*◌, ◌/◌, ◌≤◌, ◌<◌}
use native.Mathlib.Nat.{zero-add}
use native.Mathlib.Omega.{arith}
use lib.ListN.{length, drop, length-append}
use Rattle.expressions.specs.Grammar.{Production, Small}
use Rattle.expressions.specs.FaultList.{TFault, SFault, KeepsT, IsFaultList, list_bytes, FaultNumber, passes, t_fault, s_faults}
use Rattle.expressions.specs.Listed.{t_faults, fault_list}
use Rattle.expressions.proofs.Order.{Bytes}
use Rattle.expressions.proofs.ListedT.{t_iff}
use Rattle.expressions.proofs.Listed.{listed}
use Rattle.expressions.proofs.Numbers.{none_iff}
use Rattle.expressions.proofs.Room.{list_bytes_lem}
use Rattle.lent.specs.Put.{put}
use Rattle.lent.proofs.Laws.{put_dry, put_all}
use Rattle.layout.specs.Layout.{tag_count}
use Rattle.trees.specs.GrammarAt.{GrammarIs}
use Rattle.sheet.specs.Sheet.{Sheet, grammar_of, IsSheet}
use Rattle.sheet.proofs.SheetLaws.{numbered_productions, sheet_grammar}
use Rattle.faults.specs.Part.{AllPut, NumberBy, some_T, only_S, neither}
use Rattle.faults.specs.Checked.{ListedAs, too_short, all_listed, CheckedAs, well_formed_lem as faults_of}
use Rattle.faults.specs.Verdict.{VerdictIs, of_sheet}
use Rattle.faults.specs.declared.Ends.{Ends}

-- an entry is no longer than the list that it stands in
entry_within : (b : Bytes) (l : List Bytes) → Memᴰ b l → length b ≤ length (list_bytes l)
entry_within b [] m = absurd (Memᴰ.not-nil m)
entry_within b (c ∷ l) m =
    let e = length-append c (list_bytes l) in
    ⊎_elim (λ q. let k : length b ≡ length c = ap length q in omega (arith, e, k)) (λ n. let i = entry_within b l n in omega (arith, e, i)) (Memᴰ.cases_cons m)

-- the T faults' bytes tell whether there is one
module _ (n : ℕ) (g : List Production) (small : Small n g) where
  no_t : length (list_bytes (t_faults n g)) ≡ 0 → KeepsT g
  no_t e b f =
      let k = entry_within b (t_faults n g) ((t_iff n g small b).0 f) in
      let four : length b ≡ 4 = ap length f.are_bytes in
      omega (arith, k, four, e)

  some_t : (length (list_bytes (t_faults n g)) ≡ 0 → ⊥) → (b : Bytes) × TFault g b
  some_t h = first (t_faults n g) (λ b m. (t_iff n g small b).1 m) h
    where
      first : (l : List Bytes) → ((b : Bytes) → Memᴰ b l → TFault g b) → (length (list_bytes l) ≡ 0 → ⊥) → (b : Bytes) × TFault g b
      first [] f h = absurd (h refl)
      first (b ∷ l) f h = (b, f b (Memᴰ.head refl))

no_fault : (l : List Bytes) → 4 * length l ≡ 0 → l ≡ []
no_fault [] e = refl
no_fault (b ∷ l) e = absurd (omega (arith, e))

-- faults that are none of rule T's
pub some_s : (g : List Production) (l : List Bytes) → IsFaultList g l → (l ≡ [] → ⊥) → KeepsT g → (b : Bytes) × SFault g b
some_s g [] i h k = absurd (h refl)
some_s g (b ∷ l) i h k = ⊎_elim (λ f. absurd (k b f)) (λ f. (b, f)) ((i.holds b).1 (Memᴰ.head refl))

-- the answers on the sheet a, from its grammar with the list of faults
module _ {s lent mid : List ℕ} {e : Ends} {a : Sheet} (i : IsSheet s a) (dry : AllPut s false lent mid e) where
  abbrev g : List Production
  g = grammar_of a.rules

  abbrev l : List Bytes
  l = fault_list (tag_count s) g

  g_is : GrammarIs s g
  g_is = sheet_grammar i

  small : Small (tag_count s) g
  small = numbered_productions i.well_formed_lem g g_is

  is_list_lem : IsFaultList g l
  is_list_lem = listed (tag_count s) g small

  as_lent : mid ≡ lent
  as_lent = (dry.all_is g g_is).left ∙ put_dry false lent 0 (list_bytes l) refl

  end_is : e.all ≡ 4 * length l
  end_is = omega (arith, (dry.all_is g g_is).next, list_bytes_lem g l is_list_lem)

  answer : {number : ℕ} {after : List ℕ} → ListedAs g l lent after number → CheckedAs s lent after (record { number = number; count = e.all / 4 })
  answer z = faults_of a i l is_list_lem (omega (arith, end_is)) z

  keeps_t : e.t ≡ 0 → KeepsT g
  keeps_t z = no_t (tag_count s) g small (sym (dry.t_is g g_is) ∙ z)

  a_t_fault : (e.t ≡ 0 → ⊥) → (b : Bytes) × TFault g b
  a_t_fault z = some_t (tag_count s) g small (λ q. z (dry.t_is g g_is ∙ q))

  none_listed : e.all ≡ 0 → l ≡ []
  none_listed z = no_fault l (omega (arith, z, end_is))

  some_listed : (e.all ≡ 0 → ⊥) → l ≡ [] → ⊥
  some_listed z q = z (end_is ∙ ap (λ (x : List Bytes). 4 * length x) q)

  -- the number is that of the grammar's faults
  number_by : {n : ℕ} → NumberBy e n → FaultNumber g n
  number_by (some_T z) = let b = a_t_fault z in t_fault {b = b.0} b.1
  number_by (only_S t z) = let f = some_s g l is_list_lem (some_listed z) (keeps_t t) in s_faults {b = f.0} (keeps_t t) f.1
  number_by (neither t z) = let k = (none_iff g l is_list_lem).0 (none_listed z) in passes k.0 k.1

  -- where no list is lent the number is all
  pub verdict_by : {n : ℕ} → NumberBy e n → VerdictIs s n
  verdict_by h = of_sheet a i (number_by h)

  pub answer_0 : {n : ℕ} → NumberBy e n → n ≡ 0 → CheckedAs s lent mid (record { number = 0; count = e.all / 4 })
  answer_0 (some_T z) q = absurd (omega (arith, q))
  answer_0 (only_S t z) q = absurd (omega (arith, q))
  answer_0 (neither t z) q =
      let n = none_listed z in
      answer (all_listed (omega (arith, z, end_is)) (number_by (neither t z)) (as_lent ∙ ap (λ (x : List Bytes). list_bytes x ++ drop (4 * length x) lent) (sym n)))

  pub answer_10 : length mid < e.all → CheckedAs s lent mid (record { number = 10; count = e.all / 4 })
  answer_10 z = answer (too_short (let m : length mid ≡ length lent = ap length as_lent in omega (arith, z, m, end_is)) refl as_lent)

  -- the list where it fits
  module _ {after : List ℕ} {f : Ends} (wet : AllPut s true mid after f) (room : e.all ≤ length mid) where
    fits : 4 * length l ≤ length lent
    fits = let m : length mid ≡ length lent = ap length as_lent in omega (arith, room, m, end_is)

    written : after ≡ list_bytes l ++ drop (4 * length l) lent
    written =
        let long : length (list_bytes l) ≡ 4 * length l = list_bytes_lem g l is_list_lem in
        let put_at : after ≡ put true lent 0 (list_bytes l) = (wet.all_is g g_is).left ∙ ap (λ (d : List ℕ). put true d 0 (list_bytes l)) as_lent in
        put_at ∙ put_all lent 0 (list_bytes l) (omega (arith, long, fits)) ∙ ap (λ (k : ℕ). list_bytes l ++ drop k lent) (zero-add _ ∙ long)

    pub answer_8_or_9 : {n : ℕ} → NumberBy e n → (n ≡ 0 → ⊥) → CheckedAs s lent after (record { number = n; count = e.all / 4 })
    answer_8_or_9 h q = answer (all_listed fits (number_by h) written)
