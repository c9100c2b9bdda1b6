-- A run under way: it begins, goes on with each step, and stops.
-- Assumes nothing.
use mathlib.Core.Path.{◌≡◌, refl, sym, ap, ap₂, subst, ◌∙◌}
use mathlib.Core.Bool.{Bool, true, false, not}
use mathlib.Core.List.{List, [], ◌∷◌, ◌++◌, append_assoc, append-nil}
use Prim.Native.Nat.{ℕ, ◌+◌, ◌-◌, ◌*◌, ◌/◌, ◌≤◌, ◌<◌}
use native.Mathlib.Omega.{arith}
use lib.Dec.{ltb}
use lib.ListN.{length, take, drop, length-append}
use lib.Seq.{take-append_seam, drop-append_seam, drop-drop}
use Rattle.lent.specs.Put.{put}
use Rattle.lent.proofs.Laws.{put_all}
use Rattle.sheet.specs.Sheet.{Sheet}
use Rattle.calls.specs.Held.{leaves_open, closing_of}
use Rattle.salvage.specs.Shape.{RecordTags}
use Rattle.salvage.specs.Salvage.{LostStretch}
use Rattle.state.specs.Bytes.{number_bytes}
use Rattle.state.proofs.Written.{number_wide}
use Rattle.rescue.specs.Held.{Mode, Rescued}
use Rattle.rescue.specs.Step.{Setting, Step, on, stop, StepIs}
use Rattle.rescue.specs.Call.{halted, larger, after_step, Rescues, goes, halts, setting}
use Rattle.rescued.specs.Bytes.{entry_width, entry_bytes, report_bytes}
use Rattle.turns.specs.declared.Stand.{Stand}
use Rattle.turns.specs.declared.Place.{Place}
use Rattle.turns.specs.declared.Given.{Given}
use Rattle.turns.specs.declared.Turn.{Turn}
use Rattle.turns.specs.Stands.{mode_of, ReadyOn}
use Rattle.strides.specs.Strides.{step_goes_on, number_in, place_in, mode_in, written_in, told_in, depth_in, Shown, Strode}
use Rattle.rescuer.specs.declared.Ending.{Ending}
use Rattle.rescuer.specs.Ran.{at_start, Went, RanOn}
use Rattle.rescuer.proofs.Numbers.{step_few}

-- ---- bytes of the report
entry_long : (d : LostStretch) → length (entry_bytes d) ≡ entry_width
unfolding entry_bytes
entry_long d =
    omega (arith, length-append (number_bytes 8 d.first) (number_bytes 8 d.last ++ number_bytes 8 d.number), length-append (number_bytes 8 d.last) (number_bytes 8 d.number), number_wide 8 d.first, number_wide 8 d.last, number_wide 8 d.number)

pub report_width : (ds : List LostStretch) → length (report_bytes ds) ≡ entry_width * length ds
unfolding report_bytes
report_width [] = refl
report_width (d ∷ ds) = omega (arith, length-append (entry_bytes d) (report_bytes ds), entry_long d, report_width ds)

report_append : (ds es : List LostStretch) → report_bytes (ds ++ es) ≡ report_bytes ds ++ report_bytes es
unfolding report_bytes
report_append [] es = refl
report_append (d ∷ ds) es = ap (λ (l : List ℕ). entry_bytes d ++ l) (report_append ds es) ∙ sym (append_assoc (entry_bytes d) (report_bytes ds) (report_bytes es))

-- ---- lent memory in which u stands first, after w is written behind it
pub behind_it_lem : (u w lent d d' : List ℕ) (n : ℕ) → length u ≡ n → d ≡ u ++ drop n lent → d' ≡ take n d ++ (w ++ drop (n + length w) d) → d' ≡ (u ++ w) ++ drop (n + length w) lent
behind_it_lem u w lent d d' n l f e =
    let t : take n d ≡ u = ap₂ take (sym l) f ∙ take-append_seam u (drop n lent) in
    let r : drop n d ≡ drop n lent = ap₂ drop (sym l) f ∙ drop-append_seam u (drop n lent) in
    let v : drop (n + length w) d ≡ drop (n + length w) lent = sym (drop-drop (length w) n d) ∙ ap (drop (length w)) r ∙ drop-drop (length w) n lent in
    e ∙ ap₂ (λ (x y : List ℕ). x ++ (w ++ y)) t v ∙ sym (append_assoc u w (drop (n + length w) lent))

-- what is the same from k on is the same further on
later : (k n : ℕ) (d d' : List ℕ) → k ≤ n → drop k d ≡ drop k d' → drop n d ≡ drop n d'
later k n d d' h e =
    let i : n ≡ k + (n - k) = omega arith in
    ap (λ (j : ℕ). drop j d) i ∙ sym (drop-drop (n - k) k d) ∙ ap (drop (n - k)) e ∙ drop-drop (n - k) k d' ∙ ap (λ (j : ℕ). drop j d') (sym i)

-- ---- answers behind answers
behind_none : (r : Rescued) → r ≡ after_step [] [] 0 r
behind_none r =
    let i : r.waited ≡ 0 + (r.waited - 0) = omega arith in
    ap (λ (n : ℕ). record { number = r.number; taken = r.taken; output = r.output; report = r.report; waited = n; held = r.held }) i

behind_both : (u w : List ℕ) (ds es : List LostStretch) (k n : ℕ) (r : Rescued) → after_step u ds k (after_step w es n r) ≡ after_step (u ++ w) (ds ++ es) (larger k n) r
behind_both u w ds es k n r =
    let i : larger k (larger n r.waited) ≡ larger (larger k n) r.waited = omega arith in
    ap₂ (λ (l : List ℕ) (q : ℕ). record { number = r.number; taken = r.taken; output = l; report = ds ++ (es ++ r.report); waited = q; held = r.held }) (sym (append_assoc u w r.output)) i
    ∙ ap (λ (l : List LostStretch). record { number = r.number; taken = r.taken; output = (u ++ w) ++ r.output; report = l; waited = larger (larger k n) r.waited; held = r.held }) (sym (append_assoc ds es r.report))

module _ {a : Sheet} {x : RecordTags} {g : Given} {part : List ℕ} where
  pub begins : (t : Stand) (b out area rep : List ℕ) → ReadyOn a g part at_start t b out area → Went a x g part t b out area rep at_start t 0 b out area rep
  unfolding report_bytes
  begins t b out area rep R =
      record {
        ready = R;
        told_in_lem = omega arith;
        out_long = refl;
        area_long = refl;
        report_long = refl;
        written = [];
        as_long = refl;
        output = refl;
        lost_so = [];
        as_many = refl;
        report = refl;
        past = refl;
        deep_in = omega arith;
        rest = λ r h.
            let c : Setting = setting a x part (not g.ended) g.base (length area) in
            let i : length out - 0 ≡ length out = omega arith in
            let j : length rep / entry_width - 0 ≡ length rep / entry_width = omega arith in
            subst (Rescues c 0 (length out) (length rep / entry_width) (mode_of t b area)) (behind_none r)
            (subst (λ (n : ℕ). Rescues c 0 (length out) n (mode_of t b area) r) j (subst (λ (n : ℕ). Rescues c 0 n (length rep / entry_width - 0) (mode_of t b area) r) i h));
      }

module _ {a : Sheet} {x : RecordTags} {g : Given} {part : List ℕ} {t₀ : Stand} {b₀ out₀ area₀ rep₀ : List ℕ} {p : Place} {t : Stand} {deep : ℕ} {b out area rep : List ℕ}
    (W : Went a x g part t₀ b₀ out₀ area₀ rep₀ p t deep b out area rep) {b' out' area' rep' : List ℕ} {r : Turn} (S : Strode a x g part p t b b' out out' area area' rep rep' r) where
  abbrev c : Setting
  c = setting a x part (not g.ended) g.base (length area₀)

  abbrev m : Mode
  m = mode_of t b area

  abbrev m₀ : Mode
  m₀ = mode_of t₀ b₀ area₀

  abbrev w : List ℕ
  w = written_in S.step

  abbrev ds : List LostStretch
  ds = told_in S.step

  -- the step, with the lengths as lent
  step_here : StepIs c p.at (length out₀ - p.put) (length rep₀ / entry_width - p.told) m S.step
  step_here =
      subst (λ (n : ℕ). StepIs (setting a x part (not g.ended) g.base n) p.at (length out₀ - p.put) (length rep₀ / entry_width - p.told) m S.step) W.area_long
      (subst (λ (n : ℕ). StepIs (setting a x part (not g.ended) g.base (length area)) p.at (n - p.put) (length rep₀ / entry_width - p.told) m S.step) W.out_long
      (subst (λ (n : ℕ). StepIs (setting a x part (not g.ended) g.base (length area)) p.at (length out - p.put) (n / entry_width - p.told) m S.step) W.report_long S.is))

  output_then : out' ≡ (W.written ++ w) ++ drop (p.put + length w) out₀
  output_then = behind_it_lem W.written w out₀ out out' p.put W.as_long W.output S.shown.output

  long_report : (d : List LostStretch) (n : ℕ) → length d ≡ n → length (report_bytes d) ≡ entry_width * n
  long_report d n e = report_width d ∙ ap (λ (i : ℕ). entry_width * i) e

  report_then : rep' ≡ report_bytes (W.lost_so ++ ds) ++ drop (entry_width * (p.told + length ds)) rep₀
  report_then =
      let k : List ℕ = report_bytes ds in
      let n = report_width ds in
      let h : entry_width * p.told + length (report_bytes ds) ≤ length rep = omega (arith, n, S.told_in_lem, S.shown.told) in
      let e₁ : rep' ≡ take (entry_width * p.told) rep ++ (report_bytes ds ++ drop (entry_width * p.told + length (report_bytes ds)) rep) =
      S.shown.report ∙ put_all rep (entry_width * p.told) (report_bytes ds) h ∙ append_assoc (take (entry_width * p.told) rep) (report_bytes ds) (drop (entry_width * p.told + length (report_bytes ds)) rep) in
      let e₂ = behind_it_lem (report_bytes W.lost_so) (report_bytes ds) rep₀ rep rep' (entry_width * p.told) (long_report W.lost_so p.told W.as_many) W.report e₁ in
      let i : entry_width * p.told + length (report_bytes ds) ≡ entry_width * (p.told + length ds) = omega (arith, n) in
      e₂ ∙ ap₂ (λ (l : List ℕ) (j : ℕ). l ++ drop j rep₀) (sym (report_append W.lost_so ds)) i

  past_then : drop (larger deep r.deep) area' ≡ drop (larger deep r.deep) area₀
  past_then = later r.deep (larger deep r.deep) area' area (omega arith) S.past ∙ later deep (larger deep r.deep) area area₀ (omega arith) W.past

  deep_then : larger deep r.deep ≤ length area₀
  deep_then = omega (arith, S.deep_in, W.area_long, W.deep_in)

  long_then : length (W.written ++ w) ≡ p.put + length w
  long_then = omega (arith, length-append W.written w, W.as_long)

  many_then : length (W.lost_so ++ ds) ≡ p.told + length ds
  many_then = omega (arith, length-append W.lost_so ds, W.as_many)

  pub goes_on : r.goes ≡ true → Went a x g part t₀ b₀ out₀ area₀ rep₀ r.place r.stand (larger deep r.deep) b' out' area' rep'
  goes_on h =
      record {
        ready = S.again;
        told_in_lem = omega (arith, S.told_in_lem, S.report_long);
        out_long = S.out_long ∙ W.out_long;
        area_long = S.area_long ∙ W.area_long;
        report_long = S.report_long ∙ W.report_long;
        written = W.written ++ w;
        as_long = long_then ∙ sym S.shown.written;
        output = output_then ∙ ap (λ (i : ℕ). (W.written ++ w) ++ drop i out₀) (sym S.shown.written);
        lost_so = W.lost_so ++ ds;
        as_many = many_then ∙ sym S.shown.told;
        report = report_then ∙ ap (λ (i : ℕ). report_bytes (W.lost_so ++ ds) ++ drop (entry_width * i) rep₀) (sym S.shown.told);
        past = past_then;
        deep_in = deep_then;
        rest = λ q z. by S.step step_here (sym h ∙ S.shown.goes) S.shown.at S.shown.written S.shown.told S.shown.deep S.shown.mode q z;
      }
    where
      by : (st : Step) → StepIs c p.at (length out₀ - p.put) (length rep₀ / entry_width - p.told) m st → true ≡ step_goes_on st → r.place.at ≡ place_in st → r.place.put ≡ p.put + length (written_in st) →
          r.place.told ≡ p.told + length (told_in st) → r.deep ≡ depth_in st → mode_of r.stand b' area' ≡ mode_in st → (q : Rescued) →
          Rescues c r.place.at (length out₀ - r.place.put) (length rep₀ / entry_width - r.place.told) (mode_of r.stand b' area') q →
          Rescues c 0 (length out₀) (length rep₀ / entry_width) m₀ (after_step (W.written ++ written_in st) (W.lost_so ++ told_in st) (larger deep r.deep) q)
      by (stop n to m' es k) st z at pu te de mo q R = absurd (let u : ◌≡◌ {A = ℕ} 0 1 = cc in omega arith)
      by (on next m' v es k) st z at pu te de mo q R =
          let i : length out₀ - r.place.put ≡ length out₀ - p.put - length v = omega (arith, pu) in
          let j : length rep₀ / entry_width - r.place.told ≡ length rep₀ / entry_width - p.told - length es = omega (arith, te) in
          let R₁ = subst (λ (n : ℕ). Rescues c n (length out₀ - r.place.put) (length rep₀ / entry_width - r.place.told) (mode_of r.stand b' area') q) at R in
          let R₂ = subst (λ (n : ℕ). Rescues c next n (length rep₀ / entry_width - r.place.told) (mode_of r.stand b' area') q) i R₁ in
          let R₃ = subst (λ (n : ℕ). Rescues c next (length out₀ - p.put - length v) n (mode_of r.stand b' area') q) j R₂ in
          let R₄ = subst (λ (y : Mode). Rescues c next (length out₀ - p.put - length v) (length rep₀ / entry_width - p.told - length es) y q) mo R₃ in
          subst (Rescues c 0 (length out₀) (length rep₀ / entry_width) m₀)
          (behind_both W.written v W.lost_so es deep k q ∙ ap (λ (n : ℕ). after_step (W.written ++ v) (W.lost_so ++ es) (larger deep n) q) (sym de))
          (W.rest (after_step v es k q) (goes next m' v es k st R₄))

  pub stops_here : r.goes ≡ false → (e : Ending) → e ≡ record { number = r.number; place = r.place; deep = larger deep r.deep; stand = r.stand } →
      RanOn a x g part t₀ b₀ b' out₀ out' area₀ area' rep₀ rep' e
  stops_here h e q = subst (RanOn a x g part t₀ b₀ b' out₀ out' area₀ area' rep₀ rep') (sym q) (by S.step step_here (sym h ∙ S.shown.goes) S.shown output_then report_then long_then many_then)
    where
      by : (st : Step) → StepIs c p.at (length out₀ - p.put) (length rep₀ / entry_width - p.told) m st → false ≡ step_goes_on st → Shown st p b' out out' area' rep rep' r →
          out' ≡ (W.written ++ written_in st) ++ drop (p.put + length (written_in st)) out₀ → rep' ≡ report_bytes (W.lost_so ++ told_in st) ++ drop (entry_width * (p.told + length (told_in st))) rep₀ →
          length (W.written ++ written_in st) ≡ p.put + length (written_in st) → length (W.lost_so ++ told_in st) ≡ p.told + length (told_in st) →
          RanOn a x g part t₀ b₀ b' out₀ out' area₀ area' rep₀ rep' (record { number = r.number; place = r.place; deep = larger deep r.deep; stand = r.stand })
      by (on next m' v es k) st z sh oe re lw lm = absurd (let u : ◌≡◌ {A = ℕ} 0 1 = cc in omega arith)
      by (stop n to m' es k) st z sh oe re lw lm =
          let answer : Rescued = after_step W.written W.lost_so deep (halted c n to m' es k) in
          record {
            answer = answer;
            rescues = W.rest (halted c n to m' es k) (halts n to m' es k st);
            number = sh.number;
            few = omega (arith, sh.number, step_few st);
            taken = sh.at;
            written = sh.written ∙ sym lw;
            reported = sh.told ∙ sym lm;
            waited = ap (larger deep) sh.deep;
            output = oe ∙ ap (λ (i : ℕ). (W.written ++ []) ++ drop i out₀) (sym lw);
            report = re ∙ ap (λ (i : ℕ). report_bytes (W.lost_so ++ es) ++ drop (entry_width * i) rep₀) (sym sh.told);
            mode = sh.mode;
            passed = ap (λ (i : ℕ). g.base + i) (sym sh.at);
            closing = ap (λ (i : ℕ). closing_of (leaves_open i) i) (sym sh.number);
            ready = S.again;
            area_long = S.area_long ∙ W.area_long;
            past = past_then;
            deep_in = deep_then;
            waits_in = omega (arith, S.waits_in);
          }

pub at_most : {a : Sheet} {x : RecordTags} {g : Given} {part : List ℕ} {t₀ : Stand} {b₀ out₀ area₀ rep₀ : List ℕ} {p : Place} {t : Stand} {k n : ℕ} {b out area rep : List ℕ} → n ≡ k →
    Went a x g part t₀ b₀ out₀ area₀ rep₀ p t k b out area rep → Went a x g part t₀ b₀ out₀ area₀ rep₀ p t n b out area rep
at_most {a} {x} {g} {part} {t₀} {b₀} {out₀} {area₀} {rep₀} {p} {t} {k} {n} {b} {out} {area} {rep} e W = subst (λ (i : ℕ). Went a x g part t₀ b₀ out₀ area₀ rep₀ p t i b out area rep) (sym e) W
