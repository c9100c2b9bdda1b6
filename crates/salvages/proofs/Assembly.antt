-- A call over a state's own bytes: what the run comes to, with the area cleared and the state put back, is what the call answers.
-- Assumes nothing.
use mathlib.Core.Path.{◌≡◌, refl, sym, ap, ap₂, subst, ◌∙◌}
use mathlib.Core.Bool.{Bool, true, false, ◌&&◌, not, cond}
use mathlib.Core.List.{List, [], ◌++◌, append-nil}
use mathlib.Core.Option.{Option, none, some}
use Prim.Native.Nat.{ℕ, zero, suc, ◌+◌, ◌-◌, ◌*◌, ◌/◌, ◌≤◌, ◌<◌, ◌^◌}
use native.Mathlib.Omega.{arith}
use lib.ListN.{length, get_or, take, drop, replicate, length-append, length-drop, length-take, drop_of_length-le}
use lib.Dec.{leb}
use borrow.Author.Tests.{leb-true}
use lib.Seq.{take_all, length-take-le, get_or-drop, get_or-take, get_or-append-add}
use Rattle.lent.specs.Put.{put}
use Rattle.layout.specs.Layout.{byte_at}
use Rattle.sheet.specs.Sheet.{Sheet, IsSheet}
use Rattle.sheet.proofs.SheetLaws.{one_sheet}
use Rattle.calls.specs.Held.{leaves_open, closing_of}
use Rattle.runs.specs.Machine.{most}
use Rattle.salvage.specs.Shape.{RecordTags}
use Rattle.state.specs.Bounds.{head_width, stack_width, state_width}
use Rattle.state.specs.Bytes.{long_at, state_from}
use Rattle.state.specs.declared.State.{State}
use Rattle.live.specs.declared.Live.{Live}
use Rattle.live.specs.Live.{full}
use Rattle.live.proofs.Stacks.{full_same}
use Rattle.converter.specs.Answered.{closing_in}
use Rattle.converter.specs.Inner.{closed_live, left_live}
use Rattle.converter.proofs.InPlace.{with_frames}
use Rattle.rescue.specs.Held.{Mode, HeldSalvage, Rescued}
use Rattle.rescue.specs.Call.{Rescues, RescuedBy, setting}
use Rattle.rescued.specs.Bytes.{mode_at, passed_at, salvage_width, mode_from, salvage_in, mode_bytes, area_after, entry_width, report_bytes}
use Rattle.rescued.specs.Fits.{SalvageFits}
use Rattle.rescued.specs.Salvaged.{Put, SalvageRan}
use Rattle.rescued.specs.declared.SalvageCounts.{SalvageCounts}
use Rattle.turns.specs.declared.Stand.{Stand}
use Rattle.turns.specs.declared.Given.{Given}
use Rattle.turns.specs.Stands.{mode_of, RunStands, HoldsIn, holds_between, holds_inside, holds_skipping, Grounds, ReadyOn, Ready}
use Rattle.holding.specs.Told.{StandAs}
use Rattle.resting.specs.Laid.{StandPut}
use Rattle.strides.proofs.Basics.{stands_same, mode_same}
use Rattle.rescuer.specs.declared.Ending.{Ending}
use Rattle.rescuer.specs.Ran.{at_start, RanOn, StepsRanAs}
use Rattle.rescuer.proofs.Going.{report_width}
use Rattle.salvager.specs.Entered.{MaySalvage}
use Rattle.handback.specs.Begun.{BegunAs}
use Rattle.handback.proofs.Begun.{stand_begins}
use Rattle.handback.proofs.Left.{state_left, area_left}
use Rattle.salvages.specs.Lending.{lending}

-- the frames of the bytes b, as they are lent, and whatever lies behind them
abbrev pub lent_frames : List ℕ → List ℕ
lent_frames b = take (length b - head_width) (drop head_width b)

pub all_lent : (b : List ℕ) → lent_frames b ≡ drop head_width b
all_lent b = take_all (length b - head_width) (drop head_width b) (omega (arith, length-drop head_width b))

module _ (b stack : List ℕ) (l : length b ≡ salvage_width) (k : length stack ≡ length (lent_frames b)) where
  stack_long : length stack ≡ length b - head_width
  stack_long = k ∙ ap (λ (x : List ℕ). length x) (all_lent b) ∙ length-drop head_width b

  none_past : drop (length b - head_width) (drop head_width b) ≡ []
  none_past = drop_of_length-le (drop head_width b) {i = length b - head_width} (omega (arith, length-drop head_width b))

  with_is : with_frames b stack ≡ take head_width b ++ stack
  with_is = ap (λ (x : List ℕ). take head_width b ++ (stack ++ x)) none_past ∙ ap (λ (x : List ℕ). take head_width b ++ x) (append-nil stack)

  pub long_with : length (with_frames b stack) ≡ length b
  long_with =
      let n : length (take head_width b) ≡ head_width = length-take-le head_width b (omega arith) in
      ap (λ (x : List ℕ). length x) with_is ∙ length-append (take head_width b) stack ∙ omega (arith, stack_long)

  -- the run's own bytes alone hold all frames, so what the live part reads of the stack is in them
  abbrev own : List ℕ
  own = drop head_width (take state_width (with_frames b stack))

  same_byte : (i : ℕ) → i < stack_width → byte_at own i ≡ byte_at stack i
  same_byte i h =
      let n : length (take head_width b) ≡ head_width = length-take-le head_width b (omega arith) in
      get_or-drop head_width (take state_width (with_frames b stack)) i 0 ∙ get_or-take state_width (with_frames b stack) (head_width + i) 0 (omega arith)
      ∙ ap₂ (λ (x : List ℕ) (k : ℕ). get_or x (k + i) 0) with_is (sym n) ∙ get_or-append-add (take head_width b) stack i 0

  pub reads_same : (h : Live) → h.depth ≤ most → full h own ≡ full h stack
  reads_same h d = full_same h stack own (λ i l. same_byte i (omega arith))

-- ---- what may be put back
both_right : (u v : Bool) → u && v ≡ true → v ≡ true
both_right true v e = e
both_right false v e = absurd (let z : ◌≡◌ {A = ℕ} 0 1 = cc in omega arith)

pub before_deep : {a : Sheet} {past m : ℕ} (t : Stand) → HoldsIn a past t m → m ≡ 1 → t.before.depth ≤ most
before_deep t (holds_between w) e = absurd (omega arith)
before_deep t (holds_inside x o z) e = omega (arith, o)
before_deep t (holds_skipping x w) e = absurd (omega arith)

pub number_few : {a : Sheet} {past m : ℕ} (t : Stand) → HoldsIn a past t m → (m ≡ 0 → ⊥) → (m ≡ 1 → ⊥) → t.number < 256
number_few t (holds_between w) d e = absurd (d refl)
number_few t (holds_inside x o z) d e = absurd (e refl)
number_few t (holds_skipping x w) d e = let h : t.number ≤ 25 = leb-true t.number 25 (both_right (leb 20 t.number) (leb t.number 25) x) in omega arith

pub left_deep : (n : ℕ) (h left : Live) → left ≡ left_live n h → h.depth ≤ most → left.depth ≤ most
left_deep n h left e d = let q : left.depth ≡ h.depth = ap (λ (z : Live). z.depth) e ∙ by (leaves_open n) in omega arith
  where
    by : (k : Bool) → (cond k h (closed_live h n)).depth ≡ h.depth
    by true = refl
    by false = refl

-- ---- before the run
module _ {s part b area : List ℕ} (M : MaySalvage s b area part) (g : Given) (t : Stand) (G : Grounds s g.tag) (base : g.base ≡ long_at b passed_at) (K : StandAs b t) where
  same_sheet : M.sheet ≡ G.sheet
  same_sheet = one_sheet M.is_sheet G.is_sheet

  fits_here : SalvageFits G.sheet b (length area) (length part)
  fits_here = subst (λ (a : Sheet). SalvageFits a b (length area) (length part)) same_sheet M.fits

  begun : (out : List ℕ) → BegunAs G.sheet g part b out area t
  begun out = stand_begins s G.sheet g part b out area t G.is_sheet fits_here M.is_open base K

  pub ready_here : (out : List ℕ) → Ready s g part at_start t (lent_frames b) out area
  ready_here out = record { grounds = G; on = subst (λ (x : List ℕ). ReadyOn G.sheet g part at_start t x out area) (sym (all_lent b)) (begun out).ready }

-- ---- after it
module _ {s part b out area rep : List ℕ} (M : MaySalvage s b area part) (g : Given) (t : Stand) (base : g.base ≡ long_at b passed_at) (K : StandAs b t)
    (stack out' area₁ rep' : List ℕ) (r : Ending) (W : StepsRanAs s g part t (lent_frames b) stack out out' area area₁ rep rep' r)
    (sl : length stack ≡ length (lent_frames b)) (ol : length out' ≡ length out) (rl : length rep' ≡ length rep) where
  abbrev G : Grounds s g.tag
  G = W.grounds

  abbrev U : RanOn G.sheet G.tags g part t (lent_frames b) stack out out' area area₁ rep rep' r
  U = W.ran

  -- the live part that is put back, and what may be put
  pub deep_here : r.stand.live.depth ≤ most
  deep_here = U.ready.stands.shaped.deep

  is_none : closing_in (state_from b).closed ≡ none
  is_none = ap (λ (c : ℕ). closing_in c) M.is_open

  mode_begun : mode_of t (lent_frames b) area ≡ mode_from b area (byte_at b mode_at)
  mode_begun = ap (λ (x : List ℕ). mode_of t x area) (all_lent b) ∙ (begun M g t G base K out).mode

  called_so : RescuedBy G.sheet G.tags part (not g.ended) (length area) (length out) (length rep / entry_width) (salvage_in b area) (closing_in (state_from b).closed) U.answer
  called_so =
      subst (λ (o : Option ℕ). RescuedBy G.sheet G.tags part (not g.ended) (length area) (length out) (length rep / entry_width) (salvage_in b area) o U.answer) (sym is_none)
      (subst (λ (n : ℕ). Rescues (setting G.sheet G.tags part (not g.ended) n (length area)) 0 (length out) (length rep / entry_width) (mode_from b area (byte_at b mode_at)) U.answer) base
      (subst (λ (m : Mode). Rescues (setting G.sheet G.tags part (not g.ended) g.base (length area)) 0 (length out) (length rep / entry_width) m U.answer) mode_begun U.rescues))

  output_put : Put out out' U.answer.output
  output_put = record { room = omega (arith, U.written, U.ready.room, ol); left = U.output }

  report_put : Put rep rep' (report_bytes U.answer.report)
  report_put =
      let n = report_width U.answer.report in
      let i : entry_width * r.place.told ≡ length (report_bytes U.answer.report) = omega (arith, n, U.reported) in
      let e : rep' ≡ report_bytes U.answer.report ++ drop (length (report_bytes U.answer.report)) rep = U.report ∙ ap (λ (k : ℕ). report_bytes U.answer.report ++ drop k rep) i in
      let k : length rep' ≡ length (report_bytes U.answer.report ++ drop (length (report_bytes U.answer.report)) rep) = ap (λ (x : List ℕ). length x) e in
      record { room = omega (arith, k, length-append (report_bytes U.answer.report) (drop (length (report_bytes U.answer.report)) rep), rl); left = e }

  abbrev own_stack : List ℕ
  own_stack = drop head_width (take state_width (with_frames b stack))

  reads_here : full r.stand.live own_stack ≡ full r.stand.live stack
  reads_here = reads_same b stack M.fits.wide sl r.stand.live deep_here

  mode_left : mode_of r.stand own_stack area₁ ≡ U.answer.held.mode
  mode_left = mode_same r.stand.mode r.stand stack own_stack area₁ area₁ reads_here refl ∙ U.mode

  state_here : (left : Live) (b' : List ℕ) → left ≡ left_live r.number r.stand.live → StandPut r.stand left (g.base + r.place.at) (with_frames b stack) b' →
      b' ≡ mode_bytes U.answer.held.closing U.answer.held.passed U.answer.held.mode
  state_here left b' e P =
      state_left G.sheet (g.base + r.place.at) r.stand r.number (g.base + r.place.at) (with_frames b stack) b' area₁ (stands_same r.stand.live stack own_stack reads_here U.ready.stands)
      U.ready.holds U.ready.waits (subst (λ (h : Live). StandPut r.stand h (g.base + r.place.at) (with_frames b stack) b') e P)
      ∙ ap (λ (m : Mode). mode_bytes (closing_of (leaves_open r.number) r.number) (g.base + r.place.at) m) mode_left
      ∙ ap₂ (λ (c : Option ℕ) (n : ℕ). mode_bytes c n U.answer.held.mode) (sym U.closing) (sym U.passed)

  area_here : (area' : List ℕ) → area' ≡ put true area₁ r.stand.waits (replicate (r.deep - r.stand.waits) 0) → area' ≡ area_after area U.answer.waited U.answer.held.mode
  area_here area' e =
      area_left G.sheet (g.base + r.place.at) r.stand stack area area₁ area' r.deep U.ready.holds U.area_long U.waits_in U.deep_in U.past e
      ∙ ap₂ (λ (k : ℕ) (m : Mode). area_after area k m) U.waited U.mode

  pub ran_here : (left : Live) (b' area' : List ℕ) (v : ℕ) → left ≡ left_live r.number r.stand.live → StandPut r.stand left (g.base + r.place.at) (with_frames b stack) b' →
      area' ≡ put true area₁ r.stand.waits (replicate (r.deep - r.stand.waits) 0) → v ≡ (state_from b').count →
      SalvageRan s part g.ended (lending b out area rep) (lending b' out' area' rep')
      (record { number = r.number; taken = r.place.at; written = r.place.put; reported = r.place.told; waited = r.deep; visits = v })
  ran_here left b' area' v e P f c =
      record {
        sheet = G.sheet;
        tags = G.tags;
        is_sheet = G.is_sheet;
        passed = G.passed;
        of_shape = G.of_shape;
        fits = fits_here M g t G base K;
        is_open = is_none;
        answer = U.answer;
        called = called_so;
        number = U.number;
        taken = U.taken;
        within = U.ready.within;
        written = U.written;
        reported = U.reported;
        waited = U.waited;
        waits_in = U.deep_in;
        visits = c;
        output = output_put;
        report = report_put;
        state = state_here left b' e P;
        area = area_here area' f;
      }
