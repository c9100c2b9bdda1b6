-- Calls of the salvage run over bytes that feed a stream are calls of its meaning.
-- Assumes nothing.
use mathlib.Core.Path.{◌≡◌, sym, ap, ap₂, ◌∙◌, subst}
use mathlib.Core.Bool.{Bool, false, not}
use mathlib.Core.List.{List, [], ◌++◌}
use mathlib.Core.Option.{Option, none, some}
use Prim.Native.Nat.{ℕ, ◌+◌, ◌-◌, ◌/◌, ◌^◌, ◌<◌}
use native.Mathlib.Omega.{arith}
use lib.ListN.{length, drop}
use Rattle.sheet.specs.Sheet.{Sheet, IsSheet}
use Rattle.sheet.proofs.SheetLaws.{one_sheet}
use Rattle.runs.specs.Machine.{fresh_configuration}
use Rattle.runs.proofs.SheetFits.{sheet_fits}
use Rattle.salvage.specs.Shape.{RecordTags}
use Rattle.salvage.specs.Shaped.{record_tags}
use Rattle.rescue.specs.Held.{between, HeldSalvage, fresh_salvage, Rescued}
use Rattle.rescue.specs.Call.{setting, RescuedBy, RescueCalled}
use Rattle.rescue.specs.Parts.{RescueFeeds}
use Rattle.rescue.proofs.Fed.{fed_salvages}
use Rattle.rescue.specs.Parts as meant
use Rattle.state.specs.Bytes.{number_bytes, bytes_of, long_at}
use Rattle.state.specs.declared.State.{State}
use Rattle.state.proofs.Tidy.{fresh_for}
use Rattle.converter.proofs.Replies.{some_inj}
use Rattle.rescued.specs.Bytes.{passed_at, entry_width, salvage_in, tail_bytes, no_return, mode_bytes, salvage_bytes}
use Rattle.handing.specs.Fed.{SalvageCall, SalvageFeeds, at_once, closes, goes_on, BytesFeed, FreshStands, BytesSalvage}
use Rattle.handing.proofs.Canonical.{fresh_good}
use Rattle.handing.proofs.Again.{held_back, reads_back}
use Rattle.rescue.proofs.Waited.{run_waited}
use Rattle.handing.proofs.Waited.{area_long}

-- what a call is given, and its answer
record Given : Type 0 where
  sheet : Sheet
  tags : RecordTags
  more : Bool
  room : ℕ
  spare : ℕ
  state : List ℕ
  area : List ℕ
  answer : Rescued

abbrev Meant : List ℕ → Given → Type 0
Meant part g = RescueCalled g.sheet g.tags part g.more (length g.area) g.room g.spare (salvage_in g.state g.area) g.answer

module _ {s : List ℕ} {a : Sheet} {x : RecordTags} (i : IsSheet s a) (t : record_tags a ≡ some x) where
  record AsMeant (part : List ℕ) (more : Bool) (room spare : ℕ) (b m b' m' : List ℕ) (r : Rescued) : Type 0 where
    called : RescueCalled a x part more (length m) room spare (salvage_in b m) r
    held : salvage_in b' m' ≡ r.held
    long : length m' ≡ length m

  as_meant : {part : List ℕ} {more : Bool} {room spare : ℕ} {b m b' m' : List ℕ} {r : Rescued} → length m < 2 ^ 64 → SalvageCall s part more room spare b m b' m' r →
      AsMeant part more room spare b m b' m' r
  as_meant {part} {more} {room} {spare} {b} {m} {b'} {m'} {r} short c =
      let w = c.ran in
      let ea = one_sheet w.is_sheet i in
      let ex : w.tags ≡ x = some_inj (sym w.of_shape ∙ ap record_tags ea ∙ t) in
      let et = c.told in
      let eo = c.output in
      let ee = c.entries in
      let es = c.state in
      let em = c.area in
      let er = c.answer in
      let path : ◌≡◌ {A = Given}
      (record { sheet = w.sheet; tags = w.tags; more = not c.ended; room = length c.lent.output; spare = length c.lent.report / entry_width; state = c.lent.state; area = c.lent.area; answer = w.answer })
      (record { sheet = a; tags = x; more = more; room = room; spare = spare; state = b; area = m; answer = r }) =
      λ j. record { sheet = ea j; tags = ex j; more = et j; room = eo j; spare = ee j; state = es j; area = em j; answer = er j } in
      let near : length c.lent.area < 2 ^ 64 = subst (λ (l : List ℕ). length l < 2 ^ 64) (sym em) short in
      let d = subst (λ (o : Option ℕ). RescuedBy w.sheet w.tags part (not c.ended) (length c.lent.area) (length c.lent.output) (length c.lent.report / entry_width)
      (salvage_in c.lent.state c.lent.area) o w.answer) w.is_open w.called in
      let v = run_waited (setting w.sheet w.tags part (not c.ended) (long_at c.lent.state passed_at) (length c.lent.area)) d in
      let k = let p = w.waits_in in let q = w.waited in area_long c.lent.area w.answer.waited w.answer.held.mode v (omega (arith, p, q)) in
      record {
        called = subst (Meant part) path w.called;
        held = ap₂ salvage_in (sym c.state_left) (sym c.area_left) ∙ reads_back s part c.ended c.lent c.left c.counts w near ∙ ap (λ (y : Rescued). y.held) er;
        long = ap length (sym c.area_left ∙ w.area) ∙ k ∙ ap length em;
      }

  feeds : {more : Bool} {whole : List ℕ} {room spare : ℕ} {b m : List ℕ} {r : Rescued} → length m < 2 ^ 64 → SalvageFeeds s more whole room spare b m r →
      RescueFeeds a x more (length m) whole room spare (salvage_in b m) r
  feeds short (at_once b' m' c) = meant.at_once (as_meant short c).called
  feeds short (closes b' m' room extra spare entries part later more' r₁ n told c e) = meant.closes room extra spare entries part later more' r₁ n told (as_meant short c).called e
  feeds {more} {m = m} short (goes_on {r₂ = r₂} b' m' room extra spare entries part later more' r₁ told c e d) =
      let k = as_meant short c in
      let f = feeds (subst (λ (n : ℕ). n < 2 ^ 64) (sym k.long) short) d in
      meant.goes_on room extra spare entries part later more' r₁ told k.called e
      (subst (λ (h : HeldSalvage). RescueFeeds a x more (length m) (drop r₁.taken (part ++ later)) (room + extra - length r₁.output) (spare + entries - length r₁.report) h r₂) k.held
      (subst (λ (n : ℕ). RescueFeeds a x more n (drop r₁.taken (part ++ later)) (room + extra - length r₁.output) (spare + entries - length r₁.report) (salvage_in b' m') r₂) k.long f))

pub bytes_feed : BytesFeed
bytes_feed s a x i t more whole room spare b m r short d = feeds i t short d

-- a fresh state
pub fresh_stands : FreshStands
unfolding mode_bytes tail_bytes number_bytes
fresh_stands s a i m short =
    record {
      are = ap (λ (z : State). bytes_of z ++ tail_bytes 0 0 0 0 0 no_return) (sym fresh_for);
      stand = held_back i (record { root_tag = 0; record_tag = 0 }) [] false 0 m short 0 (between fresh_configuration) 0 none (fresh_good i) tt (omega arith);
    }

pub bytes_salvage : BytesSalvage
bytes_salvage s a x i t whole room spare m r short d l =
    fed_salvages a x (sheet_fits i).names_fit (length m) whole room spare r
    (subst (λ (h : HeldSalvage). RescueFeeds a x false (length m) whole room spare h r) (fresh_stands s a i m short).stand (bytes_feed s a x i t false whole room spare (salvage_bytes fresh_salvage) m r short d)) l
