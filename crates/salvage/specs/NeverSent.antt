-- A damaged record, as if it had never been sent.
-- Assumes nothing.
use Rattle.std.specs.Prelude.{◌≡◌, true, false, List, [], ◌∷◌, ◌++◌, ℕ, suc, ◌+◌, ◌≤◌, ◌<◌, length}
use Rattle.sheet.specs.Sheet.{Sheet}
use Rattle.runs.specs.Fits.{NamesFit}
use Rattle.tokens.specs.declared.Event.{Event}
use Rattle.tokens.specs.declared.Answer.TheVariants.{Token as Read}
use Rattle.tokens.specs.Stream.{ReadAs}
use Rattle.runs.specs.Machine.{Configuration, fresh_configuration}
use Rattle.calls.specs.Names.{token_of}
use Rattle.calls.specs.Limits.{taken, one_token}
use Rattle.calls.specs.Call.{room_left}
use Rattle.salvage.specs.Shape.{RecordTags, OfShape}
use Rattle.salvage.specs.Resumption.{MayResume, ResumesAt}
use Rattle.salvage.specs.Salvage.{begins_record, RecordAt, whole, broken, InRecord, LostStretch, lost, Salvage, damaged, Salvaged}

-- the same, n bytes later in the stream
abbrev pub later_stretch : ℕ → LostStretch → LostStretch
later_stretch n l = lost (n + l.first) (n + l.last) l.number

abbrev pub later_stretches : ℕ → List LostStretch → List LostStretch
later_stretches n [] = []
later_stretches n (l ∷ ls) = later_stretch n l ∷ later_stretches n ls

-- behind p, where the run stands between records in z, the bytes d are a damaged record: it is refused with n, one of 20 to 25, before its end tag is taken; past its own start it
-- holds neither of the two byte strings; and q, which follows, is the next record or the root's end and begins in just those bytes
pub record DamagedRecord (a : Sheet) (x : RecordTags) (area : ℕ) (p d q : List ℕ) (z : Configuration) (n : ℕ) : Type 0 where
  pub has_bytes : 0 < length d
  pub is_record : RecordAt a x (p ++ (d ++ q)) (length p) z
  pub refused_at : ℕ
  pub refused_in : Configuration
  pub is_refused : InRecord a (p ++ (d ++ q)) area (length p) z [] (broken n refused_at refused_in)
  pub with_damage : damaged n ≡ true
  pub before_its_end : refused_at ≤ length p + length d
  pub holds_neither : (i : ℕ) → 0 < i → MayResume a x d i → ⊥
  pub followed : MayResume a x q 0

-- the run comes from one place between records to another, `stop`: w is written on the way and ds are dropped
pub data ComesTo (a : Sheet) (x : RecordTags) (s : List ℕ) (area stop : ℕ) : ℕ → ℕ → Configuration → List ℕ → List LostStretch → ℕ → Configuration → Type 0 where
  there : {room : ℕ} {z : Configuration} → ComesTo a x s area stop stop room z [] [] room z
  passes_on : {at room room' : ℕ} {z z' : Configuration} {w : List ℕ} {ds : List LostStretch} (e : Event) (next : ℕ) (y : Configuration) (u : List ℕ) →
      ReadAs false s at (Read e (record { at = next })) → begins_record x z.control (token_of a s e) ≡ false → one_token a z room (token_of a s e) ≡ taken y u →
      ComesTo a x s area stop next (room_left room u) y w ds room' z' → ComesTo a x s area stop at room z (u ++ w) ds room' z'
  keeps_on : {at room room' : ℕ} {z z' : Configuration} {w : List ℕ} {ds : List LostStretch} (to next : ℕ) (y₁ y : Configuration) (u : List ℕ) → RecordAt a x s at z →
      InRecord a s area at z [] (whole to y₁ next y u) → length u ≤ room → ComesTo a x s area stop next (room_left room u) y w ds room' z' →
      ComesTo a x s area stop at room z (u ++ w) ds room' z'
  drops_on : {at room room' : ℕ} {z z' : Configuration} {w : List ℕ} {ds : List LostStretch} (n to last : ℕ) (y : Configuration) → RecordAt a x s at z →
      InRecord a s area at z [] (broken n to y) → damaged n ≡ true → ResumesAt a x s at to (suc last) →
      ComesTo a x s area stop (suc last) room z w ds room' z' → ComesTo a x s area stop at room z w (lost at last n ∷ ds) room' z'

-- the same stretches; but the number of one that ends just before `stop` may be 23 here and 22 there
pub data SameStretches (stop : ℕ) : List LostStretch → List LostStretch → Type 0 where
  no_more : SameStretches stop [] []
  also : {ds ds' : List LostStretch} (d : LostStretch) → SameStretches stop ds ds' → SameStretches stop (d ∷ ds) (d ∷ ds')
  just_before : (first last : ℕ) → suc last ≡ stop → SameStretches stop (lost first last 23 ∷ []) (lost first last 22 ∷ [])

-- the answer, output, visits and state of the two runs are the same, and so are the stretches before d; those behind it lie later by its length
pub record SameButIt (a : Sheet) (x : RecordTags) (area room : ℕ) (p d q : List ℕ) (n : ℕ) (ds : List LostStretch) (r : Salvage) : Type 0 where
  pub without : Salvage
  pub salvaged : Salvaged a x (p ++ q) area room without
  pub number : r.answer.number ≡ without.answer.number
  pub taken : r.answer.taken ≡ length d + without.answer.taken
  pub output : r.answer.output ≡ without.answer.output
  pub held : r.answer.held ≡ without.answer.held
  pub last : ℕ
  pub is_last : suc last ≡ length p + length d
  pub earlier : List LostStretch
  pub same_earlier : SameStretches (length p) ds earlier
  pub behind : List LostStretch
  pub report : r.report ≡ ds ++ lost (length p) last n ∷ later_stretches (length d) behind
  pub report_without : without.report ≡ earlier ++ behind

-- all of it comes out as if the record had never been sent
abbrev pub AsIfNeverSent : Sheet → RecordTags → Type 0
AsIfNeverSent a x =
    NamesFit a.names → (records : ℕ) → OfShape a records x → (area room : ℕ) (p d q : List ℕ) (w : List ℕ) (ds : List LostStretch) (room' : ℕ) (z : Configuration) (n : ℕ) →
    ComesTo a x (p ++ (d ++ q)) area (length p) 0 room fresh_configuration w ds room' z → DamagedRecord a x area p d q z n →
    (r : Salvage) → Salvaged a x (p ++ (d ++ q)) area room r → SameButIt a x area room p d q n ds r
