-- A name that ends is filed. Assumes nothing.
use Rattle.std.specs.Prelude.{◌≡◌, ◌⊎◌, ℕ, ◌≤◌, length, take}
use Rattle.std.proofs.Math.Option.{some}
use mathlib.Core.List.{List, [], ◌∷◌, ◌++◌, Memᴰ}
use Rattle.encoding.specs.Distinct.{place_of}
use Rattle.models.specs.Reader.{Phase}
use Rattle.stages.specs.declared.NameEnd.{NameEnd}
use Rattle.models.specs.Names.{own_name, inner_name}
use Rattle.stages.specs.Steps.{EndedNameIs, NameEndIs}
use Rattle.rosters.specs.Names.{names_ended, ending_at}
use Rattle.rosters.specs.Promises.{NameLast}
use Rattle.rosters.specs.Rosters.{RosterRoom, Enrolling}
use Rattle.dockets.specs.declared.Docket.{Docket}
use Rattle.dockets.specs.Kept.{NamesHeld, ElementIs, DocketSmall}

abbrev pub end_long : NameEnd → ℕ
end_long NameEnd.Nothing = 0
end_long (NameEnd.Own k) = k
end_long (NameEnd.Inner k) = k

pub record Noting (text : List ℕ) (at : ℕ) (end : NameEnd) (k : Docket) (name_bytes name_ends tag_bytes' tag_ends : List ℕ) : Type 0 where
  pub low : end_long end ≤ at
  pub high : at ≤ length text
  pub names_enrol : Enrolling name_bytes name_ends k.names
  pub tags_enrol : Enrolling tag_bytes' tag_ends k.tags
  pub small : DocketSmall k

-- the names that are being read are the last bytes in front of a byte
abbrev pub NamesLast : Phase → List ℕ → Type 0
NamesLast q row = (n : List ℕ) → (own_name q ≡ some n) ⊎ (inner_name q ≡ some n) → NameLast n row

-- all names keep their numbers, and the one that ended has its own
pub record NotedAs (mentions tags rows tag_rows : List (List ℕ)) (q : Phase) (b : ℕ) (k r : Docket) (name_bytes name_ends tag_bytes' tag_ends : List ℕ) : Type 0 where
  pub rows_now : List (List ℕ)
  pub tag_rows_now : List (List ℕ)
  pub held : NamesHeld (mentions ++ ending_at q b) (tags ++ names_ended (own_name q) b) r name_bytes name_ends tag_bytes' tag_ends rows_now tag_rows_now
  pub stay : (y : List ℕ) → Memᴰ y mentions → place_of rows_now y ≡ place_of rows y
  pub inner_is : EndedNameIs (place_of rows_now) q b r.names.number
  pub element_is : (own : List (List ℕ)) → ElementIs k rows tag_rows own → ((n : List ℕ) → own ≡ n ∷ [] → Memᴰ n mentions) → ElementIs r rows_now tag_rows_now (own ++ names_ended (own_name q) b)

pub record NotedIs (text : List ℕ) (at : ℕ) (end : NameEnd) (k : Docket) (name_bytes name_ends tag_bytes' tag_ends names_after name_ends_after tags_after tag_ends_after : List ℕ) (r : Docket) : Type 0 where
  pub name_room : RosterRoom names_after name_ends_after
  pub tag_room : RosterRoom tags_after tag_ends_after
  pub small : DocketSmall r
  pub tally_same : r.tally ≡ k.tally
  pub passed_same : r.passed ≡ k.passed
  pub is : (mentions tags rows tag_rows : List (List ℕ)) (q : Phase) (b : ℕ) → NamesHeld mentions tags k name_bytes name_ends tag_bytes' tag_ends rows tag_rows → NameEndIs q b end → NamesLast q (take at text)
      → NotedAs mentions tags rows tag_rows q b k r names_after name_ends_after tags_after tag_ends_after
