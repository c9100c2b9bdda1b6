-- A printed sheet, read again, is the same by name, and is printed as the same text. Assumes nothing.
use mathlib.Core.Path.{◌≡◌, refl, sym, ◌∙◌, ap, subst}
use mathlib.Core.List.{List, ◌++◌}
use Prim.Native.Nat.{ℕ, ◌≤◌}
use native.Mathlib.Omega.{arith}
use lib.ListN.{length, take, drop}
use lib.Seq.{take-append_seam}
use Rattle.text.specs.Names.{All}
use Rattle.notation.specs.Rules.{Rules}
use Rattle.notation.specs.RuleText.{RuleText}
use Rattle.encoding.specs.Encoded.{Room, sheet_of}
use Rattle.packing.specs.Packed.{sheet_bytes}
use Rattle.packing.specs.Packs.{Packs}
use Rattle.packing.proofs.Packing.{packs_sheets}
use Rattle.telling.proofs.OneRules.{one_rules}
use Rattle.writing.specs.Written.{WrittenAs, written}
use Rattle.printed.specs.Text.{text_of}
use Rattle.printed.proofs.Text.{printed_is_text, every_text_is_printed}
use Rattle.naming.specs.Promises.{is_byte}
use Rattle.naming.proofs.Back.{sheet_is_its_rules}
use Rattle.naming.proofs.Typing.{sheets_are_typed, only_strings_grow}
use Rattle.printing.specs.Printed.{HasText, PrintedAs, no_sheet, printed}
use Rattle.printing.specs.Promises.{RoundTrip, RoundTrips, PrintsTheSame, WritesTheSame}
use Rattle.printing.proofs.OneAnswer.{one_text}

pub round_trips : RoundTrips
round_trips s r h bytes =
    let t = sheets_are_typed s h.its_sheet r bytes h.packed h.by_name in
    let text = printed_is_text r t.0 t.1 in
    let room = only_strings_grow s h.its_sheet r bytes h.packed h.by_name h.short in
    record {
      is_text = text;
      has_room = room;
      is_sheet = packs_sheets (text_of r) r text room;
      same = record { rules = r; first_is = h.by_name; second_is = sheet_is_its_rules r };
    }

-- the sheet of rules with room has their text
sheet_has_text : (text : List ℕ) (r : Rules) → RuleText text r → Room r → HasText (sheet_bytes r) r
sheet_has_text text r t room = record { its_sheet = sheet_of r; packed = packs_sheets text r t room; by_name = sheet_is_its_rules r; short = room.short_strings }

pub prints_the_same : PrintsTheSame
prints_the_same s area lent x y n k bytes (no_sheet d i l) w = absurd (omega arith)
prints_the_same s area lent x y n k bytes (printed r h t) w = on w
  where
    whole : take (length (text_of r)) (text_of r ++ drop (length (text_of r)) area) ≡ text_of r
    whole = take-append_seam (text_of r) (drop (length (text_of r)) area)

    again : (q : Rules) → RuleText (take (length (text_of r)) (text_of r ++ drop (length (text_of r)) area)) q → Room q → PrintedAs (sheet_bytes q) area 0 (length (text_of r)) (text_of r ++ drop (length (text_of r)) area)
    again q u room =
        let v = subst (λ z. RuleText z q) whole u in
        let same : q ≡ r = one_rules (text_of r) q r v (round_trips s r h bytes).is_text in
        subst (λ z. PrintedAs (sheet_bytes q) area 0 (length (text_of z)) (text_of z ++ drop (length (text_of z)) area)) same (printed q (sheet_has_text (text_of r) q v room) (subst (λ z. length (text_of z) ≤ length area) (sym same) t))

    on : {k : ℕ} {y : List ℕ} → WrittenAs (take (length (text_of r)) (text_of r ++ drop (length (text_of r)) area)) lent 0 k y → PrintedAs (take k y) area 0 (length (text_of r)) (text_of r ++ drop (length (text_of r)) area)
    on (written q u room f) = subst (λ z. PrintedAs z area 0 (length (text_of r)) (text_of r ++ drop (length (text_of r)) area)) (sym (take-append_seam (sheet_bytes q) (drop (length (sheet_bytes q)) lent))) (again q u room)

pub writes_the_same : WritesTheSame
writes_the_same text area lent x y n k (written r t room f) p =
    on (subst (λ z. PrintedAs z lent 0 n x) (take-append_seam (sheet_bytes r) (drop (length (sheet_bytes r)) area)) p)
  where
    again : (q : Rules) → HasText (sheet_bytes r) q → WrittenAs (text_of q) area 0 (length (sheet_bytes r)) (sheet_bytes r ++ drop (length (sheet_bytes r)) area)
    again q h =
        let same : r ≡ q = one_text (sheet_bytes r) r q (sheet_has_text text r t room) h in
        subst (λ z. WrittenAs (text_of z) area 0 (length (sheet_bytes r)) (sheet_bytes r ++ drop (length (sheet_bytes r)) area)) same (written r (every_text_is_printed text r t) room f)

    on : {n : ℕ} {x : List ℕ} → PrintedAs (sheet_bytes r) lent 0 n x → WrittenAs (take n x) area 0 (length (sheet_bytes r)) (sheet_bytes r ++ drop (length (sheet_bytes r)) area)
    on (no_sheet d i l) = absurd (omega arith)
    on (printed q h g) = subst (λ z. WrittenAs z area 0 (length (sheet_bytes r)) (sheet_bytes r ++ drop (length (sheet_bytes r)) area)) (sym (take-append_seam (text_of q) (drop (length (text_of q)) lent))) (again q h)
