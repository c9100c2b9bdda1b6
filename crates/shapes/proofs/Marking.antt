-- A tag of the sheet as its record spells it, put at the start of lent memory that has room for it.
-- Assumes nothing.
use mathlib.Core.Path.{◌≡◌, refl, ap, ◌∙◌}
use mathlib.Core.Bool.{Bool, true, false}
use mathlib.Core.List.{List, [], ◌∷◌, ◌++◌}
use Prim.Native.Nat.{ℕ, ◌+◌, ◌≤◌, ◌<◌}
use native.Mathlib.Omega.{arith}
use lib.Dec.{eqb}
use lib.ListN.{length, take, drop, length-append, length-drop}
use lib.Seq.{take_at}
use Rattle.lent.specs.Put.{PutAs}
use Rattle.lent.proofs.Laws.{put_all}
use Rattle.expressions.specs.Grammar.{Production, only_if, tags_of, Numbered}
use Rattle.layout.specs.Layout.{tag_count}
use Rattle.layout.specs.LaidOut.{LaidOut}
use Rattle.layout.specs.declared.Layout.{Layout}
use Rattle.sheet.specs.Tags.{TagAt}
use Rattle.sheet.specs.Sheet.{Sheet, IsSheet}
use Rattle.sheet.proofs.SheetLaws.{from_counted, sheet_grammar, numbered_productions, one_sheet}
use Rattle.runs.specs.Execute.{name_of}
use Rattle.runs.specs.Visits.{grammar}
use Rattle.visits.specs.Written.{Written, tag_text, TagNameAt, TagOf}
use Rattle.visits.specs.Ran.{most_printed}
use Rattle.visits.proofs.Performing.{sources}
use Rattle.salvage.proofs.Shaped.{shape_decided}
use Rattle.shapes.specs.Marks.{most_mark, TagThere, MarkPut, TagsThere}

tag_short : (ending : Bool) (n : List ℕ) → length n ≤ 15 → length (tag_text ending n) ≤ most_mark
tag_short false n h = omega (arith, length-append n (62 ∷ []))
tag_short true n h = omega (arith, length-append n (62 ∷ []))

module _ (s : List ℕ) (l : Layout) (L : LaidOut s l) (t : ℕ) (T : TagThere s t) (ending : Bool) (m : List ℕ) (wide : length m ≡ most_mark) where
  pub mark_put : (r : ℕ) (d : List ℕ) → Written most_printed (TagOf s t ending) (record { write = true; lent = m; at = 0 }) r d → MarkPut s t ending d r
  mark_put r d W = record { wide = long; short = omega (arith, P.next, short); is = goes }
    where
      name : List ℕ
      name = name_of T.sheet.names t

      there : TagNameAt s t name
      there = (sources s l L T.sheet T.is_sheet).names_are t T.named

      short : length (tag_text ending name) ≤ most_mark
      short = tag_short ending name there.short

      P : PutAs true m 0 (tag_text ending name) d r
      P = W.right (tag_text ending name) (name, there, refl)

      put_is : d ≡ tag_text ending name ++ drop (0 + length (tag_text ending name)) m
      put_is = P.left ∙ put_all m 0 (tag_text ending name) (omega (arith, short))

      long : length d ≡ most_mark
      long =
          omega (arith, ap length put_is, length-append (tag_text ending name) (drop (0 + length (tag_text ending name)) m), length-drop (0 + length (tag_text ending name)) m, short)

      begins : take r d ≡ tag_text ending name
      begins =
          ap (take r) put_is
          ∙ take_at (tag_text ending name) (drop (0 + length (tag_text ending name)) m) r (omega (arith, P.next))

      goes : (a : Sheet) → IsSheet s a → take r d ≡ tag_text ending (name_of a.names t)
      goes a h = begins ∙ ap (λ (b : Sheet). tag_text ending (name_of b.names t)) (one_sheet T.is_sheet h)

-- ---- the tags of the shape are tags of the sheet
numbered_tag : (k : ℕ) (g : List Production) → Numbered k g → (n t : ℕ) (ts : List ℕ) → tags_of g n ≡ t ∷ ts → t < k
numbered_tag k [] h n t ts e = absurd (let x : ◌≡◌ {A = ℕ} 0 1 = cc in omega arith)
numbered_tag k (d ∷ g) h n t ts e = by (numbered_tag k g h.2 n t ts) (eqb n d.nonterm) e
  where
    by : (tags_of g n ≡ t ∷ ts → t < k) → (b : Bool) → only_if b d.tagno ++ tags_of g n ≡ t ∷ ts → t < k
    by f true z = let x : d.tagno ≡ t = cc in omega (arith, h.1)
    by f false z = f z

tag_there : {s : List ℕ} {a : Sheet} → IsSheet s a → (n t : ℕ) → tags_of (grammar a) n ≡ t ∷ [] → TagThere s t
tag_there {s} {a} h n t e =
    let N = numbered_productions h.well_formed_lem (grammar a) (sheet_grammar h) in
    let b : t < tag_count s = numbered_tag (tag_count s) (grammar a) N.numbered n t [] e in
    let c = from_counted (TagAt s) 0 (tag_count s) a.names h.names_are in
    record { few = omega (arith, N.few_tags); sheet = a; is_sheet = h; named = omega arith }

pub tags_there : TagsThere
tags_there s a h x e =
    let S = (shape_decided a).gives x e in
    record { root_there = tag_there h a.start_nonterminal x.root_tag S.1.one_root; record_there = tag_there h S.0 x.record_tag S.1.one_record; record_start_lem = refl; root_end_lem = refl }
