-- The open elements' tags are those that the events so far leave open: each move changes both alike.
-- Assumes nothing.
use mathlib.Core.Path.{◌≡◌, refl, sym, ◌∙◌, ap}
use mathlib.Core.List.{List, [], ◌∷◌}
use mathlib.Core.Option.{Option, none, some}
use Prim.Native.Nat.{ℕ}
use Rattle.expressions.specs.Grammar.{Production}
use Rattle.runs.specs.Lookup.{tag_of, find}
use Rattle.runs.specs.Events.{Event, starts, ends, letter, OpenTags, open_after}
use Rattle.runs.specs.Acts.{Act}
use Rattle.runs.specs.Machine.{Open, Control, before, inside, after, go, outer, root_by, move}
use Rattle.runs.proofs.Find.{find_sound}
use Rattle.runs.proofs.Moves.{Moves, stay, then, refuse_go, go_inj}
use Rattle.runs.proofs.Sound.{started, was_read, ended}

abbrev tags_of : List Production → List Open → OpenTags
tags_of g [] = []
tags_of g (o ∷ os) = some (tag_of g o.production) ∷ tags_of g os

abbrev pub tags_at_lem : List Production → Control → OpenTags
tags_at_lem g before = []
tags_at_lem g (inside o os) = tags_of g (o ∷ os)
tags_at_lem g after = []

outer_tags : (g : List Production) (os : List Open) → tags_of g os ≡ tags_at_lem g (outer os)
outer_tags g [] = refl
outer_tags g (o ∷ os) = refl

module _ (g : List Production) (n lim : ℕ) where
  move_tags : (c : Control) (x : Event) (bs : List Act) (c' : Control) → move g n lim c x ≡ go bs c' → open_after (tags_at_lem g c) (x ∷ []) ≡ tags_at_lem g c'
  move_tags before (starts none) bs c' e = refuse_go bs c' e
  move_tags before (starts (some t)) bs c' e = by (find g n t) refl e
    where
      by : (f : Option ℕ) → find g n t ≡ f → root_by f ≡ go bs c' → some t ∷ [] ≡ tags_at_lem g c'
      by none i e = refuse_go bs c' e
      by (some q) i e = ap (λ (u : ℕ). some u ∷ []) (sym (find_sound g n t q i).1) ∙ ap (tags_at_lem g) (go_inj _ bs _ c' e).1
  move_tags before (ends t) bs c' e = refuse_go bs c' e
  move_tags before (letter x) bs c' e = refuse_go bs c' e
  move_tags (inside o os) (starts none) bs c' e = refuse_go bs c' e
  move_tags (inside o os) (starts (some t)) bs c' e =
      let d = started g lim o os n t bs c' e in
      ap (λ (u : ℕ). some u ∷ tags_of g (o ∷ os)) (sym (find_sound g d.nonterm t d.production d.is_found).1) ∙ ap (tags_at_lem g) (sym d.is_control)
  move_tags (inside o os) (ends t) bs c' e = let d = ended g lim o os n t bs c' e in outer_tags g os ∙ ap (tags_at_lem g) (sym d.is_control)
  move_tags (inside o os) (letter x) bs c' e = let d = was_read g lim o os n x bs c' e in ap (tags_at_lem g) (sym d.is_control)
  move_tags after x bs c' e = refuse_go bs c' e

  one_on : (ts : OpenTags) (x : Event) (xs : List Event) → open_after ts (x ∷ xs) ≡ open_after (open_after ts (x ∷ [])) xs
  one_on ts (starts t) xs = refl
  one_on ts (ends t) xs = refl
  one_on ts (letter c) xs = refl

  pub moves_tags : {c c' : Control} {xs : List Event} {bs : List Act} → Moves g n lim c xs bs c' → open_after (tags_at_lem g c) xs ≡ tags_at_lem g c'
  moves_tags stay = refl
  moves_tags {c} (then {c' = c'} {xs = xs} x bs e r) =
      one_on (tags_at_lem g c) x xs ∙ ap (λ (ts : OpenTags). open_after ts xs) (move_tags c x bs c' e) ∙ moves_tags r
