-- The first act that rejects: there is one exactly where the acts come to nothing (`first_none`, `none_first`), and no other (`one_first`). Of acts behind others it is
-- found from what those came to (`first_past`), and output that stands before the acts changes nothing (`first_silent`).
-- Assumes nothing.
use mathlib.Core.Path.{◌≡◌, refl, sym, ap, ◌∙◌, subst}
use mathlib.Core.List.{List, [], ◌∷◌, ◌++◌}
use mathlib.Core.Option.{Option, none, some, none-ne-some as none_some}
use Rattle.output.specs.Escape.{Piece}
use Rattle.sheet.specs.Sheet.{Sheet}
use Rattle.runs.specs.Options.{bind}
use Rattle.runs.specs.Acts.{Act, Store, act, acts, store_behind}
use Rattle.runs.proofs.Frame.{acts_frame}
use Rattle.steps.proofs.Turns.{only_act}
use Rattle.rejecting.specs.First.{FirstRejects, here, later}

pub some_is : {X : Type 0} {o : Option X} {x y : X} → o ≡ some x → o ≡ some y → x ≡ y
some_is e k = cc

module _ (s : Sheet) where
  pub first_none : {bs : List Act} {m : Store} {a : Act} → FirstRejects s bs m a → acts s bs m ≡ none
  first_none (here {bs = bs} e) = ap (λ (o : Option Store). bind o (λ m'. acts s bs m')) e
  first_none (later {bs = bs} m' e F) = ap (λ (o : Option Store). bind o (λ m''. acts s bs m'')) e ∙ first_none F

  pub none_first : (bs : List Act) (m : Store) → acts s bs m ≡ none → (a : Act) × FirstRejects s bs m a
  none_first [] m e = absurd (none_some m (sym e))
  none_first (b ∷ bs) m e = by (λ m' k. none_first bs m' k) (act s b m) refl e
    where
      by : ((m' : Store) → acts s bs m' ≡ none → (a : Act) × FirstRejects s bs m' a) → (o : Option Store) → act s b m ≡ o → bind o (λ m'. acts s bs m') ≡ none →
          (a : Act) × FirstRejects s (b ∷ bs) m a
      by f none q k = (b, here q)
      by f (some m') q k = let r = f m' k in (r.0, later m' q r.1)

  pub one_first : {bs : List Act} {m : Store} {a b : Act} → FirstRejects s bs m a → FirstRejects s bs m b → a ≡ b
  one_first (here e) (here k) = refl
  one_first (here e) (later m' k G) = absurd (none_some m' (sym e ∙ k))
  one_first (later m' e F) (here k) = absurd (none_some m' (sym k ∙ e))
  one_first {b = b} (later {bs = bs} m' e F) (later m'' k G) = one_first F (subst (λ (m : Store). FirstRejects s bs m b) (some_is k e) G)

  -- in front of others, and behind some that come to m'
  pub first_in_front : {bs : List Act} {m : Store} {a : Act} (cs : List Act) → FirstRejects s bs m a → FirstRejects s (bs ++ cs) m a
  first_in_front cs (here e) = here e
  first_in_front cs (later m' e F) = later m' e (first_in_front cs F)

  pub first_past : (bs : List Act) {cs : List Act} {m m' : Store} {a : Act} → acts s bs m ≡ some m' → FirstRejects s (bs ++ cs) m a → FirstRejects s cs m' a
  first_past [] {cs} {a = a} e F = subst (λ (n : Store). FirstRejects s cs n a) (some_is refl e) F
  first_past (b ∷ bs) {m' = m'} e (here k) = absurd (none_some m' (sym (ap (λ (o : Option Store). bind o (λ n. acts s bs n)) k) ∙ e))
  first_past (b ∷ bs) e (later n k F) = first_past bs (sym (ap (λ (o : Option Store). bind o (λ n. acts s bs n)) k) ∙ e) F

  -- one act alone
  pub only_first : {b : Act} {m : Store} {a : Act} → FirstRejects s (b ∷ []) m a → a ≡ b
  only_first (here e) = refl
  only_first (later m' e F) = absurd (none_some m' (sym (first_none F)))

  one_frame : (o : List Piece) (b : Act) (m : Store) → act s b (store_behind o m) ≡ bind (act s b m) (λ m'. some (store_behind o m'))
  one_frame o b m =
      sym (only_act s b (store_behind o m)) ∙ acts_frame s o (b ∷ []) m ∙ ap (λ (x : Option Store). bind x (λ m'. some (store_behind o m'))) (only_act s b m)

  pub first_silent : (o : List Piece) (m n : Store) {bs : List Act} {a : Act} → n ≡ store_behind o m → FirstRejects s bs n a → FirstRejects s bs m a
  first_silent o m n {a = a} q (here {bs = bs} e) = by (act s a m) refl (sym (one_frame o a m) ∙ ap (act s a) (sym q) ∙ e)
    where
      by : (x : Option Store) → act s a m ≡ x → bind x (λ m'. some (store_behind o m')) ≡ none → FirstRejects s (a ∷ bs) m a
      by none k w = here k
      by (some m') k w = absurd (none_some (store_behind o m') (sym w))
  first_silent o m n {a = a} q (later {b = b} {bs = bs} n' e F) = by (λ m' k. first_silent o m' n' k F) (act s b m) refl (sym (one_frame o b m) ∙ ap (act s b) (sym q) ∙ e)
    where
      by : ((m' : Store) → n' ≡ store_behind o m' → FirstRejects s bs m' a) → (x : Option Store) → act s b m ≡ x → bind x (λ m'. some (store_behind o m')) ≡ some n' → FirstRejects s (b ∷ bs) m a
      by f none k w = absurd (none_some n' w)
      by f (some m') k w = later m' k (f m' (some_is w refl))
