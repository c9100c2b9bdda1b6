-- A character changes nothing around the innermost element: neither the elements, nor what is kept of them.
-- Assumes nothing.
use mathlib.Core.Path.{◌≡◌, refl, sym, ap, ◌∙◌, subst}
use mathlib.Core.List.{List, [], ◌∷◌, ◌++◌}
use mathlib.Core.Option.{Option, none, some}
use Prim.Native.Nat.{ℕ}
use native.Mathlib.Omega.{arith}
use Rattle.expressions.specs.Words.{Bracket, opening, closing}
use Rattle.expressions.specs.Grammar.{content_of, tags_of, character as any_character}
use Rattle.sheet.specs.Sheet.{Sheet}
use Rattle.runs.specs.Options.{bind}
use Rattle.runs.specs.Visits.{grammar, Env, Saved, saved, opens, closes}
use Rattle.runs.specs.Events.{letter}
use Rattle.runs.specs.Acts.{bracket_act, bracket_acts, Store, with_node, act, acts, innermost, without_node}
use Rattle.runs.specs.Way.{Way, atom_way}
use Rattle.runs.specs.Machine.{Open, Control, inside, at_place_lem, Configuration, Answer, took, acted, turned, char_by, step}
use Rattle.steady.proofs.Steadies.{reading, then_reads}

abbrev Keeps : List (List Saved) → Store → Type 0
Keeps kss m = (ks : List Saved) × (m.kept ≡ ks ∷ kss)

module _ (a : Sheet) (q : ℕ) (kss : List (List Saved)) where
  bracket_keeps : (b : Bracket) (m x : Store) → Keeps kss m → act a (bracket_act q b) m ≡ some x → Keeps kss x
  bracket_keeps (opening i) m x (ks, e) f = by (opens a q i m.env) f
    where
      by : (w : Option Env) → bind w (λ v. some (record { kept = with_node (saved m.env v) m.kept; env = v })) ≡ some x → Keeps kss x
      by none g = absurd (let z : ◌≡◌ {A = ℕ} 0 1 = cc in omega arith)
      by (some v) g = (saved m.env v ∷ ks, ap (λ (z : Store). z.kept) (sym (same_store g)) ∙ ap (with_node (saved m.env v)) e)
        where
          same_store : {y : Store} → some y ≡ some x → y ≡ x
          same_store h = cc
  bracket_keeps (closing i) m x (ks, e) f = by (closes a q i (innermost m.kept) m.env) f
    where
      off : (ls : List Saved) → Keeps kss (record { kept = without_node (ls ∷ kss); env = m.env })
      off [] = ([], refl)
      off (k ∷ ls) = (ls, refl)

      by : (w : Option Env) → bind w (λ v. some (record { kept = without_node m.kept; env = v })) ≡ some x → Keeps kss x
      by none g = absurd (let z : ◌≡◌ {A = ℕ} 0 1 = cc in omega arith)
      by (some v) g = ((off ks).0, ap (λ (z : Store). z.kept) (sym (same_store g)) ∙ ap without_node e ∙ (off ks).1)
        where
          same_store : {y : Store} → some y ≡ some x → y ≡ x
          same_store h = cc

  brackets_keep : (α : List Bracket) (m x : Store) → Keeps kss m → acts a (bracket_acts q α) m ≡ some x → Keeps kss x
  brackets_keep [] m x k f = (k.0, ap (λ (z : Store). z.kept) (sym (same_store f)) ∙ k.1)
    where
      same_store : {y : Store} → some y ≡ some x → y ≡ x
      same_store h = cc
  brackets_keep (b ∷ α) m x k f = by (λ v j h. brackets_keep α v x j h) (act a (bracket_act q b) m) refl f
    where
      by : ((v : Store) → Keeps kss v → acts a (bracket_acts q α) v ≡ some x → Keeps kss x) → (w : Option Store) → act a (bracket_act q b) m ≡ w → bind w (λ v. acts a (bracket_acts q α) v) ≡ some x → Keeps kss x
      by on none g h = absurd (let z : ◌≡◌ {A = ℕ} 0 1 = cc in omega arith)
      by on (some v) g h = on v (bracket_keeps b m v k g) h

-- what stands around the innermost element stays
pub record AroundStays (os : List Open) (kss : List (List Saved)) (y : Configuration) : Type 0 where
  pub innermost_then : Open
  pub kept_then : List Saved
  pub control : y.control ≡ inside innermost_then os
  pub kept : y.store.kept ≡ kept_then ∷ kss

module _ (a : Sheet) (c : ℕ) (o : Open) (os : List Open) (ks : List Saved) (kss : List (List Saved)) where
  pub around_stays : (m y : Configuration) → m.control ≡ inside o os → m.store.kept ≡ ks ∷ kss → step a m (letter c) ≡ took y → AroundStays os kss y
  around_stays m y e k f =
      by (atom_way (tags_of (grammar a)) (content_of (grammar a) o.production) o.place any_character)
      (sym (ap (λ (z : Control). step a (record { control = z; store = m.store }) (letter c)) e) ∙ f)
    where
      after_brackets : (w : Way) (x : Option Store) → acts a (bracket_acts o.production w.string) m.store ≡ x →
          acted (inside (at_place_lem o w.place) os) (bind x (λ m'. some (reading c m'))) ≡ took y → AroundStays os kss y
      after_brackets w none g h = absurd (let z : ◌≡◌ {A = ℕ} 0 1 = cc in omega arith)
      after_brackets w (some x) g h =
          let q : record { control = inside (at_place_lem o w.place) os; store = reading c x } ≡ y = cc in
          let l = brackets_keep a o.production kss w.string m.store x (ks, k) g in
          record {
            innermost_then = at_place_lem o w.place;
            kept_then = l.0;
            control = ap (λ (z : Configuration). z.control) (sym q);
            kept = ap (λ (z : Configuration). z.store.kept) (sym q) ∙ l.1;
          }

      by : (w : Option Way) → turned a m.store (char_by o os c w) ≡ took y → AroundStays os kss y
      by none h = absurd (let z : ◌≡◌ {A = ℕ} 0 1 = cc in omega arith)
      by (some w) h =
          after_brackets w (acts a (bracket_acts o.production w.string) m.store) refl
          (ap (acted (inside (at_place_lem o w.place) os)) (sym (then_reads a (bracket_acts o.production w.string) c m.store)) ∙ h)
