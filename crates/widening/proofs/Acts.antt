-- The acts of a run do the same to stores that are alike.
-- Assumes nothing.
use mathlib.Core.Path.{◌≡◌, refl, ap, ap₂, subst}
use mathlib.Core.Bool.{Bool}
use mathlib.Core.List.{List, [], ◌∷◌, ◌++◌}
use mathlib.Core.Option.{Option, none, some}
use Prim.Native.Nat.{ℕ, suc}
use lib.ListN.{length}
use Rattle.programs.specs.Program.{Program}
use Rattle.programs.specs.Bounds.{Bounds}
use Rattle.programs.specs.Limits.{Visit, first, second}
use Rattle.sheet.specs.Sheet.{Sheet}
use Rattle.output.specs.Escape.{Piece, start, end, character}
use Rattle.runs.specs.Visits.{Env, Saved, saved, programs_of, tag_name, performed, visit, while_on, echoed, returned, opens, revisits, closes, enters, leaves}
use Rattle.runs.specs.Acts.{Act, node_first, node_second, start_tag, end_tag, letter_read, Store, with_node, innermost, without_node, without_element, act, acts}
use Rattle.runs.specs.Fits.{ProgramFitsIn}
use Rattle.widening.proofs.Alike.{Same, Values, Both, neither, each, both_bind, Rows, no_row, row}
use Rattle.widening.proofs.Programs.{Effects, all_alike}

pub record Envs (top : ℕ) (v w : Env) : Type 0 where
  pub values : Values top v.values w.values
  pub echo : v.echo ≡ w.echo
  pub out : v.out ≡ w.out
  pub count : v.count ≡ w.count

pub record Saveds (k k' : Saved) : Type 0 where
  pub values : Same k.values k'.values
  pub echo : k.echo ≡ k'.echo

abbrev pub Kept : List (List Saved) → List (List Saved) → Type 0
Kept = Rows (Rows Saveds)

pub record Stores (top : ℕ) (m m' : Store) : Type 0 where
  pub kept : Kept m.kept m'.kept
  pub env : Envs top m.env m'.env

-- the programs of a sheet keep the bounds
abbrev pub AllFitIn : Bounds → Sheet → Type 0
AllFitIn b a =
    (q i : ℕ) → ProgramFitsIn b a first (programs_of a.rules q i).first_visit × ProgramFitsIn b a second (programs_of a.rules q i).second_visit

echoed_alike : {top : ℕ} (p : Piece) (v w : Env) → Envs top v w → Envs top (echoed p v) (echoed p w)
echoed_alike p v w h = record {
  values = h.values;
  echo = h.echo;
  out = ap₂ (λ (o : List Piece) (e : Bool). o ++ while_on e p) h.out h.echo;
  count = h.count;
}

returned_alike : {top : ℕ} (e e' : Bool) → e ≡ e' → (v w : Env) → Envs top v w → Envs top (returned e v) (returned e' w)
returned_alike e e' q v w h = record { values = h.values; echo = q; out = h.out; count = h.count }

pushed_alike : (k k' : Saved) → Saveds k k' → {l l' : List (List Saved)} → Kept l l' → Kept (with_node k l) (with_node k' l')
pushed_alike k k' h no_row = no_row
pushed_alike k k' h (row r rs) = row (row h r) rs

innermost_alike : {l l' : List (List Saved)} → Kept l l' → Saveds (innermost l) (innermost l')
innermost_alike no_row = record { values = λ x. refl; echo = refl }
innermost_alike (row no_row rs) = record { values = λ x. refl; echo = refl }
innermost_alike (row (row r q) rs) = r

node_alike : {l l' : List (List Saved)} → Kept l l' → Kept (without_node l) (without_node l')
node_alike no_row = no_row
node_alike (row no_row rs) = row no_row rs
node_alike (row (row r q) rs) = row q rs

element_alike : {l l' : List (List Saved)} → Kept l l' → Kept (without_element l) (without_element l')
element_alike no_row = no_row
element_alike (row r rs) = rs

module _ (a : Sheet) (b : Bounds) (keeps : AllFitIn b a) where
  abbrev top : ℕ
  top = b.highest_attribute

  performed_alike : (u : Visit) (k k' : List ℕ) → Same k k' → (p : Option Program) → ProgramFitsIn b a u p → (vs ws : List ℕ) (on : Bool) → Values top vs ws →
      Both (Effects top) (performed a k p vs on) (performed a k' p ws on)
  performed_alike u k k' K none f vs ws on h = each (record { values = h; echo = refl; printed = refl })
  performed_alike u k k' K (some p) f vs ws on h = all_alike a b (length a.names) a.strings k k' K p f.0.fits vs ws on h

  visit_alike : (u : Visit) (k k' : List ℕ) → Same k k' → (p : Option Program) → ProgramFitsIn b a u p → (v w : Env) → Envs top v w →
      Both (Envs top) (visit a k p v) (visit a k' p w)
  visit_alike u k k' K p f v w h =
      both_bind _ _
      (subst (λ (e : Bool). Both (Effects top) (performed a k p v.values v.echo) (performed a k' p w.values e)) h.echo
      (performed_alike u k k' K p f v.values w.values v.echo h.values))
      (λ x y r. each (record {
        values = r.values;
        echo = r.echo;
        out = ap₂ (λ (o o' : List Piece). o ++ o') h.out r.printed;
        count = ap suc h.count;
      }))

  opens_alike : (q i : ℕ) (v w : Env) → Envs top v w → Both (Envs top) (opens a q i v) (opens a q i w)
  opens_alike q i v w h = visit_alike first [] [] (λ x. refl) (programs_of a.rules q i).first_visit (keeps q i).0 v w h

  revisits_alike : (q i : ℕ) (k k' : Saved) → Saveds k k' → (v w : Env) → Envs top v w → Both (Envs top) (revisits a q i k v) (revisits a q i k' w)
  revisits_alike q i k k' K v w h =
      visit_alike second k.values k'.values K.values (programs_of a.rules q i).second_visit (keeps q i).1 v w h

  closes_alike : (q i : ℕ) (k k' : Saved) → Saveds k k' → (v w : Env) → Envs top v w → Both (Envs top) (closes a q i k v) (closes a q i k' w)
  closes_alike q i k k' K v w h =
      both_bind _ _ (revisits_alike q i k k' K v w h) (λ x y r. each (returned_alike k.echo k'.echo K.echo x y r))

  enters_alike : (q : ℕ) (v w : Env) → Envs top v w → Both (Envs top) (enters a q v) (enters a q w)
  enters_alike q v w h = both_bind _ _ (opens_alike q 0 v w h) (λ x y r. each (echoed_alike (start (tag_name a q)) x y r))

  leaves_alike : (q : ℕ) (k k' : Saved) → Saveds k k' → (v w : Env) → Envs top v w → Both (Envs top) (leaves a q k v) (leaves a q k' w)
  leaves_alike q k k' K v w h =
      both_bind _ _ (revisits_alike q 0 k k' K v w h)
      (λ x y r. each (returned_alike k.echo k'.echo K.echo _ _ (echoed_alike (end (tag_name a q)) x y r)))

  saved_alike : (v w x y : Env) → Envs top v w → Envs top x y → Saveds (saved v x) (saved w y)
  saved_alike v w x y h r = record { values = r.values.same; echo = h.echo }

  act_alike : (c : Act) (m m' : Store) → Stores top m m' → Both (Stores top) (act a c m) (act a c m')
  act_alike (node_first q i) m m' h =
      both_bind _ _ (opens_alike q i m.env m'.env h.env)
      (λ x y r. each (record { kept = pushed_alike _ _ (saved_alike m.env m'.env x y h.env r) h.kept; env = r }))
  act_alike (node_second q i) m m' h =
      both_bind _ _ (closes_alike q i _ _ (innermost_alike h.kept) m.env m'.env h.env) (λ x y r. each (record { kept = node_alike h.kept; env = r }))
  act_alike (start_tag q) m m' h =
      both_bind _ _ (enters_alike q m.env m'.env h.env)
      (λ x y r. each (record { kept = row (row (saved_alike m.env m'.env x y h.env r) no_row) h.kept; env = r }))
  act_alike (end_tag q) m m' h =
      both_bind _ _ (leaves_alike q _ _ (innermost_alike h.kept) m.env m'.env h.env) (λ x y r. each (record { kept = element_alike h.kept; env = r }))
  act_alike (letter_read c) m m' h = each (record { kept = h.kept; env = echoed_alike (character c) m.env m'.env h.env })

  pub acts_alike : (bs : List Act) (m m' : Store) → Stores top m m' → Both (Stores top) (acts a bs m) (acts a bs m')
  acts_alike [] m m' h = each h
  acts_alike (c ∷ bs) m m' h = both_bind _ _ (act_alike c m m' h) (λ x y r. acts_alike bs x y r)
