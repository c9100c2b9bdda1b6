-- A statement other than a branch: what it makes of the attributes and echo, and how many bytes it has, by its first byte.
-- Assumes nothing.
use mathlib.Core.Path.{◌≡◌, refl, ap, ap₂, ◌∙◌}
use mathlib.Core.Bool.{Bool, true, false, true≢false}
use mathlib.Core.List.{List, [], ◌∷◌, ◌++◌}
use mathlib.Core.Option.{Option, none, some}
use Prim.Native.Nat.{ℕ, ◌+◌, ◌/◌, ◌%◌, ◌≤◌, ◌<◌}
use native.Mathlib.Omega.{arith}
use lib.ListN.{length, get_or, set, drop, length-drop}
use Rattle.text.specs.Chars.{Starts}
use Rattle.programs.specs.Program.{Statement, become, copy, recall, reject, print_start, print_end, print_text, echo, branch, statement_bytes, condition_bytes, program_bytes}
use Rattle.programs.specs.Limits.{Attribute}
use Rattle.programs.proofs.Reading.{byte_of, first_byte, starts_length}
use Rattle.output.specs.Escape.{Piece}
use Rattle.runs.specs.Execute.{Effect}
use Rattle.visits.specs.Evaluated.{LiesAt, SettledAs, PastIs, SectionEndIs}
use Rattle.visits.specs.declared.Env.{Env}
use Rattle.visits.proofs.Lying.{statement_of}

pub same_effect : (x y : Effect) → some x ≡ some y → x ≡ y
same_effect x y e = cc

pub no_effect : (x : Effect) → none ≡ some x → ⊥
no_effect x e = true≢false (ap given e)
  where
    given : Option Effect → Bool
    given none = true
    given (some y) = false

-- the values and echo are those of the effect
settles : (r : Env) (vs : List ℕ) (on : Bool) (ps : List Piece) (x : Effect) → some (record { values = vs; echo = on; printed = ps }) ≡ some x → r.values ≡ vs → r.echo ≡ on
    → (r.values ≡ x.values) × (r.echo ≡ x.echo)
settles r vs on ps x d v b =
    let e = same_effect (record { values = vs; echo = on; printed = ps }) x d in
    (v ∙ ap (λ (y : Effect). y.values) e, b ∙ ap (λ (y : Effect). y.echo) e)

module _ (s : List ℕ) (i : ℕ) (kept : List ℕ) (e : Env) (h : i < length s) (r : Env) where
  module _ (n v : ℕ) (nis : n ≡ get_or s (i + 1) 0) (values_are : r.values ≡ set e.values n v) (echo_is : r.echo ≡ e.echo) where
    pub becomes : get_or s i 0 ≡ 1 → v ≡ get_or s (i + 2) 0 → SettledAs s i kept e r
    becomes k vis a tags strings t st fits x d =
        let w = statement_of s i h k t st in
        let lie : Starts (drop i s) (1 ∷ w.0 ∷ w.1 ∷ []) = rw w.2 at st in
        let p = nis ∙ (byte_of s i (1 ∷ w.0 ∷ w.1 ∷ []) lie 1 (omega arith)).1 in
        let q = vis ∙ (byte_of s i (1 ∷ w.0 ∷ w.1 ∷ []) lie 2 (omega arith)).1 in
        settles r (set e.values w.0 w.1) e.echo [] x (rw w.2 at d) (values_are ∙ ap₂ (λ (m u : ℕ). set e.values m u) p q) echo_is

    pub copies : get_or s i 0 ≡ 2 → (m : ℕ) → m ≡ get_or s (i + 2) 0 → v ≡ get_or e.values m 0 → SettledAs s i kept e r
    copies k m mis vis a tags strings t st fits x d =
        let w = statement_of s i h k t st in
        let lie : Starts (drop i s) (2 ∷ w.0 ∷ w.1 ∷ []) = rw w.2 at st in
        let p = nis ∙ (byte_of s i (2 ∷ w.0 ∷ w.1 ∷ []) lie 1 (omega arith)).1 in
        let q = vis ∙ ap (λ (b : ℕ). get_or e.values b 0) (mis ∙ (byte_of s i (2 ∷ w.0 ∷ w.1 ∷ []) lie 2 (omega arith)).1) in
        settles r (set e.values w.0 (get_or e.values w.1 0)) e.echo [] x (rw w.2 at d) (values_are ∙ ap₂ (λ (m u : ℕ). set e.values m u) p q) echo_is

    pub recalls : get_or s i 0 ≡ 3 → (m : ℕ) → m ≡ get_or s (i + 2) 0 → v ≡ get_or kept m 0 → SettledAs s i kept e r
    recalls k m mis vis a tags strings t st fits x d =
        let w = statement_of s i h k t st in
        let lie : Starts (drop i s) (3 ∷ w.0 ∷ w.1 ∷ []) = rw w.2 at st in
        let p = nis ∙ (byte_of s i (3 ∷ w.0 ∷ w.1 ∷ []) lie 1 (omega arith)).1 in
        let q = vis ∙ ap (λ (b : ℕ). get_or kept b 0) (mis ∙ (byte_of s i (3 ∷ w.0 ∷ w.1 ∷ []) lie 2 (omega arith)).1) in
        settles r (set e.values w.0 (get_or kept w.1 0)) e.echo [] x (rw w.2 at d) (values_are ∙ ap₂ (λ (m u : ℕ). set e.values m u) p q) echo_is

  pub goes_on : get_or s i 0 ≡ 8 → r.values ≡ e.values → r.echo ≡ true → SettledAs s i kept e r
  goes_on k v b a tags strings t st fits x d = let w = statement_of s i h k t st in settles r e.values true [] x (rw w at d) v b

  pub goes_off : get_or s i 0 ≡ 9 → r.values ≡ e.values → r.echo ≡ false → SettledAs s i kept e r
  goes_off k v b a tags strings t st fits x d = let w = statement_of s i h k t st in settles r e.values false [] x (rw w at d) v b

module _ (s : List ℕ) (i : ℕ) where
  abbrev pub First : ℕ → Type 0
  First k = get_or s i 0 ≡ k

  -- the attribute that the statement names is one
  abbrev pub Within : Type 0
  Within = Attribute (get_or s (i + 1) 0)

  -- of any other nothing changes
  pub stays : (kept : List ℕ) (e : Env) → (First 1 → Within → ⊥) → (First 2 → Within → ⊥) → (First 3 → Within → ⊥) → (First 8 → ⊥) → (First 9 → ⊥) → (First 10 → ⊥) → SettledAs s i kept e e
  stays kept e f1 f2 f3 f8 f9 f10 a tags strings (become n v) st fits x d = absurd (f1 (first_byte s i 1 (n ∷ v ∷ []) st) (omega (arith, fits.0, (byte_of s i (1 ∷ n ∷ v ∷ []) st 1 (omega arith)).1)))
  stays kept e f1 f2 f3 f8 f9 f10 a tags strings (copy n m) st fits x d = absurd (f2 (first_byte s i 2 (n ∷ m ∷ []) st) (omega (arith, fits.0, (byte_of s i (2 ∷ n ∷ m ∷ []) st 1 (omega arith)).1)))
  stays kept e f1 f2 f3 f8 f9 f10 a tags strings (recall n m) st fits x d = absurd (f3 (first_byte s i 3 (n ∷ m ∷ []) st) (omega (arith, fits.0, (byte_of s i (3 ∷ n ∷ m ∷ []) st 1 (omega arith)).1)))
  stays kept e f1 f2 f3 f8 f9 f10 a tags strings reject st fits x d = absurd (no_effect x d)
  stays kept e f1 f2 f3 f8 f9 f10 a tags strings (print_start t) st fits x d = settles e e.values e.echo _ x d refl refl
  stays kept e f1 f2 f3 f8 f9 f10 a tags strings (print_end t) st fits x d = settles e e.values e.echo _ x d refl refl
  stays kept e f1 f2 f3 f8 f9 f10 a tags strings (print_text o n) st fits x d = settles e e.values e.echo _ x d refl refl
  stays kept e f1 f2 f3 f8 f9 f10 a tags strings (echo true) st fits x d = absurd (f8 (first_byte s i 8 [] st))
  stays kept e f1 f2 f3 f8 f9 f10 a tags strings (echo false) st fits x d = absurd (f9 (first_byte s i 9 [] st))
  stays kept e f1 f2 f3 f8 f9 f10 a tags strings (branch c l m) st fits x d = absurd (f10 (first_byte s i 10 (condition_bytes c ++ (program_bytes l ++ program_bytes m)) st))

  -- ---- the length, by the first byte
  abbrev pub Width : ℕ → ℕ → Type 0
  Width k n = (k < 4 → n ≡ 3) × (k ≡ 7 → n ≡ 4) × (k ≡ 5 → n ≡ 2) × (k ≡ 6 → n ≡ 2) × (4 ≤ k → (k ≡ 7 → ⊥) → (k ≡ 5 → ⊥) → (k ≡ 6 → ⊥) → (k ≡ 10 → ⊥) → n ≡ 1)

  pub width_is : (t : Statement) → LiesAt statement_bytes s i t → Width (get_or s i 0) (length (statement_bytes t))
  width_is (become a v) st = rw (first_byte s i 1 (a ∷ v ∷ []) st) (λ z. refl, λ z. absurd (omega arith), λ z. absurd (omega arith), λ z. absurd (omega arith), λ z a b c d. absurd (omega arith))
  width_is (copy a v) st = rw (first_byte s i 2 (a ∷ v ∷ []) st) (λ z. refl, λ z. absurd (omega arith), λ z. absurd (omega arith), λ z. absurd (omega arith), λ z a b c d. absurd (omega arith))
  width_is (recall a v) st = rw (first_byte s i 3 (a ∷ v ∷ []) st) (λ z. refl, λ z. absurd (omega arith), λ z. absurd (omega arith), λ z. absurd (omega arith), λ z a b c d. absurd (omega arith))
  width_is reject st = rw (first_byte s i 4 [] st) (λ z. absurd (omega arith), λ z. absurd (omega arith), λ z. absurd (omega arith), λ z. absurd (omega arith), λ z a b c d. refl)
  width_is (print_start t) st = rw (first_byte s i 5 (t ∷ []) st) (λ z. absurd (omega arith), λ z. absurd (omega arith), λ z. refl, λ z. refl, λ z a b c d. absurd (b refl))
  width_is (print_end t) st = rw (first_byte s i 6 (t ∷ []) st) (λ z. absurd (omega arith), λ z. absurd (omega arith), λ z. refl, λ z. refl, λ z a b c d. absurd (c refl))
  width_is (print_text o n) st = rw (first_byte s i 7 ((o % 256) ∷ (o / 256) ∷ n ∷ []) st) (λ z. absurd (omega arith), λ z. refl, λ z. absurd (omega arith), λ z. absurd (omega arith), λ z a b c d. absurd (a refl))
  width_is (echo true) st = rw (first_byte s i 8 [] st) (λ z. absurd (omega arith), λ z. absurd (omega arith), λ z. absurd (omega arith), λ z. absurd (omega arith), λ z a b c d. refl)
  width_is (echo false) st = rw (first_byte s i 9 [] st) (λ z. absurd (omega arith), λ z. absurd (omega arith), λ z. absurd (omega arith), λ z. absurd (omega arith), λ z a b c d. refl)
  width_is (branch c l m) st =
      rw (first_byte s i 10 (condition_bytes c ++ (program_bytes l ++ program_bytes m)) st) (λ z. absurd (omega arith), λ z. absurd (omega arith), λ z. absurd (omega arith), λ z. absurd (omega arith), λ z a b c d. absurd (d refl))

  pub past_is : (w r : ℕ) → SectionEndIs s i w r → ((t : Statement) → LiesAt statement_bytes s i t → length (statement_bytes t) ≡ w) → PastIs s i r
  past_is w r E f = record { low = E.low; high = E.high; exact = go }
    where
      go : (t : Statement) → LiesAt statement_bytes s i t → r ≡ i + length (statement_bytes t)
      go t st =
          let same = f t st in
          let fits : i + w ≤ length s = omega (arith, same, starts_length (drop i s) (statement_bytes t) st, length-drop i s, E.low, E.high) in
          omega (arith, same, E.exact fits)
