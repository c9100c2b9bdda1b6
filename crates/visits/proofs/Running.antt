-- Statements and lists: what each comes to, from what its parts came to, the output of one going on where that of the one before it stopped.
-- Assumes nothing.
use mathlib.Core.Path.{◌≡◌, refl, sym, ap, ◌∙◌, subst}
use Rattle.std.specs.Prelude.{Option as Taken, Some, None}
use Rattle.std.proofs.lemmas.Option.{IfSome_then}
use mathlib.Core.Bool.{Bool, true, false, not, ◌&&◌}
use mathlib.Core.List.{List, [], ◌∷◌, ◌++◌, append-nil}
use mathlib.Core.Option.{Option, none, some}
use Prim.Native.Nat.{ℕ, ◌+◌, ◌≤◌, ◌<◌}
use native.Mathlib.Omega.{arith}
use lib.ListN.{length, get_or, drop, length-append, length-drop}
use Rattle.lent.specs.Put.{PutAs}
use Rattle.lent.proofs.Laws.{nothing_put}
use Rattle.text.specs.Chars.{Starts}
use Rattle.programs.specs.Program.{Condition, condition_bytes, Statement, become, copy, recall, reject, print_start, print_end, print_text, echo, branch, statement_bytes, Program, done, step, program_bytes}
use Rattle.programs.specs.Limits.{StatementFits, StatementsFit}
use Rattle.programs.proofs.Agree.{program_some}
use Rattle.programs.proofs.Reading.{first_byte, starts_length}
use Rattle.sheet.specs.Sheet.{Sheet}
use Rattle.output.specs.Escape.{Piece, render}
use Rattle.output.proofs.Writing.{put_then, same_bytes, render_append}
use Rattle.runs.specs.Options.{bind}
use Rattle.runs.specs.Execute.{Effect, holds, chosen, after_print, execute_one, execute}
use Rattle.visits.specs.Evaluated.{LiesAt, JudgedAs, SettledAs, PastIs}
use Rattle.visits.specs.Written.{Pen, Written, Sources, PrintOf}
use Rattle.visits.specs.Ran.{most_printed, lived, Came, RanTo, WentOnTo, Ground, RanAs, statements, lists}
use Rattle.visits.specs.declared.Env.{Env}
use Rattle.visits.specs.declared.Judged.{Judged}
use Rattle.visits.specs.declared.Ran.{Ran}
use Rattle.visits.proofs.Lying.{first_part, second_part, statement_of}
use Rattle.visits.proofs.Settling.{no_effect}

-- ---- outcomes
abbrev pub pen_at : Pen → List ℕ → ℕ → Pen
pen_at p d n = record { write = p.write; lent = d; at = n }

-- nothing changed and nothing was written
abbrev unchanged : Env → Effect
unchanged e = record { values = e.values; echo = e.echo; printed = [] }

pub still : (p : Pen) (e : Env) → Came (some (unchanged e)) p p.at e p.lent
still p e = (refl, refl, nothing_put p.write p.lent p.at)

idle : (live : Bool) (p : Pen) (e : Env) → Came (lived live (some (unchanged e)) e) p p.at e p.lent
idle true p e = still p e
idle false p e = still p e

-- writing goes on where it stopped
joined : (o : List Piece) (x : Option Effect) (p : Pen) (d₁ : List ℕ) (n : ℕ) (r : Taken Ran) (d : List ℕ)
    → PutAs p.write p.lent p.at (render o) d₁ n → RanTo x (pen_at p d₁ n) r d → RanTo (after_print o x) p r d
joined o none p d₁ n None d P s = refl
joined o none p d₁ n (Some r) d P s = s
joined o (some y) p d₁ n None d P s = absurd (no_effect y (sym s))
joined o (some y) p d₁ n (Some r) d P s = (
  s.0,
  s.1,
  same_bytes p.write p.lent p.at (render o ++ render y.printed) (render (o ++ y.printed)) d r.at (sym (render_append o y.printed))
      (put_then p.write p.lent p.at (render o) (render y.printed) d₁ d n r.at P s.2),
)

after_nothing : (x : Option Effect) (p : Pen) (r : Taken Ran) (d : List ℕ) → RanTo (after_print [] x) p r d → RanTo x p r d
after_nothing none p None d s = refl
after_nothing none p (Some r) d s = s
after_nothing (some y) p None d s = absurd (no_effect _ (sym s))
after_nothing (some y) p (Some r) d s = s

-- an effect that prints the same and leaves the same
same_outcome : (x y : Effect) (p : Pen) (r : Taken Ran) (d : List ℕ) → y.values ≡ x.values → y.echo ≡ x.echo → render y.printed ≡ render x.printed → RanTo (some y) p r d → RanTo (some x) p r d
same_outcome x y p None d v b n s = absurd (no_effect y (sym s))
same_outcome x y p (Some r) d v b n s = (s.0 ∙ v, s.1 ∙ b, same_bytes p.write p.lent p.at (render y.printed) (render x.printed) d r.at n s.2)

-- what two parts came to, where the first went on
module _ (e : Env) (p : Pen) (l : Ran) (r : Taken Ran) (d₁ d : List ℕ) (G : List ℕ → Bool → Option Effect) where
  abbrev First : Option Effect → Type 0
  First o = Came o p l.at l.env d₁

  abbrev Then : Option Effect → Type 0
  Then o = RanTo o (pen_at p d₁ l.at) r d

  abbrev Whole : Option Effect → Type 0
  Whole o = RanTo o p r d

  together : (o : List Piece) (x : Option Effect) → PutAs p.write p.lent p.at (render o) d₁ l.at → Then x → Whole (after_print o x)
  together o x P s = joined o x p d₁ l.at r d P s

  -- the second part changed nothing
  kept_so : (x : Effect) → First (some x) → Then (some (unchanged l.env)) → Whole (some x)
  kept_so x a b =
      same_outcome x (record { values = l.env.values; echo = l.env.echo; printed = x.printed ++ [] }) p r d a.0 a.1 (ap render (append-nil x.printed))
      (together x.printed (some (unchanged l.env)) a.2 b)

  onward : (v : Bool) (o : Option Effect) → First (lived v o e) → Then (lived v (G l.env.values l.env.echo) l.env)
      → Whole (lived v (bind o (λ x. after_print x.printed (G x.values x.echo))) e)
  onward false o a b = kept_so (unchanged e) a b
  onward true none a b = absurd a
  onward true (some x) a b = rw (a.0, a.1) at (together x.printed (G l.env.values l.env.echo) a.2 b)

  branched : (v y : Bool) (o : Option Effect) → First (lived (v && y) o e) → Then (lived (v && not y) (G l.env.values l.env.echo) l.env)
      → Whole (lived v (chosen y o (G e.values e.echo)) e)
  branched false y o a b = kept_so (unchanged e) a b
  branched true true none a b = absurd a
  branched true true (some x) a b = kept_so x a b
  branched true false o a b =
      after_nothing (G e.values e.echo) p r d (rw (a.0, a.1) at (together [] (G l.env.values l.env.echo) a.2 b))

-- where the first did not
stopped : (e : Env) (v : Bool) (o : Option Effect) (F : Effect → Option Effect) → lived v o e ≡ none → lived v (bind o F) e ≡ none
stopped e false o F a = absurd (no_effect _ (sym a))
stopped e true none F a = refl
stopped e true (some x) F a = absurd (no_effect _ (sym a))

branch_stopped : (e : Env) (v y : Bool) (o u : Option Effect) → lived (v && y) o e ≡ none → lived v (chosen y o u) e ≡ none
branch_stopped e false y o u a = absurd (no_effect _ (sym a))
branch_stopped e true true none u a = refl
branch_stopped e true true (some x) u a = absurd (no_effect _ (sym a))
branch_stopped e true false o u a = absurd (no_effect _ (sym a))

module _ (g : Ground) (i : ℕ) (kept : List ℕ) (e : Env) (live : Bool) (p : Pen) (h : i < length g.section) where
  -- ---- a statement other than a branch
  module _ (next : ℕ) (N : PastIs g.section i next) where
    pub passed_over : live ≡ false → RanAs statements g i kept e live p (Some (record { next = next; at = p.at; env = e })) p.lent
    passed_over v = record { low = N.low; high = N.high; reach = omega (arith, N.low); dry = λ z. refl; right = λ a src t st fits. rw v (still p e, N.exact t st) }

    pub rejects : live ≡ true → get_or g.section i 0 ≡ 4 → RanAs statements g i kept e live p None p.lent
    rejects v k = record { low = tt; high = tt; reach = tt; dry = λ z. refl; right = λ a src t st fits. rw (v, statement_of g.section i h k t st) (refl, tt) }

    pub goes : live ≡ true → (get_or g.section i 0 ≡ 4 → ⊥) → (get_or g.section i 0 ≡ 10 → ⊥) → (f : Env) → SettledAs g.section i kept e f
        → (to : ℕ) (d : List ℕ) → Written most_printed (PrintOf g.section g.tags g.strings i) p to d
        → RanAs statements g i kept e live p (Some (record { next = next; at = to; env = f })) d
    goes v n4 n10 f F to d W = record { low = N.low; high = N.high; reach = omega (arith, N.low, W.reach); dry = W.dry; right = λ a src t st fits. rw v (go a src t st fits (execute_one a kept t e.values e.echo) refl, N.exact t st) }
      where
        does : (a : Sheet) (t : Statement) → LiesAt statement_bytes g.section i t → execute_one a kept t e.values e.echo ≡ none → ⊥
        does a (become n m) st z = no_effect _ (sym z)
        does a (copy n m) st z = no_effect _ (sym z)
        does a (recall n m) st z = no_effect _ (sym z)
        does a reject st z = n4 (first_byte g.section i 4 [] st)
        does a (print_start t) st z = no_effect _ (sym z)
        does a (print_end t) st z = no_effect _ (sym z)
        does a (print_text o n) st z = no_effect _ (sym z)
        does a (echo on) st z = no_effect _ (sym z)
        does a (branch c l m) st z = n10 (first_byte g.section i 10 (condition_bytes c ++ (program_bytes l ++ program_bytes m)) st)

        go : (a : Sheet) → Sources g.tags g.strings a → (t : Statement) → LiesAt statement_bytes g.section i t → StatementFits (length a.names) g.strings t
            → (o : Option Effect) → execute_one a kept t e.values e.echo ≡ o → Came o p to f d
        go a src t st fits none q = absurd (does a t st q)
        go a src t st fits (some x) q =
            let w = F a (length a.names) g.strings t st fits x q in
            (w.0, w.1, W.right (render x.printed) (record { sheet = a; sources = src; statement = t; lies = st; fits = fits; kept = kept; values = e.values; on = e.echo; effect = x; does = q; bytes = refl }))

  -- ---- a branch: j is what its condition came to, b whether its first list is live
  module _ (k : get_or g.section i 0 ≡ 10) (j : Judged) (J : JudgedAs g.section (i + 1) kept e.values j) (b : Bool) (bis : b ≡ live && j.yes) where
    abbrev Bytes : Condition → Program → Program → List ℕ
    Bytes c q m = condition_bytes c ++ (program_bytes q ++ program_bytes m)

    -- the condition and the first list, of a branch that lies there
    record Parts (l : Taken Ran) (d₁ : List ℕ) (a : Sheet) (c : Condition) (q m : Program) : Type 0 where
      judged : j.yes ≡ holds kept c e.values
      first : WentOnTo (lived (live && j.yes) (execute a kept q e.values e.echo) e) p (j.next + length (program_bytes q)) l d₁
      second_lies : Starts (drop (j.next + length (program_bytes q)) g.section) (program_bytes m)
      long : j.next + length (program_bytes q) + length (program_bytes m) ≡ i + length (10 ∷ Bytes c q m)

    parts : (l : Taken Ran) (d₁ : List ℕ) → RanAs lists g j.next kept e b p l d₁ → (a : Sheet) → Sources g.tags g.strings a → (c : Condition) (q m : Program) → LiesAt statement_bytes g.section i (branch c q m)
        → StatementsFit (length a.names) g.strings q → Parts l d₁ a c q m
    parts l d₁ L a src c q m st fits =
        let s = g.section in
        let one = second_part s i (10 ∷ []) (Bytes c q m) st in
        let w = J.right c (first_part s (i + 1) (condition_bytes c) (program_bytes q ++ program_bytes m) one) in
        let two = subst (λ (n : ℕ). Starts (drop n s) (program_bytes q ++ program_bytes m)) (sym w.1) (second_part s (i + 1) (condition_bytes c) (program_bytes q ++ program_bytes m) one) in
        record {
          judged = w.0;
          first = subst (λ (v : Bool). WentOnTo (lived v (execute a kept q e.values e.echo) e) p (j.next + length (program_bytes q)) l d₁) bis (L.right a src q (first_part s j.next (program_bytes q) (program_bytes m) two) fits);
          second_lies = second_part s j.next (program_bytes q) (program_bytes m) two;
          long = omega (arith, w.1, length-append (condition_bytes c) (program_bytes q ++ program_bytes m), length-append (program_bytes q) (program_bytes m));
        }

    pub branch_stops : (d₁ : List ℕ) → RanAs lists g j.next kept e b p None d₁ → RanAs statements g i kept e live p None d₁
    branch_stops d₁ L = record { low = tt; high = tt; reach = tt; dry = L.dry; right = go }
      where
        go : (a : Sheet) → Sources g.tags g.strings a → (t : Statement) → LiesAt statement_bytes g.section i t → StatementFits (length a.names) g.strings t
            → WentOnTo (lived live (execute_one a kept t e.values e.echo) e) p (i + length (statement_bytes t)) None d₁
        go a src t st fits =
            let w = statement_of g.section i h k t st in
            let c = w.0 in
            let q = w.1 in
            let m = w.2 in
            let f = rw w.3 at fits in
            let x = parts None d₁ L a src c q m (rw w.3 at st) f.1 in
            rw w.3 (rw (← x.judged) (branch_stopped e live j.yes (execute a kept q e.values e.echo) (execute a kept m e.values e.echo) x.first.0), tt)

    pub branch_goes : (l : Ran) (d₁ : List ℕ) → RanAs lists g j.next kept e b p (Some l) d₁ → (b' : Bool) → b' ≡ live && not j.yes → (r : Taken Ran) (d : List ℕ) → RanAs lists g l.next kept l.env b' (pen_at p d₁ l.at) r d
        → RanAs statements g i kept e live p r d
    branch_goes l d₁ L b' bis' r d R =
        record {
          low = IfSome_then r R.low (λ x u. omega (arith, J.low, L.low, u));
          high = R.high;
          reach = IfSome_then r R.reach (λ x u. omega (arith, J.low, L.reach, u));
          dry = λ z. R.dry z ∙ L.dry z;
          right = go;
        }
      where
        go : (a : Sheet) → Sources g.tags g.strings a → (t : Statement) → LiesAt statement_bytes g.section i t → StatementFits (length a.names) g.strings t
            → WentOnTo (lived live (execute_one a kept t e.values e.echo) e) p (i + length (statement_bytes t)) r d
        go a src t st fits =
            let w = statement_of g.section i h k t st in
            let c = w.0 in
            let q = w.1 in
            let m = w.2 in
            let f = rw w.3 at fits in
            let x = parts (Some l) d₁ L a src c q m (rw w.3 at st) f.1 in
            let nx = x.first.1 in
            let s = R.right a src m (subst (λ (n : ℕ). Starts (drop n g.section) (program_bytes m)) (sym nx) x.second_lies) f.2 in
            let s' = subst (λ (v : Bool). WentOnTo (lived v (execute a kept m l.env.values l.env.echo) l.env) (pen_at p d₁ l.at) (l.next + length (program_bytes m)) r d) bis' s in
            rw w.3 (rw (← x.judged) (branched e p l r d₁ d (execute a kept m) live j.yes (execute a kept q e.values e.echo) x.first.0 s'.0), IfSome_then r s'.1 (λ z u. omega (arith, u, nx, x.long)))

  -- ---- lists
  pub list_done : get_or g.section i 0 ≡ 0 → RanAs lists g i kept e live p (Some (record { next = i + 1; at = p.at; env = e })) p.lent
  list_done k = record { low = omega arith; high = omega arith; reach = omega arith; dry = λ z. refl; right = go }
    where
      go : (a : Sheet) → Sources g.tags g.strings a → (q : Program) → LiesAt program_bytes g.section i q → StatementsFit (length a.names) g.strings q
          → WentOnTo (lived live (execute a kept q e.values e.echo) e) p (i + length (program_bytes q)) (Some (record { next = i + 1; at = p.at; env = e })) p.lent
      go a src done st fits = (idle live p e, refl)
      go a src (step t q) st fits = absurd (statement_of g.section i h k t (first_part g.section i (statement_bytes t) (program_bytes q) st))

  module _ (k : get_or g.section i 0 ≡ 0 → ⊥) where
    pub list_stops : (d₁ : List ℕ) → RanAs statements g i kept e live p None d₁ → RanAs lists g i kept e live p None d₁
    list_stops d₁ L = record { low = tt; high = tt; reach = tt; dry = L.dry; right = go }
      where
        go : (a : Sheet) → Sources g.tags g.strings a → (q : Program) → LiesAt program_bytes g.section i q → StatementsFit (length a.names) g.strings q
            → WentOnTo (lived live (execute a kept q e.values e.echo) e) p (i + length (program_bytes q)) None d₁
        go a src done st fits = absurd (k (first_byte g.section i 0 [] st))
        go a src (step t q) st fits =
            let x = L.right a src t (first_part g.section i (statement_bytes t) (program_bytes q) st) fits.0 in
            (stopped e live (execute_one a kept t e.values e.echo) (λ y. after_print y.printed (execute a kept q y.values y.echo)) x.0, tt)

    pub list_goes : (l : Ran) (d₁ : List ℕ) → RanAs statements g i kept e live p (Some l) d₁ → (r : Taken Ran) (d : List ℕ) → RanAs lists g l.next kept l.env live (pen_at p d₁ l.at) r d → RanAs lists g i kept e live p r d
    list_goes l d₁ L r d R =
        record {
          low = IfSome_then r R.low (λ x u. omega (arith, L.low, u));
          high = R.high;
          reach = IfSome_then r R.reach (λ x u. omega (arith, L.reach, u));
          dry = λ z. R.dry z ∙ L.dry z;
          right = go;
        }
      where
        go : (a : Sheet) → Sources g.tags g.strings a → (q : Program) → LiesAt program_bytes g.section i q → StatementsFit (length a.names) g.strings q
            → WentOnTo (lived live (execute a kept q e.values e.echo) e) p (i + length (program_bytes q)) r d
        go a src done st fits = absurd (k (first_byte g.section i 0 [] st))
        go a src (step t q) st fits =
            let s = g.section in
            let x = L.right a src t (first_part s i (statement_bytes t) (program_bytes q) st) fits.0 in
            let nx = x.1 in
            let w = R.right a src q (subst (λ (n : ℕ). Starts (drop n s) (program_bytes q)) (sym nx) (second_part s i (statement_bytes t) (program_bytes q) st)) fits.1 in
            (onward e p l r d₁ d (execute a kept q) live (execute_one a kept t e.values e.echo) x.0 w.0, IfSome_then r w.1 (λ z u. omega (arith, u, nx, length-append (statement_bytes t) (program_bytes q))))

pub list_short : (g : Ground) (i : ℕ) (kept : List ℕ) (e : Env) (live : Bool) (p : Pen) → length g.section ≤ i → RanAs lists g i kept e live p None p.lent
list_short g i kept e live p f =
    record { low = tt; high = tt; reach = tt; dry = λ z. refl; right = λ a src q st fits. absurd (omega (arith, program_some q, starts_length (drop i g.section) (program_bytes q) st, length-drop i g.section)) }
