-- The strings of statements and lists, from those of their parts. Assumes nothing.
use mathlib.Core.Path.{◌≡◌, refl, ap, ◌∙◌, subst}
use Rattle.std.specs.Prelude.{Option, Some, None}
use mathlib.Core.Bool.{false, true≢false}
use mathlib.Core.List.{List, [], ◌∷◌, ◌++◌}
use Prim.Native.Nat.{ℕ, suc, ◌+◌, ◌-◌, ◌/◌, ◌%◌, ◌≤◌, ◌<◌}
use native.Mathlib.Omega.{arith}
use lib.ListN.{length, get_or, take, drop, length-drop, length-append}
use Rattle.text.specs.Chars.{Starts}
use Rattle.programs.specs.Program.{condition_bytes, Statement, become, copy, recall, reject, print_start, print_end, print_text, echo, branch, statement_bytes, Program, done, step, program_bytes}
use Rattle.programs.specs.Limits.{StatementFits, StatementsFit, Printable}
use Rattle.programs.proofs.Reading.{byte_of, first_byte, starts_length}
use Rattle.layout.specs.Layout.{byte_at, word_at}
use Rattle.sheet.specs.Sheet.{Sheet}
use Rattle.encoding.specs.Mentions.{Mention, a_tag, a_string, a_program, in_statement, in_program, strings_mentioned}
use Rattle.naming.specs.ByName.{statement_named, program_named}
use Rattle.visits.specs.Evaluated.{LiesAt}
use Rattle.visits.proofs.Lying.{statement_of}
use Rattle.glances.specs.Glances.{EndsAt}
use Rattle.glances.proofs.Laws.{nothing_lies, branch_lies, rest_lies, first_lies, not_done}
use Rattle.encoding.specs.Distinct.{has, AllDifferent, run_together}
use Rattle.stores.specs.Rows.{HasRows}
use Rattle.stores.specs.Filed.{FiledIs}
use Rattle.stores.specs.declared.Filed.{Filed}
use Rattle.gleans.specs.Gleans.{KeptAs, StringIs, StatementStrings, ListStrings}
use Rattle.gleans.proofs.Stored.{rows_few, Parts, Any, kept_nothing, kept_as, kept_stop, kept_then, kept_of, row_kept}

pub strings_append : (x y : List Mention) → strings_mentioned (x ++ y) ≡ strings_mentioned x ++ strings_mentioned y
strings_append [] y = refl
strings_append (a_tag n ∷ x) y = strings_append x y
strings_append (a_string s ∷ x) y = ap (λ (l : List (List ℕ)). s ∷ l) (strings_append x y)
strings_append (a_program p ∷ x) y = strings_append x y

module _ (bytes ends : List ℕ) (count : ℕ) (h : HasRows bytes ends count) where
  pub no_string : (strings : List ℕ) (o n : ℕ) → length strings < o + n → KeptAs (StringIs strings o n) bytes ends count (Some count) bytes ends
  no_string strings o n f = kept_nothing (StringIs strings o n) bytes ends count h (λ m u. absurd (omega (arith, u.inside)))

  pub string_kept : (strings : List ℕ) (o n : ℕ) (b e : List ℕ) (r w : Filed) → r ≡ w → FiledIs bytes ends count (take (o + n - o) (drop o strings)) b e r → length b ≡ length bytes → length e ≡ length ends
      → KeptAs (StringIs strings o n) bytes ends count (kept_of w count) b e
  string_kept strings o n b e r w same F lb le =
      row_kept bytes ends count (take (o + n - o) (drop o strings)) b e (StringIs strings o n) w h (subst (λ (v : Filed). FiledIs bytes ends count (take (o + n - o) (drop o strings)) b e v) same F) lb le
      (λ m u. u.is ∙ ap (λ (k : ℕ). take k (drop o strings) ∷ []) (let g : n ≡ o + n - o = omega arith in g))

  -- one more has an end
  pub one_more_end : (x b e : List ℕ) (r : Filed) (p o : ℕ) → r ≡ Filed.Added p o → FiledIs bytes ends count x b e r → length e ≡ length ends → count + 1 ≤ length ends
  one_more_end x b e r p o same F le =
      let A = (subst (λ (v : Filed). FiledIs bytes ends count x b e v) same F).is h.rows h.are in
      omega (arith, le, rows_few b e (count + 1) (record { rows = h.rows ++ x ∷ []; are = A.rows }))

  module _ (s strings : List ℕ) (i : ℕ) where
    pub list_cut : length s ≤ i → KeptAs (ListStrings s strings i) bytes ends count (Some count) bytes ends
    list_cut f = kept_nothing (ListStrings s strings i) bytes ends count h (λ m u. absurd (nothing_lies s i f u.thing u.lies))

    module _ (k : i < length s) where
      pub list_ends : get_or s i 0 ≡ 0 → KeptAs (ListStrings s strings i) bytes ends count (Some count) bytes ends
      list_ends z = kept_nothing (ListStrings s strings i) bytes ends count h (λ m u. u.are ∙ go u.sheet u.thing u.lies)
        where
          go : (a : Sheet) (p : Program) → LiesAt program_bytes s i p → strings_mentioned (in_program (program_named a p)) ≡ []
          go a done st = refl
          go a (step t p) st = absurd (statement_of s i k z t (first_lies s i t p st))

      pub no_print : (get_or s i 0 ≡ 7 → ⊥) → (get_or s i 0 ≡ 10 → ⊥) → KeptAs (StatementStrings s strings i) bytes ends count (Some count) bytes ends
      no_print f7 f10 = kept_nothing (StatementStrings s strings i) bytes ends count h (λ m u. u.are ∙ go u.sheet u.thing u.lies)
        where
          go : (a : Sheet) (t : Statement) → LiesAt statement_bytes s i t → strings_mentioned (in_statement (statement_named a t)) ≡ []
          go a (become b v) st = refl
          go a (copy b c) st = refl
          go a (recall b c) st = refl
          go a reject st = refl
          go a (print_start t) st = refl
          go a (print_end t) st = refl
          go a (print_text o n) st = absurd (f7 (first_byte s i 7 ((o % 256) ∷ (o / 256) ∷ n ∷ []) st))
          go a (echo on) st = refl
          go a (branch c l m) st = absurd (f10 (first_byte s i 10 (condition_bytes c ++ (program_bytes l ++ program_bytes m)) st))

module _ (s strings : List ℕ) (i : ℕ) (h : i < length s) (bytes ends : List ℕ) (count : ℕ) where
  -- ---- a print
  pub print_cut : HasRows bytes ends count → get_or s i 0 ≡ 7 → length s - i < 4 → KeptAs (StatementStrings s strings i) bytes ends count (Some count) bytes ends
  print_cut rows k f = kept_nothing (StatementStrings s strings i) bytes ends count rows (λ m u. absurd (no u.thing u.lies))
    where
      no : (t : Statement) → LiesAt statement_bytes s i t → ⊥
      no t st =
          let z = statement_of s i h k t st in
          omega (arith, starts_length (drop i s) (7 ∷ (z.0 % 256) ∷ (z.0 / 256) ∷ z.1 ∷ []) (rw z.2 at st), length-drop i s)

  pub print_kept : get_or s i 0 ≡ 7 → (o n : ℕ) → o ≡ word_at s (i + 1) → n ≡ byte_at s (i + 3) → (r : Option ℕ) (b e : List ℕ)
      → KeptAs (StringIs strings o n) bytes ends count r b e → KeptAs (StatementStrings s strings i) bytes ends count r b e
  print_kept k o n ois nis r b e = kept_as (StatementStrings s strings i) bytes ends count (StringIs strings o n) r b e go
    where
      go : (m : List (List ℕ)) → StatementStrings s strings i m → StringIs strings o n m
      go m T =
          let z = statement_of s i h k T.thing T.lies in
          let at = z.0 in
          let v = z.1 in
          let w : List ℕ = 7 ∷ (at % 256) ∷ (at / 256) ∷ v ∷ [] in
          let st : Starts (drop i s) w = rw z.2 at T.lies in
          let low = (byte_of s i w st 1 (omega arith)).1 in
          let behind : suc (i + 1) ≡ i + 2 = omega arith in
          let high = ap (λ (j : ℕ). get_or s j 0) behind ∙ (byte_of s i w st 2 (omega arith)).1 in
          let long : n ≡ v = nis ∙ (byte_of s i w st 3 (omega arith)).1 in
          let same : o ≡ at = omega (arith, ois, low, high) in
          let fits : Printable strings at v = rw z.2 at T.fits in
          let due : m ≡ take v (drop at T.sheet.strings) ∷ [] = T.are ∙ ap (λ (u : Statement). strings_mentioned (in_statement (statement_named T.sheet u))) z.2 in
          rw (same, long) (record { inside = fits.inside; is = rw T.strings_are at due })

  -- ---- a list: its first statement, and the rest
  module _ (k : get_or s i 0 ≡ 0 → ⊥) (b e : List ℕ) where
    pub list_stops : (r : Option ℕ) → r ≡ None → KeptAs (StatementStrings s strings i) bytes ends count None b e → KeptAs (ListStrings s strings i) bytes ends count r b e
    list_stops r z K = kept_stop (ListStrings s strings i) bytes ends count (StatementStrings s strings i) b e r z K (λ m u. go m u.sheet u.strings_are u.thing u.lies u.fits u.are)
      where
        go : (m : List (List ℕ)) (a : Sheet) → a.strings ≡ strings → (p : Program) → LiesAt program_bytes s i p → StatementsFit (length a.names) strings p → m ≡ strings_mentioned (in_program (program_named a p))
            → Parts (StatementStrings s strings i) Any m
        go m a src done st fits w = absurd (not_done s i h k st)
        go m a src (step t p) st fits w = record {
          front = strings_mentioned (in_statement (statement_named a t));
          back = strings_mentioned (in_program (program_named a p));
          front_due = record { sheet = a; strings_are = src; thing = t; lies = first_lies s i t p st; fits = fits.0; are = refl };
          back_due = tt;
          is = w ∙ strings_append (in_statement (statement_named a t)) (in_program (program_named a p));
        }

    pub list_goes : (more : ℕ) → KeptAs (StatementStrings s strings i) bytes ends count (Some more) b e → (n : ℕ) → EndsAt statement_bytes 1 s i n → (q : Option ℕ) (b' e' : List ℕ) → KeptAs (ListStrings s strings n) b e more q b' e'
        → KeptAs (ListStrings s strings i) bytes ends count q b' e'
    list_goes more K n N q b' e' Q = kept_then (ListStrings s strings i) bytes ends count (StatementStrings s strings i) b e (ListStrings s strings n) more q b' e' K Q (λ m u. go m u.sheet u.strings_are u.thing u.lies u.fits u.are)
      where
        go : (m : List (List ℕ)) (a : Sheet) → a.strings ≡ strings → (p : Program) → LiesAt program_bytes s i p → StatementsFit (length a.names) strings p → m ≡ strings_mentioned (in_program (program_named a p))
            → Parts (StatementStrings s strings i) (ListStrings s strings n) m
        go m a src done st fits w = absurd (not_done s i h k st)
        go m a src (step t p) st fits w = record {
          front = strings_mentioned (in_statement (statement_named a t));
          back = strings_mentioned (in_program (program_named a p));
          front_due = record { sheet = a; strings_are = src; thing = t; lies = first_lies s i t p st; fits = fits.0; are = refl };
          back_due = record { sheet = a; strings_are = src; thing = p; lies = rest_lies s i t p st n (N.exact t); fits = fits.1; are = refl };
          is = w ∙ strings_append (in_statement (statement_named a t)) (in_program (program_named a p));
        }

  -- ---- an if: its two lists
  module _ (k : get_or s i 0 ≡ 10) (c : ℕ) (C : EndsAt condition_bytes 0 s (i + 1) c) (b e : List ℕ) where
    pub if_stops : (r : Option ℕ) → r ≡ None → KeptAs (ListStrings s strings c) bytes ends count None b e → KeptAs (StatementStrings s strings i) bytes ends count r b e
    if_stops r z K = kept_stop (StatementStrings s strings i) bytes ends count (ListStrings s strings c) b e r z K go
      where
        go : (m : List (List ℕ)) → StatementStrings s strings i m → Parts (ListStrings s strings c) Any m
        go m u =
            let w = statement_of s i h k u.thing u.lies in
            let l = w.1 in
            let q = w.2 in
            let a = u.sheet in
            let f : StatementFits (length a.names) strings (branch w.0 l q) = rw w.3 at u.fits in
            let lie = branch_lies s i w.0 l q (rw w.3 at u.lies) c (c + length (program_bytes l)) (C.exact w.0) (λ x. refl) in
            record {
              front = strings_mentioned (in_program (program_named a l));
              back = strings_mentioned (in_program (program_named a q));
              front_due = record { sheet = a; strings_are = u.strings_are; thing = l; lies = lie.first_lies; fits = f.1; are = refl };
              back_due = tt;
              is = u.are ∙ ap (λ (x : Statement). strings_mentioned (in_statement (statement_named a x))) w.3 ∙ strings_append (in_program (program_named a l)) (in_program (program_named a q));
            }

    pub if_goes : (more : ℕ) → KeptAs (ListStrings s strings c) bytes ends count (Some more) b e → (n : ℕ) → EndsAt program_bytes 0 s c n → (q : Option ℕ) (b' e' : List ℕ) → KeptAs (ListStrings s strings n) b e more q b' e'
        → KeptAs (StatementStrings s strings i) bytes ends count q b' e'
    if_goes more K n N q b' e' Q = kept_then (StatementStrings s strings i) bytes ends count (ListStrings s strings c) b e (ListStrings s strings n) more q b' e' K Q go
      where
        go : (m : List (List ℕ)) → StatementStrings s strings i m → Parts (ListStrings s strings c) (ListStrings s strings n) m
        go m u =
            let w = statement_of s i h k u.thing u.lies in
            let l = w.1 in
            let p = w.2 in
            let a = u.sheet in
            let f : StatementFits (length a.names) strings (branch w.0 l p) = rw w.3 at u.fits in
            let lie = branch_lies s i w.0 l p (rw w.3 at u.lies) c n (C.exact w.0) (N.exact l) in
            record {
              front = strings_mentioned (in_program (program_named a l));
              back = strings_mentioned (in_program (program_named a p));
              front_due = record { sheet = a; strings_are = u.strings_are; thing = l; lies = lie.first_lies; fits = f.1; are = refl };
              back_due = record { sheet = a; strings_are = u.strings_are; thing = p; lies = lie.second_lies; fits = f.2; are = refl };
              is = u.are ∙ ap (λ (x : Statement). strings_mentioned (in_statement (statement_named a x))) w.3 ∙ strings_append (in_program (program_named a l)) (in_program (program_named a p));
            }

-- ---- rows that are all different and have few bytes are few: no more than one is empty
none_empty : (l : List (List ℕ)) → has l [] ≡ false → length l ≤ length (run_together l)
none_empty [] f = omega arith
none_empty ([] ∷ l) f = absurd (true≢false f)
none_empty ((b ∷ x) ∷ l) f = omega (arith, none_empty l f, length-append (b ∷ x) (run_together l))

pub different_few : (l : List (List ℕ)) → AllDifferent l → length l ≤ length (run_together l) + 1
different_few [] d = omega arith
different_few ([] ∷ l) d = omega (arith, none_empty l d.0)
different_few ((b ∷ x) ∷ l) d = omega (arith, different_few l d.1, length-append (b ∷ x) (run_together l))
