-- The section of programs: which are stored, that they fill it, and that each field names its own. Assumes nothing.
use mathlib.Core.Path.{◌≡◌, refl, sym, ◌∙◌, ap, ap₂, subst}
use mathlib.Core.Bool.{Bool, true, false, cond}
use mathlib.Core.List.{List, [], ◌∷◌, ◌++◌, append_assoc, append-nil}
use mathlib.Core.Option.{Option, none, some}
use Prim.Native.Nat.{ℕ, suc, ◌+◌, ◌≤◌, ◌<◌}
use native.Mathlib.Omega.{arith}
use lib.ListN.{length, length-append}
use Rattle.programs.specs.Program.{Program, program_bytes}
use Rattle.programs.specs.Limits.{IsProgram, Visit, allowed}
use Rattle.programs.specs.Section.{back_to_back, AllPrograms, StartOf, FieldIs, no_program, names}
use Rattle.programs.proofs.Agree.{program_agree}
use Rattle.notation.specs.Program.{TextStatement, become, copy, recall, reject, print_start, print_end, print_text, echo, branch, TextProgram, done, step}
use Rattle.notation.specs.Rules.{Rules}
use Rattle.encoding.specs.Mentions.{Mention, a_tag, a_string, a_program, in_statement, in_program, in_braces, in_rules, programs_mentioned}
use Rattle.encoding.specs.Distinct.{equal, has, added, distinct, offset_of, run_together}
use Rattle.encoding.specs.Encoded.{program_of, bytes_of_each, programs_stored, Room, maybe, sheet_of}
use Rattle.encoding.specs.Keeps.{ProgramKeeps}
use Rattle.encoding.proofs.Stored.{equal_true, or_parts, AllHad, distinct_all, Lies, lies}
use Rattle.packing.specs.Packed.{field}

abbrev each_bytes : List Program → List (List ℕ)
each_bytes [] = []
each_bytes (p ∷ ps) = program_bytes p ∷ each_bytes ps

-- those whose bytes were not seen, nor stand earlier
abbrev chosen : List (List ℕ) → List Program → List Program
chosen seen [] = []
chosen seen (p ∷ ps) = cond (has seen (program_bytes p)) (chosen seen ps) (p ∷ chosen (seen ++ program_bytes p ∷ []) ps)

chosen_bytes : (seen : List (List ℕ)) (ps : List Program) → each_bytes (chosen seen ps) ≡ added seen (each_bytes ps)
chosen_bytes seen [] = refl
chosen_bytes seen (p ∷ ps) = on (has seen (program_bytes p)) (chosen_bytes seen ps) (chosen_bytes (seen ++ program_bytes p ∷ []) ps)
  where
    on : (b : Bool) → each_bytes (chosen seen ps) ≡ added seen (each_bytes ps) → each_bytes (chosen (seen ++ program_bytes p ∷ []) ps) ≡ added (seen ++ program_bytes p ∷ []) (each_bytes ps)
        → each_bytes (cond b (chosen seen ps) (p ∷ chosen (seen ++ program_bytes p ∷ []) ps)) ≡ cond b (added seen (each_bytes ps)) (program_bytes p ∷ added (seen ++ program_bytes p ∷ []) (each_bytes ps))
    on true h k = h
    on false h k = ap (λ l. program_bytes p ∷ l) k

chosen_all : (tags : ℕ) (strings : List ℕ) (seen : List (List ℕ)) (ps : List Program) → AllPrograms tags strings ps → AllPrograms tags strings (chosen seen ps)
chosen_all tags strings seen [] h = tt
chosen_all tags strings seen (p ∷ ps) h = on (has seen (program_bytes p)) (chosen_all tags strings seen ps h.1) (chosen_all tags strings (seen ++ program_bytes p ∷ []) ps h.1)
  where
    on : (b : Bool) → AllPrograms tags strings (chosen seen ps) → AllPrograms tags strings (chosen (seen ++ program_bytes p ∷ []) ps) → AllPrograms tags strings (cond b (chosen seen ps) (p ∷ chosen (seen ++ program_bytes p ∷ []) ps))
    on true i k = i
    on false i k = (h.0, k)

joined_each : (ps : List Program) → back_to_back ps ≡ run_together (each_bytes ps)
joined_each [] = refl
joined_each (p ∷ ps) = ap (λ l. program_bytes p ++ l) (joined_each ps)

-- equal bytes are one program
start_of : (ps : List Program) (p : Program) → has (each_bytes ps) (program_bytes p) ≡ true → StartOf ps (offset_of (each_bytes ps) (program_bytes p)) p
start_of [] p h = absurd (let z : ◌≡◌ {A = ℕ} 0 1 = cc in omega arith)
start_of (q ∷ ps) p h = on (equal (program_bytes p) (program_bytes q)) refl (λ e. start_of ps p (or_parts (equal (program_bytes p) (program_bytes q)) (has (each_bytes ps) (program_bytes p)) h e))
  where
    on : (b : Bool) → equal (program_bytes p) (program_bytes q) ≡ b → (equal (program_bytes p) (program_bytes q) ≡ false → StartOf ps (offset_of (each_bytes ps) (program_bytes p)) p)
        → StartOf (q ∷ ps) (cond b 0 (length (program_bytes q) + offset_of (each_bytes ps) (program_bytes p))) p
    on true e ih =
        let same : p ≡ q = (program_agree p q [] [] (ap (λ l. l ++ []) (equal_true (program_bytes p) (program_bytes q) e))).0 in
        record { before = []; after = ps; are = ap (λ x. x ∷ ps) (sym same); offset = refl }
    on false e ih =
        let r = ih e in
        record { before = q ∷ r.before; after = r.after; are = ap (λ l. q ∷ l) r.are; offset = simp length-append (ap (λ n. length (program_bytes q) + n) r.offset) }

-- the programs that are mentioned, as the sheet has them
abbrev sheet_programs : Rules → List TextProgram → List Program
sheet_programs r [] = []
sheet_programs r (p ∷ ps) = program_of r p ∷ sheet_programs r ps

each_bytes_lem : (r : Rules) (ps : List TextProgram) → each_bytes (sheet_programs r ps) ≡ bytes_of_each r ps
each_bytes_lem r [] = refl
each_bytes_lem r (p ∷ ps) = ap (λ l. program_bytes (program_of r p) ∷ l) (each_bytes_lem r ps)

-- the programs of its sheet
pub stored_programs : Rules → List Program
stored_programs r = chosen [] (sheet_programs r (programs_mentioned (in_rules r.productions)))

pub stored_bytes : (r : Rules) → each_bytes (stored_programs r) ≡ programs_stored r
unfolding stored_programs
stored_bytes r = chosen_bytes [] (sheet_programs r (programs_mentioned (in_rules r.productions))) ∙ ap (added []) (each_bytes_lem r (programs_mentioned (in_rules r.productions)))

pub stored_fill : (r : Rules) → back_to_back (stored_programs r) ≡ run_together (programs_stored r)
stored_fill r = joined_each (stored_programs r) ∙ ap run_together (stored_bytes r)

-- what is mentioned is stored
abbrev pub Holds : Rules → List Mention → Type 0
Holds r ms = AllHad (programs_stored r) (bytes_of_each r (programs_mentioned ms))

pub holds_all : (r : Rules) → Holds r (in_rules r.productions)
holds_all r = distinct_all (bytes_of_each r (programs_mentioned (in_rules r.productions)))

pub holds_front : (r : Rules) (ms ns : List Mention) → Holds r (ms ++ ns) → Holds r ms
holds_front r [] ns h = tt
holds_front r (a_tag n ∷ ms) ns h = holds_front r ms ns h
holds_front r (a_string s ∷ ms) ns h = holds_front r ms ns h
holds_front r (a_program p ∷ ms) ns h = (h.0, holds_front r ms ns h.1)

pub holds_back : (r : Rules) (ms ns : List Mention) → Holds r (ms ++ ns) → Holds r ns
holds_back r [] ns h = h
holds_back r (a_tag n ∷ ms) ns h = holds_back r ms ns h
holds_back r (a_string s ∷ ms) ns h = holds_back r ms ns h
holds_back r (a_program p ∷ ms) ns h = holds_back r ms ns h.1

-- what a field says
pub field_is : (r : Rules) → Room r → (v : Visit) (o : Option TextProgram) → ProgramKeeps (sheet_of r) v (maybe r o) → Holds r (in_braces o) → FieldIs (stored_programs r) v (field r o) (maybe r o)
field_is r room v none k h = no_program refl
field_is r room v (some p) k h =
    let had : has (programs_stored r) (program_bytes (program_of r p)) ≡ true = (holds_back r (in_program p) (a_program p ∷ []) h).0 in
    let l = lies (programs_stored r) (program_bytes (program_of r p)) had in
    names (λ e. omega (arith, l.inside, room.short_programs, e)) (program_of r p)
    (subst (λ z. StartOf (stored_programs r) (offset_of z (program_bytes (program_of r p))) (program_of r p)) (stored_bytes r)
    (start_of (stored_programs r) (program_of r p) (subst (λ z. has z (program_bytes (program_of r p)) ≡ true) (sym (stored_bytes r)) had)))
    k.1

pub field_small : (r : Rules) → Room r → (o : Option TextProgram) → Holds r (in_braces o) → field r o < 65536
field_small r room none h = omega arith
field_small r room (some p) h = let l = lies (programs_stored r) (program_bytes (program_of r p)) (holds_back r (in_program p) (a_program p ∷ []) h).0 in omega (arith, l.inside, room.short_programs)

-- each that is mentioned is a program
module _ (r : Rules) where
  abbrev pub Good : List Mention → Type 0
  Good ms = AllPrograms (length (sheet_of r).names) (sheet_of r).strings (sheet_programs r (programs_mentioned ms))

  pub good_append : (ms ns : List Mention) → Good ms → Good ns → Good (ms ++ ns)
  good_append [] ns h k = k
  good_append (a_tag n ∷ ms) ns h k = good_append ms ns h k
  good_append (a_string s ∷ ms) ns h k = good_append ms ns h k
  good_append (a_program p ∷ ms) ns h k = (h.0, good_append ms ns h.1 k)

  mutual
    good_statement : (t : TextStatement) → Good (in_statement t)
    good_statement (become a v) = tt
    good_statement (copy a b) = tt
    good_statement (recall a b) = tt
    good_statement reject = tt
    good_statement (print_start n) = tt
    good_statement (print_end n) = tt
    good_statement (print_text s) = tt
    good_statement (echo on) = tt
    good_statement (branch c l m) = good_append (in_program l) (in_program m) (good_program l) (good_program m)

    good_program : (p : TextProgram) → Good (in_program p)
    good_program done = tt
    good_program (step t p) = good_append (in_statement t) (in_program p) (good_statement t) (good_program p)

  pub good_braces : (v : Visit) (o : Option TextProgram) → ProgramKeeps (sheet_of r) v (maybe r o) → Good (in_braces o)
  good_braces v none k = tt
  good_braces v (some p) k = good_append (in_program p) (a_program p ∷ []) (good_program p) (k.0, tt)

  pub good_stored : Good (in_rules r.productions) → AllPrograms (length (sheet_of r).names) (sheet_of r).strings (stored_programs r)
  unfolding stored_programs
  good_stored h = chosen_all (length (sheet_of r).names) (sheet_of r).strings [] (sheet_programs r (programs_mentioned (in_rules r.productions))) h
