-- What is promised of the bytes of a program while it is read. Assumes nothing.
use mathlib.Core.Path.{◌≡◌, refl, sym, ◌∙◌, ap, ap₂, subst}
use mathlib.Core.Bool.{Bool, true, false}
use mathlib.Core.Option.{Option, some}
use mathlib.Core.List.{List, [], ◌∷◌, ◌++◌, append-nil, append_assoc}
use Prim.Native.Nat.{ℕ, suc, ◌+◌, ◌≤◌}
use native.Mathlib.Omega.{arith}
use lib.ListN.{length, replicate, length-append}
use Rattle.limits.specs.Limits.{longest_program}
use Rattle.programs.specs.Program.{Operand, constant, Condition, equal, operand_bytes, condition_bytes, statement_bytes, program_bytes}
use Rattle.programs.specs.Parsed.{which_visit}
use Rattle.notation.specs.Program.{TextStatement, become, copy, recall, reject, print_start, print_end, print_text, echo, branch, TextProgram, done, step, statement_in, program_in}
use Rattle.notation.specs.Limits.{size_of, ProgramWithin}
use Rattle.notation.specs.Statements.{only}
use Rattle.notation.specs.Tokens.{TextToken}
use Rattle.reading.specs.Conditions as conditions
use Rattle.reading.specs.Conditions.{Reading, finished_of, disjoined}
use Rattle.reading.specs.Statements.{Pending, in_then, in_else, ListLevel, list_level, listed, around_list, opening, separated, branching, Listing, wants, target, assigning, printing, testing, after, step_statements, finished_list}
use Rattle.lexemes.specs.Kinds.{token_kind, TokenFits}
use Rattle.outlines.specs.Extents.{program_extent, vacant}
use Rattle.outlines.specs.Statements.{Layer, layers_on, layers_of, among, outline}
use Rattle.outlines.specs.Shape.{SoundOutline, PlaceFirm}
use Rattle.outlines.specs.Promises.{MachineKeeps}
use Rattle.outlines.proofs.Outlines.{within_out, keeps_alike}
use Rattle.outlines.proofs.Shapes.{starts_sound, stays_sound, few_layers}
use Rattle.strokes.specs.Conditions.{levels_on, reading_on}
use Rattle.strokes.specs.Bodies.{body_bytes, front_of, test_front, ink_of, marks_on, marks_of, marks_in}
use Rattle.strokes.specs.Strokes.{Inks, Stroke, written_on, inked, owed, sealed_bytes}
use Rattle.strokes.specs.Promises.{DrawnInk, InksAre, StartsBlank, TokensDraw, ItemsDraw, SealsWhole}
use Rattle.strokes.proofs.Lists.{grown, at_either_end}
use Rattle.strokes.proofs.Conditions.{got_bytes, or_bytes}
use Rattle.strokes.proofs.Bodies.{whole_bytes, then_bytes, listed_bytes}
use Rattle.strokes.proofs.Does.{TokenDoes, token_does, item_does}
use Rattle.strokes.proofs.Steps.{Fits, DrawnIf, OpensBlank, BlankIn, steps_drawn}

-- the marks are as many as the layers
marks_long : (fs : List Pending) (ms : List ℕ) (b : _) (ls : List Layer) → length ms ≡ length ls → length (marks_on fs (0 ∷ ms)) ≡ length (layers_on fs (among b ∷ ls))
marks_long [] ms b ls e = ap suc e
marks_long (f ∷ fs) ms b ls e = ap suc (marks_long fs ms b ls e)

all_marks : (ls : List ListLevel) → length (marks_of ls) ≡ length (layers_of ls)
all_marks [] = refl
all_marks (l ∷ ls) = marks_long l.ifs (marks_of ls) (program_extent l.before) (layers_of ls) (all_marks ls)

marks_in_lem : (q : Listing) → length (marks_in q) ≡ length (outline q).layers
marks_in_lem (wants w l ls) = all_marks (l ∷ ls)
marks_in_lem (target a l ls) = all_marks (l ∷ ls)
marks_in_lem (assigning a l ls) = all_marks (l ∷ ls)
marks_in_lem (printing l ls) = all_marks (l ∷ ls)
marks_in_lem (testing r l ls) = all_marks (l ∷ ls)
marks_in_lem (after b p l ls) = all_marks (l ∷ ls)

module _ (tag offset : List ℕ → ℕ) where
  -- however tags and strings are numbered, a program has as many bytes
  mutual
    statement_long : (t : TextStatement) → length (statement_bytes (statement_in tag offset t)) ≡ length (statement_bytes (statement_in (λ n. 0) (λ s. 0) t))
    statement_long (become a v) = refl
    statement_long (copy a b) = refl
    statement_long (recall a b) = refl
    statement_long reject = refl
    statement_long (print_start n) = refl
    statement_long (print_end n) = refl
    statement_long (print_text s) = refl
    statement_long (echo true) = refl
    statement_long (echo false) = refl
    statement_long (branch c p q) = ap suc (simp length-append (ap₂ (λ x y. length (condition_bytes c) + (x + y)) (program_long p) (program_long q)))

    program_long : (p : TextProgram) → length (program_bytes (program_in tag offset p)) ≡ size_of p
    program_long done = refl
    program_long (step t p) = simp length-append (ap₂ ◌+◌ (statement_long t) (program_long p))

  body_long : (p : TextProgram) → suc (length (body_bytes tag offset p)) ≡ size_of p
  body_long p = omega (arith, program_long p, ap length (whole_bytes tag offset p), length-append (body_bytes tag offset p) (0 ∷ []))

  -- the shortest continuation has the bytes so far, and more
  around_long : (ls : List ListLevel) (p : TextProgram) → length (front_of tag offset ls ++ body_bytes tag offset p) ≤ length (body_bytes tag offset (around_list ls p))
  around_long [] p = omega arith
  around_long (l ∷ ls) p =
      omega (arith, around_long ls (listed l p), ap length (listed_bytes tag offset l ls p), length-append (front_of tag offset (l ∷ ls) ++ body_bytes tag offset p) (replicate (owed (marks_of (l ∷ ls))) 0))

  front_long : (ls : List ListLevel) (p : TextProgram) → length (front_of tag offset ls) ≤ length (body_bytes tag offset (around_list ls p))
  front_long ls p = omega (arith, around_long ls p, length-append (front_of tag offset ls) (body_bytes tag offset p))

whole_read : (xs : List ℕ) (l : conditions.ConditionLevel) (ls : List conditions.ConditionLevel) (c : Condition) → levels_on xs (l ∷ ls) ++ condition_bytes c ≡ levels_on xs ls ++ condition_bytes (conditions.whole_condition l c)
whole_read xs l ls c = got_bytes xs l ls c ∙ ap (λ z. levels_on xs ls ++ z) (sym (or_bytes l.or_left (conditions.up_to_and l c)))

around_read : (xs : List ℕ) (ls : List conditions.ConditionLevel) (c : Condition) → levels_on xs ls ++ condition_bytes c ≡ xs ++ condition_bytes (conditions.around_condition ls c)
around_read xs [] c = refl
around_read xs (l ∷ ls) c = whole_read xs l ls c ∙ around_read xs ls (conditions.whole_condition l c)

compared_long : (xs : List ℕ) (x : Operand) (l : conditions.ConditionLevel) (ls : List conditions.ConditionLevel)
    → length (levels_on xs (l ∷ ls) ++ 0 ∷ operand_bytes x) ≤ length (xs ++ condition_bytes (conditions.around_condition (l ∷ ls) (equal x (constant 0))))
compared_long xs x l ls =
    omega (
      arith,
      ap length (around_read xs (l ∷ ls) (equal x (constant 0))),
      length-append (levels_on xs (l ∷ ls)) (0 ∷ (operand_bytes x ++ 0 ∷ 0 ∷ [])),
      length-append (levels_on xs (l ∷ ls)) (0 ∷ operand_bytes x),
      length-append (operand_bytes x) (0 ∷ 0 ∷ []),
    )

reading_long : (xs : List ℕ) (r : Reading) → length (reading_on xs r) ≤ length (xs ++ condition_bytes (finished_of r))
reading_long xs (Reading.wants l ls) = let c = equal (constant 0) (constant 0) in omega (arith, ap length (around_read xs (l ∷ ls) c), length-append (levels_on xs (l ∷ ls)) (condition_bytes c))
reading_long xs (Reading.compares x l ls) = compared_long xs x l ls
reading_long xs (Reading.wants_other x l ls) = compared_long xs x l ls
reading_long xs (Reading.after d o ls) = omega (arith, ap length (around_read xs ls (disjoined o d)), ap (λ z. length (levels_on xs ls ++ z)) (or_bytes o d))

module _ (tag offset : List ℕ → ℕ) where
  -- nothing stands before the place where a list opens
  no_bytes : (p : TextProgram) → program_extent p ≡ vacant → body_bytes tag offset p ≡ []
  no_bytes p e = empty (body_bytes tag offset p) (omega (arith, body_long tag offset p, ap (λ x. x.bytes) e))
    where
      empty : (ys : List ℕ) → length ys ≤ 0 → ys ≡ []
      empty [] h = refl
      empty (y ∷ ys) h = absurd (omega arith)

  opens_blank : (before : TextProgram) (fs : List Pending) (ls : List Layer) → PlaceFirm opening (layers_on fs (among (program_extent before) ∷ ls)) → body_bytes tag offset (listed (list_level before fs) done) ≡ []
  opens_blank before [] ls h = then_bytes tag offset before done ∙ (append-nil (body_bytes tag offset before) ∙ no_bytes before h)
  opens_blank before (in_then c ∷ fs) ls h = absurd h
  opens_blank before (in_else c q ∷ fs) ls h = absurd h

  pub blank_in : (q : Listing) → SoundOutline (outline q) → BlankIn tag offset q
  blank_in (wants opening l ls) h = opens_blank l.before l.ifs (layers_of ls) h.stage_firm
  blank_in (wants separated l ls) h = tt
  blank_in (wants branching l ls) h = tt
  blank_in (target a l ls) h = tt
  blank_in (assigning a l ls) h = tt
  blank_in (printing l ls) h = tt
  blank_in (testing r l ls) h = tt
  blank_in (after b p l ls) h = tt

  opening_long : (l : ListLevel) (ls : List ListLevel) → OpensBlank tag offset opening l → length (front_of tag offset (l ∷ ls)) ≤ length (body_bytes tag offset (around_list ls done))
  opening_long l ls b =
      omega (arith, around_long tag offset ls done, ap length (listed_bytes tag offset l ls done), ap (λ z. length (front_of tag offset ls ++ z)) b, length-append (front_of tag offset (l ∷ ls) ++ []) (replicate (owed (marks_of (l ∷ ls))) 0), ap length (append-nil (front_of tag offset (l ∷ ls))))

  branch_long : (c : Condition) → length (body_bytes tag offset (only (branch c done done))) ≡ 3 + length (condition_bytes c)
  branch_long c = simp length-append (omega arith)

  test_long : (r : Reading) (l : ListLevel) (ls : List ListLevel) → length (reading_on (test_front tag offset (l ∷ ls)) r) ≤ length (body_bytes tag offset (around_list (l ∷ ls) (only (branch (finished_of r) done done))))
  test_long r l ls =
      omega (
        arith,
        reading_long (test_front tag offset (l ∷ ls)) r,
        around_long tag offset (l ∷ ls) (only (branch (finished_of r) done done)),
        branch_long (finished_of r),
        length-append (test_front tag offset (l ∷ ls)) (condition_bytes (finished_of r)),
        length-append (front_of tag offset (l ∷ ls)) (10 ∷ []),
        length-append (front_of tag offset (l ∷ ls)) (body_bytes tag offset (only (branch (finished_of r) done done))),
      )

  ink_long : (q : Listing) → BlankIn tag offset q → length (ink_of tag offset q) ≤ length (body_bytes tag offset (finished_list q))
  ink_long (wants opening l ls) b = opening_long l ls b
  ink_long (wants separated l ls) b = front_long tag offset (l ∷ ls) (only reject)
  ink_long (wants branching l ls) b = front_long tag offset (l ∷ ls) done
  ink_long (target a l ls) b = front_long tag offset (l ∷ ls) (only (become a 0))
  ink_long (assigning a l ls) b = front_long tag offset (l ∷ ls) (only (become a 0))
  ink_long (printing l ls) b = front_long tag offset (l ∷ ls) (only (print_start (97 ∷ [])))
  ink_long (testing r l ls) b = test_long r l ls
  ink_long (after c p l ls) b = around_long tag offset (l ∷ ls) p

  pub fits : (q : Listing) → SoundOutline (outline q) → ProgramWithin (finished_list q) → Fits tag offset q
  fits q h w =
      record { few_bytes = omega (arith, ink_long q (blank_in q h), body_long tag offset (finished_list q), w.short); few_marks = omega (arith, marks_in_lem q, few_layers (outline q) h (within_out q w)) }

  drawn_on : (m : Option Listing) (q : Listing) (s : Inks) → m ≡ some q → DrawnIf tag offset m s → Fits tag offset q → DrawnInk tag offset q s
  drawn_on m q s e h f = subst (λ x. DrawnIf tag offset x s) e h f

  goes_on : (b : Bool) (q q' : Listing) (t : TextToken) (st : Stroke) (s : Inks) → InksAre tag offset q s → TokenFits t → TokenDoes tag offset (which_visit b) t st → MachineKeeps (which_visit b) q t q' → InksAre tag offset q' (inked st s)
  goes_on b q q' t st s i g h k =
      let sound : SoundOutline (outline q') = stays_sound (which_visit b) (outline q) (outline q') (token_kind t) i.sound ((keeps_alike (which_visit b) q t g).0 q' k).taken in
      record { drawn = drawn_on (step_statements (which_visit b) q t) q' (inked st s) k.taken (steps_drawn tag offset (which_visit b) q t st s i.drawn (blank_in q i.sound) h) (fits q' sound k.within); sound = sound; within = k.within }

  -- the list ends, and the program with it
  sealed_list : (l : ListLevel) (p r : TextProgram) (s : Inks) → s.bytes ≡ front_of tag offset (l ∷ []) ++ body_bytes tag offset p → s.marks ≡ marks_of (l ∷ [])
      → body_bytes tag offset (listed l p) ≡ body_bytes tag offset r → size_of r ≤ longest_program → sealed_bytes s ≡ program_bytes (program_in tag offset r)
  sealed_list l p r s e g h f =
      ap (λ m. written_on s.bytes (replicate (suc (owed m)) 0)) g
      ∙ grown (replicate (suc (owed (marks_of (l ∷ [])))) 0) (program_bytes (program_in tag offset r)) e (zero_behind ∙ sym (whole_bytes tag offset r)) (omega (arith, program_long tag offset r))
    where
      zero_behind : (front_of tag offset (l ∷ []) ++ body_bytes tag offset p) ++ replicate (suc (owed (marks_of (l ∷ [])))) 0 ≡ body_bytes tag offset r ++ 0 ∷ []
      zero_behind =
          ap (λ z. (front_of tag offset (l ∷ []) ++ body_bytes tag offset p) ++ z) (sym (at_either_end (owed (marks_of (l ∷ []))) 0 [] ∙ ap (λ z. 0 ∷ z) (append-nil (replicate (owed (marks_of (l ∷ []))) 0))))
          ∙ (sym (append_assoc (front_of tag offset (l ∷ []) ++ body_bytes tag offset p) (replicate (owed (marks_of (l ∷ []))) 0) (0 ∷ []))
          ∙ ap (λ z. z ++ 0 ∷ []) (listed_bytes tag offset l [] p ∙ h))

some_is : {p r : TextProgram} → ◌≡◌ {A = Option TextProgram} (some p) (some r) → p ≡ r
some_is e = cc

pub starts_blank : StartsBlank
starts_blank tag offset = record { drawn = record { bytes_are = refl; marks_are = refl; stage_is = refl }; sound = starts_sound; within = record { short = omega arith; shallow = omega arith } }

pub tokens_draw : TokensDraw
tokens_draw tag offset b q q' t s i h g k = goes_on tag offset b q q' t _ s i g (token_does tag offset b t h g) k

pub items_draw : ItemsDraw
items_draw tag offset b q q' t place s i h g k = goes_on tag offset b q q' t _ s i g (item_does tag offset b t place h g) k

pub seals_whole : SealsWhole
seals_whole tag offset (wants opening l []) p s i e = subst (λ r. sealed_bytes s ≡ program_bytes (program_in tag offset r)) (some_is e) (sealed_list tag offset l done done s (i.drawn.bytes_are ∙ sym (append-nil (front_of tag offset (l ∷ [])))) i.drawn.marks_are (blank_in tag offset (wants opening l []) i.sound) (omega arith))
seals_whole tag offset (wants opening l (m ∷ ls)) p s i e = absurd (let z : ◌≡◌ {A = ℕ} 0 1 = cc in omega arith)
seals_whole tag offset (wants separated l ls) p s i e = absurd (let z : ◌≡◌ {A = ℕ} 0 1 = cc in omega arith)
seals_whole tag offset (wants branching l ls) p s i e = absurd (let z : ◌≡◌ {A = ℕ} 0 1 = cc in omega arith)
seals_whole tag offset (target a l ls) p s i e = absurd (let z : ◌≡◌ {A = ℕ} 0 1 = cc in omega arith)
seals_whole tag offset (assigning a l ls) p s i e = absurd (let z : ◌≡◌ {A = ℕ} 0 1 = cc in omega arith)
seals_whole tag offset (printing l ls) p s i e = absurd (let z : ◌≡◌ {A = ℕ} 0 1 = cc in omega arith)
seals_whole tag offset (testing r l ls) p s i e = absurd (let z : ◌≡◌ {A = ℕ} 0 1 = cc in omega arith)
seals_whole tag offset (after b r l []) p s i e = subst (λ x. sealed_bytes s ≡ program_bytes (program_in tag offset x)) (some_is e) (sealed_list tag offset l r (listed l r) s i.drawn.bytes_are i.drawn.marks_are refl i.within.short)
seals_whole tag offset (after b r l (m ∷ ls)) p s i e = absurd (let z : ◌≡◌ {A = ℕ} 0 1 = cc in omega arith)
