-- The bytes of a program go on as the machine does, and the shortest continuation begins with them. Assumes nothing.
use mathlib.Core.Path.{◌≡◌, refl, sym, ◌∙◌, ap}
use mathlib.Core.Option.{Option, none, some}
use mathlib.Core.List.{List, [], ◌∷◌, ◌++◌, append-nil, append_assoc}
use Prim.Native.Nat.{ℕ, ◌+◌}
use lib.ListN.{replicate, replicate-append-replicate}
use Rattle.programs.specs.Program.{condition_bytes, statement_bytes, program_bytes}
use Rattle.notation.specs.Program.{TextProgram, done, step, ◌then◌, statement_in, program_in}
use Rattle.reading.specs.Statements.{Pending, in_then, in_else, ended_branch, ended_all, otherwise, ListLevel, listed, around_list}
use Rattle.strokes.specs.Bodies.{body_bytes, pending_bytes, ifs_on, front_of, mark_of, marks_on, marks_of}
use Rattle.strokes.specs.Strokes.{owed, unwound, else_owed, skipped, topped}

module _ (tag offset : List ℕ → ℕ) where
  pub whole_bytes : (p : TextProgram) → program_bytes (program_in tag offset p) ≡ body_bytes tag offset p ++ 0 ∷ []
  whole_bytes done = refl
  whole_bytes (step t p) = ap (λ z. statement_bytes (statement_in tag offset t) ++ z) (whole_bytes p) ∙ sym (append_assoc (statement_bytes (statement_in tag offset t)) (body_bytes tag offset p) (0 ∷ []))

  pub then_bytes : (p q : TextProgram) → body_bytes tag offset (p then q) ≡ body_bytes tag offset p ++ body_bytes tag offset q
  then_bytes done q = refl
  then_bytes (step t p) q = ap (λ z. statement_bytes (statement_in tag offset t) ++ z) (then_bytes p q) ∙ sym (append_assoc (statement_bytes (statement_in tag offset t)) (body_bytes tag offset p) (body_bytes tag offset q))

  -- an if ends
  abbrev end_of : Pending → List ℕ
  end_of (in_then c) = 0 ∷ 0 ∷ []
  end_of (in_else c q) = 0 ∷ []

  then_end : (c p : List ℕ) → (10 ∷ (c ++ ((p ++ 0 ∷ []) ++ 0 ∷ []))) ++ [] ≡ (10 ∷ c) ++ (p ++ 0 ∷ 0 ∷ [])
  then_end c p = append-nil (10 ∷ (c ++ ((p ++ 0 ∷ []) ++ 0 ∷ []))) ∙ ap (λ z. 10 ∷ (c ++ z)) (append_assoc p (0 ∷ []) (0 ∷ []))

  else_end : (c q p : List ℕ) → (10 ∷ (c ++ ((q ++ 0 ∷ []) ++ (p ++ 0 ∷ [])))) ++ [] ≡ (10 ∷ (c ++ (q ++ 0 ∷ []))) ++ (p ++ 0 ∷ [])
  else_end c q p = append-nil (10 ∷ (c ++ ((q ++ 0 ∷ []) ++ (p ++ 0 ∷ [])))) ∙ ap (λ z. 10 ∷ z) (sym (append_assoc c (q ++ 0 ∷ []) (p ++ 0 ∷ [])))

  ended_bytes : (f : Pending) (p : TextProgram) → body_bytes tag offset (ended_branch f p) ≡ pending_bytes tag offset f ++ (body_bytes tag offset p ++ end_of f)
  ended_bytes (in_then c) p = rw (whole_bytes p) (then_end (condition_bytes c) (body_bytes tag offset p))
  ended_bytes (in_else c q) p = rw (whole_bytes p, whole_bytes q) (else_end (condition_bytes c) (body_bytes tag offset q) (body_bytes tag offset p))

  end_marks : (f : Pending) (fs : List Pending) (ms : List ℕ) → end_of f ++ replicate (owed (marks_on fs ms)) 0 ≡ replicate (owed (mark_of f ∷ marks_on fs ms)) 0
  end_marks (in_then c) fs ms = replicate-append-replicate 2 (owed (marks_on fs ms)) 0
  end_marks (in_else c q) fs ms = replicate-append-replicate 1 (owed (marks_on fs ms)) 0

  five : (a b c d e : List ℕ) → (a ++ (b ++ (c ++ d))) ++ e ≡ ((a ++ b) ++ c) ++ (d ++ e)
  five a b c d e = simp append_assoc

  -- the ifs around a place end, and the 0s that they owe are put behind
  pub ended_all_lem : (xs : List ℕ) (fs : List Pending) (ms : List ℕ) (p : TextProgram)
      → (ifs_on tag offset xs fs ++ body_bytes tag offset p) ++ replicate (owed (marks_on fs (0 ∷ ms))) 0 ≡ xs ++ body_bytes tag offset (ended_all fs p)
  ended_all_lem xs [] ms p = append-nil (xs ++ body_bytes tag offset p)
  ended_all_lem xs (f ∷ fs) ms p =
      ap (λ z. ((ifs_on tag offset xs fs ++ pending_bytes tag offset f) ++ body_bytes tag offset p) ++ z) (sym (end_marks f fs (0 ∷ ms)))
      ∙ (sym (five (ifs_on tag offset xs fs) (pending_bytes tag offset f) (body_bytes tag offset p) (end_of f) (replicate (owed (marks_on fs (0 ∷ ms))) 0))
      ∙ (ap (λ z. (ifs_on tag offset xs fs ++ z) ++ replicate (owed (marks_on fs (0 ∷ ms))) 0) (sym (ended_bytes f p))
      ∙ ended_all_lem xs fs ms (ended_branch f p)))

  pub listed_bytes : (l : ListLevel) (ls : List ListLevel) (p : TextProgram)
      → (front_of tag offset (l ∷ ls) ++ body_bytes tag offset p) ++ replicate (owed (marks_of (l ∷ ls))) 0 ≡ front_of tag offset ls ++ body_bytes tag offset (listed l p)
  listed_bytes l ls p =
      ended_all_lem (front_of tag offset ls ++ body_bytes tag offset l.before) l.ifs (marks_of ls) p
      ∙ (append_assoc (front_of tag offset ls) (body_bytes tag offset l.before) (body_bytes tag offset (ended_all l.ifs p))
      ∙ ap (λ z. front_of tag offset ls ++ z) (sym (then_bytes l.before (ended_all l.ifs p))))

  -- an else
  abbrev pub ElsedAs : List ℕ → List Pending → List ℕ → TextProgram → Option (List Pending) → Type 0
  ElsedAs xs fs ms p none = Unit {0}
  ElsedAs xs fs ms p (some gs) =
      ((ifs_on tag offset xs fs ++ body_bytes tag offset p) ++ replicate (else_owed (marks_on fs ms)) 0 ≡ ifs_on tag offset xs gs)
      × (topped 1 (skipped (marks_on fs ms)) ≡ marks_on gs ms)

  else_in : (xs c p : List ℕ) → ((xs ++ 10 ∷ c) ++ p) ++ 0 ∷ [] ≡ xs ++ 10 ∷ (c ++ (p ++ 0 ∷ []))
  else_in xs c p = append_assoc (xs ++ 10 ∷ c) p (0 ∷ []) ∙ append_assoc xs (10 ∷ c) (p ++ 0 ∷ [])

  elsed_on : (xs : List ℕ) (c : _) (q : TextProgram) (fs : List Pending) (ms : List ℕ) (p : TextProgram) (o : Option (List Pending))
      → ElsedAs xs fs ms (ended_branch (in_else c q) p) o → ElsedAs xs (in_else c q ∷ fs) ms p o
  elsed_on xs c q fs ms p none h = tt
  elsed_on xs c q fs ms p (some gs) h = (
    sym (five (ifs_on tag offset xs fs) (pending_bytes tag offset (in_else c q)) (body_bytes tag offset p) (0 ∷ []) (replicate (else_owed (marks_on fs ms)) 0))
        ∙ (ap (λ z. (ifs_on tag offset xs fs ++ z) ++ replicate (else_owed (marks_on fs ms)) 0) (sym (ended_bytes (in_else c q) p)) ∙ h.0),
    h.1,
  )

  pub elsed : (xs : List ℕ) (fs : List Pending) (ms : List ℕ) (p : TextProgram) → ElsedAs xs fs ms p (otherwise fs p)
  elsed xs [] ms p = tt
  elsed xs (in_then c ∷ fs) ms p = (else_in (ifs_on tag offset xs fs) (condition_bytes c) (body_bytes tag offset p), refl)
  elsed xs (in_else c q ∷ fs) ms p = elsed_on xs c q fs ms p (otherwise fs (ended_branch (in_else c q) p)) (elsed xs fs ms (ended_branch (in_else c q) p))

  pub unwound_marks : (fs : List Pending) (ms : List ℕ) → unwound (marks_on fs (0 ∷ ms)) ≡ 0 ∷ ms
  unwound_marks [] ms = refl
  unwound_marks (in_then c ∷ fs) ms = unwound_marks fs ms
  unwound_marks (in_else c q ∷ fs) ms = unwound_marks fs ms
