-- The machine of statements goes through every list of statements. Assumes nothing.
use mathlib.Core.Path.{◌≡◌, refl, sym, ◌∙◌, ap, subst}
use mathlib.Core.Bool.{Bool, true, false}
use mathlib.Core.Option.{Option, none, some}
use mathlib.Core.List.{List, [], ◌∷◌, ◌++◌, append_assoc, append-nil}
use Prim.Native.Nat.{ℕ, suc, ◌+◌, ◌≤◌}
use native.Mathlib.Omega.{arith}
use lib.ListN.{length}
use Rattle.programs.specs.Program.{Operand, Condition}
use Rattle.programs.specs.Limits.{Visit, first, second, is_first}
use Rattle.notation.specs.Program.{TextStatement, echo, reject, branch, TextProgram, done, step, ◌then◌}
use Rattle.notation.specs.Tokens.{TextToken, word, Keyword, PRINT, IF, THEN, ELSE, BEGIN, END, ECHO, ECHO-OFF, sign, ASSIGNED, SEMICOLON}
use Rattle.notation.specs.Conditions.{CurrentIs, of_either, of_first, of_second, OperandIs, ConditionIs}
use Rattle.notation.specs.Statements.{parentheses, only, assigned, ItemIs, a_start, an_end, both_tags, a_text, ItemsAre, StatementIs, echo_on, echo_off, rejects, prints, assigns, if_then, if_else, BranchIs, bare, block, ListIs, empty, some, SomeAre, one, more}
use Rattle.reading.specs.Machine.{and_then, walk}
use Rattle.reading.specs.Tests.{tag_name?, string?}
use Rattle.reading.specs.Conditions.{Reading, fresh_condition, disjoined, step_condition, value_of_condition, attribute?, part_of}
use Rattle.reading.specs.Statements.{Start, simply, a_target, start_if, target_if, start_of, Behind, an_item, item_if, behind_of, Pending, in_then, in_else, ended_branch, ended_all, otherwise, ListLevel, list_level, listed, around_list, Place, opening, separated, branching, Listing, wants, target, assigning, printing, testing, after, unblocked, blocked, started_list, elsed, followed, printed, targeted, assigned_by, thenned, tested, step_statements, empty_list_value, whole_list_value, value_of_list}
use Rattle.reading.proofs.Telling.{none≢some}
use Rattle.reading.proofs.Programs.{then_assoc}
use Rattle.reading.proofs.ConditionWalk.{operand_part, condition_walk}

target_if_lem : {P : Type 0} (d : Dec P) (a : ℕ) → P → target_if d true a ≡ a_target a
target_if_lem (yes h) a p = refl
target_if_lem (no h) a p = absurd (h p)

current_start : {a : ℕ} {v : Visit} {t : TextToken} → CurrentIs a v t → start_of v t ≡ a_target a
current_start {a} (of_either h) = target_if_lem (attribute? a) a h
current_start {a} (of_first h) = target_if_lem (attribute? a) a h
current_start {a} (of_second h) = target_if_lem (attribute? a) a h

item_if_lem : {P : Type 0} (d : Dec P) (p : TextProgram) → P → item_if d p ≡ an_item p
item_if_lem (yes h) p q = refl
item_if_lem (no h) p q = absurd (h q)

item_next : {t : TextToken} {p : TextProgram} → ItemIs t p → behind_of t ≡ an_item p
item_next (a_start {n = n} h) = item_if_lem (tag_name? n) _ h
item_next (an_end {n = n} h) = item_if_lem (tag_name? n) _ h
item_next (both_tags {n = n} h) = item_if_lem (tag_name? n) _ h
item_next (a_text {cs = cs} h) = item_if_lem (string? cs) _ h

-- ifs that all are in their second branch
abbrev AllElse : List Pending → Type 0
AllElse [] = Unit {0}
AllElse (in_then c ∷ fs) = ⊥
AllElse (in_else c q ∷ fs) = AllElse fs

all_else : (fs gs : List Pending) → AllElse fs → AllElse gs → AllElse (fs ++ gs)
all_else [] gs a b = b
all_else (in_then c ∷ fs) gs a b = absurd a
all_else (in_else c q ∷ fs) gs a b = all_else fs gs a b

otherwise_through : (fs gs : List Pending) (p : TextProgram) → AllElse fs → otherwise (fs ++ gs) p ≡ otherwise gs (ended_all fs p)
otherwise_through [] gs p a = refl
otherwise_through (in_then c ∷ fs) gs p a = absurd a
otherwise_through (in_else c q ∷ fs) gs p a = otherwise_through fs gs (ended_branch (in_else c q) p) a

ended_append : (fs gs : List Pending) (p : TextProgram) → ended_all (fs ++ gs) p ≡ ended_all gs (ended_all fs p)
ended_append [] gs p = refl
ended_append (f ∷ fs) gs p = ended_append fs gs (ended_branch f p)

module _ (v : Visit) where
  abbrev go : Listing → List TextToken → Option Listing
  go s ts = walk (step_statements v) s ts

  -- a condition is read by its own machine
  condition_lift : (r r' : Reading) (l : ListLevel) (ls : List ListLevel) (us rest : List TextToken) → walk (step_condition v parentheses) r us ≡ some r' → go (testing r l ls) (us ++ rest) ≡ go (testing r' l ls) rest
  condition_lift r r' l ls [] rest e = let same : r ≡ r' = cc in ap (λ x. go (testing x l ls) rest) same
  condition_lift r r' l ls (t ∷ us) rest e = on (λ x. condition_lift x r' l ls us rest) (step_condition v parentheses r t) refl
    where
      on : ((x : Reading) → walk (step_condition v parentheses) x us ≡ some r' → go (testing x l ls) (us ++ rest) ≡ go (testing r' l ls) rest)
          → (o : Option Reading) → step_condition v parentheses r t ≡ o → go (testing r l ls) (t ∷ (us ++ rest)) ≡ go (testing r' l ls) rest
      on ih none h = absurd (none≢some (ap (λ o. and_then o (λ x. walk (step_condition v parentheses) x us)) h) e)
      on ih (some x) h =
          ap (λ o. and_then (tested o (value_of_condition r) l ls (behind_of t)) (λ s. go s (us ++ rest))) h
          ∙ ih x (sym (ap (λ o. and_then o (λ y. walk (step_condition v parentheses) y us)) h) ∙ e)

  condition_then : {c : Condition} {ts : List TextToken} → ConditionIs v parentheses ts c → (l : ListLevel) (ls : List ListLevel) (rest : List TextToken)
      → go (testing (Reading.wants fresh_condition []) l ls) (ts ++ word THEN ∷ rest) ≡ go (wants branching (list_level l.before (in_then c ∷ l.ifs)) ls) rest
  condition_then {ts = ts} h l ls rest =
      let w = condition_walk v parentheses h [] [] (omega arith) in
      condition_lift (Reading.wants fresh_condition []) (Reading.after w.0 w.1 []) l ls ts (word THEN ∷ rest) (rw append-nil at w.3)
      ∙ ap (λ c. go (wants branching (list_level l.before (in_then c ∷ l.ifs)) ls) rest) w.2

  by_next : (b : Bool) (p : TextProgram) (l : ListLevel) (ls : List ListLevel) (t : TextToken) (rest : List TextToken) {k : Behind} → behind_of t ≡ k
      → go (after b p l ls) (t ∷ rest) ≡ and_then (followed b p l ls k) (λ s. go s rest)
  by_next b p l ls t rest e = ap (λ k. and_then (followed b p l ls k) (λ s. go s rest)) e

  more_items : {ts : List TextToken} {p : TextProgram} → ItemsAre ts p → (q : TextProgram) (l : ListLevel) (ls : List ListLevel) (rest : List TextToken)
      → go (after true q l ls) (ts ++ rest) ≡ go (after true (q then p) l ls) rest
  more_items (ItemsAre.one {t = t} i) q l ls rest = by_next true q l ls t rest (item_next i)
  more_items (ItemsAre.more {t = t} {ts = ts} {p = p} {q = r} i is) q l ls rest =
      by_next true q l ls t (ts ++ rest) (item_next i) ∙ more_items is (q then p) l ls rest ∙ ap (λ x. go (after true x l ls) rest) (then_assoc q p r)

  items_walk : {ts : List TextToken} {p : TextProgram} → ItemsAre ts p → (l : ListLevel) (ls : List ListLevel) (rest : List TextToken) → go (printing l ls) (ts ++ rest) ≡ go (after true p l ls) rest
  items_walk (ItemsAre.one {t = t} i) l ls rest = ap (λ k. and_then (printed l ls k) (λ s. go s rest)) (item_next i)
  items_walk (ItemsAre.more {t = t} {ts = ts} {p = p} i is) l ls rest = ap (λ k. and_then (printed l ls k) (λ s. go s (ts ++ rest))) (item_next i) ∙ more_items is p l ls rest

  -- where a statement leads: behind its last part, inside the ifs that it ends in
  record Walked (b : Bool) (p : TextProgram) (s : Listing) (l : ListLevel) (ls : List ListLevel) (ts rest : List TextToken) : Type 0 where
    frames : List Pending
    last : TextProgram
    prints_more : Bool
    closes : ended_all frames last ≡ p
    closed : b ≡ false → AllElse frames
    walked : go s (ts ++ rest) ≡ go (after prints_more last (list_level l.before (frames ++ l.ifs)) ls) rest

  at_once : (b b' : Bool) (p : TextProgram) (s : Listing) (l : ListLevel) (ls : List ListLevel) (ts rest : List TextToken) → go s (ts ++ rest) ≡ go (after b' p l ls) rest → Walked b p s l ls ts rest
  at_once b b' p s l ls ts rest e = record { frames = []; last = p; prints_more = b'; closes = refl; closed = λ h. tt; walked = e }

  -- one if more around it
  within : (f : Pending) (b b' : Bool) (p : TextProgram) (s s' : Listing) (l : ListLevel) (ls : List ListLevel) (ts us rest : List TextToken) → (b' ≡ false → AllElse (f ∷ [])) → (b' ≡ false → b ≡ false)
      → go s (ts ++ rest) ≡ go s' (us ++ rest) → Walked b p s' (list_level l.before (f ∷ l.ifs)) ls us rest → Walked b' (ended_branch f p) s l ls ts rest
  within f b b' p s s' l ls ts us rest a c e w = record {
    frames = w.frames ++ f ∷ [];
    last = w.last;
    prints_more = w.prints_more;
    closes = ended_append w.frames (f ∷ []) w.last ∙ ap (ended_branch f) w.closes;
    closed = λ h. all_else w.frames (f ∷ []) (w.closed (c h)) (a h);
    walked = e ∙ w.walked ∙ ap (λ fs. go (after w.prints_more w.last (list_level l.before fs) ls) rest) (sym (append_assoc w.frames (f ∷ []) l.ifs));
  }

  -- a state at which a list of statements may end
  pub record ListEnd (s : Listing) (ls : List ListLevel) (p : TextProgram) : Type 0 where
    pub end_step : step_statements v s (word END) ≡ unblocked ls p
    pub value_is : value_of_list s ≡ whole_list_value ls p

  else_step : (l : ListLevel) (ls : List ListLevel) (c : Condition) (fs : List Pending) (b : Bool) (last p : TextProgram) (rest : List TextToken) → AllElse fs → ended_all fs last ≡ p
      → go (after b last (list_level l.before (fs ++ in_then c ∷ l.ifs)) ls) (word ELSE ∷ rest) ≡ go (wants branching (list_level l.before (in_else c p ∷ l.ifs)) ls) rest
  else_step l ls c fs b last p rest a e =
      ap (λ o. and_then (elsed (list_level l.before (fs ++ in_then c ∷ l.ifs)) ls o) (λ s. go s rest)) (otherwise_through fs (in_then c ∷ l.ifs) last a)
      ∙ ap (λ x. go (wants branching (list_level l.before (in_else c x ∷ l.ifs)) ls) rest) e

  opening_ends : (ls : List ListLevel) → ListEnd (wants opening (list_level done []) ls) ls done
  opening_ends [] = record { end_step = refl; value_is = refl }
  opening_ends (l ∷ ls) = record { end_step = refl; value_is = refl }

  mutual
    statement_walk : {b : Bool} {ts : List TextToken} {p : TextProgram} → StatementIs v b ts p → (w : Place) (l : ListLevel) (ls : List ListLevel) (rest : List TextToken) → Walked b p (wants w l ls) l ls ts rest
    statement_walk (echo_on h) w l ls rest = at_once false false _ (wants w l ls) l ls (word ECHO ∷ []) rest (ap (λ x. and_then (started_list w l ls (start_if x (simply (echo true)))) (λ s. go s rest)) h)
    statement_walk (echo_off h) w l ls rest = at_once false false _ (wants w l ls) l ls (word ECHO-OFF ∷ []) rest (ap (λ x. and_then (started_list w l ls (start_if x (simply (echo false)))) (λ s. go s rest)) h)
    statement_walk rejects w l ls rest = at_once false false _ (wants w l ls) l ls _ rest refl
    statement_walk (prints {ts = ts} {p = p} is) w l ls rest = at_once false true p (wants w l ls) l ls (word PRINT ∷ ts) rest (items_walk is l ls rest)
    statement_walk (assigns {a = a} {s = s} {t = t} {x = x} {p = p} c o e) w l ls rest =
        at_once false false p (wants w l ls) l ls (s ∷ sign ASSIGNED ∷ t ∷ []) rest
        (ap (λ k. and_then (started_list w l ls k) (λ s. go s (sign ASSIGNED ∷ t ∷ rest))) (current_start c)
        ∙ ap (λ k. and_then (assigned_by a l ls k) (λ s. go s rest)) (operand_part o)
        ∙ ap (λ q. go (after false q l ls) rest) (sym e))
    statement_walk (if_then {b = b} {ts = ts} {us = us} {ws = ws} {c = c} {p = p} cond br e) w l ls rest =
        within (in_then c) b true p (wants w l ls) (wants branching (list_level l.before (in_then c ∷ l.ifs)) ls) l ls ws us rest
        (λ h. absurd (let z : ◌≡◌ {A = ℕ} 0 1 = cc in omega arith)) (λ h. absurd (let z : ◌≡◌ {A = ℕ} 0 1 = cc in omega arith))
        (ap (λ x. go (wants w l ls) (x ++ rest)) e ∙ ap (go (testing (Reading.wants fresh_condition []) l ls)) (append_assoc ts (word THEN ∷ us) rest) ∙ condition_then cond l ls (us ++ rest))
        (branch_walk br (list_level l.before (in_then c ∷ l.ifs)) ls rest)
    statement_walk (if_else {b = b} {ts = ts} {us = us} {ws = ws} {xs = xs} {c = c} {p = p} {q = q} cond br br' e) w l ls rest =
        let f = branch_walk br (list_level l.before (in_then c ∷ l.ifs)) ls (word ELSE ∷ (ws ++ rest)) in
        within (in_else c p) b b q (wants w l ls) (wants branching (list_level l.before (in_else c p ∷ l.ifs)) ls) l ls xs ws rest (λ h. tt) (λ h. h)
        (ap (λ x. go (wants w l ls) (x ++ rest)) e
        ∙ ap (go (testing (Reading.wants fresh_condition []) l ls)) (append_assoc ts (word THEN ∷ (us ++ word ELSE ∷ ws)) rest)
        ∙ condition_then cond l ls ((us ++ word ELSE ∷ ws) ++ rest)
        ∙ ap (go (wants branching (list_level l.before (in_then c ∷ l.ifs)) ls)) (append_assoc us (word ELSE ∷ ws) rest)
        ∙ f.walked
        ∙ else_step l ls c f.frames f.prints_more f.last p (ws ++ rest) (f.closed refl) f.closes)
        (branch_walk br' (list_level l.before (in_else c p ∷ l.ifs)) ls rest)

    branch_walk : {b : Bool} {ts : List TextToken} {p : TextProgram} → BranchIs v b ts p → (l : ListLevel) (ls : List ListLevel) (rest : List TextToken) → Walked b p (wants branching l ls) l ls ts rest
    branch_walk (bare s) l ls rest = statement_walk s branching l ls rest
    branch_walk (block {ts = ts} {ws = ws} {p = p} is e) l ls rest =
        let w = list_walk is (l ∷ ls) (word END ∷ rest) in
        at_once false false p (wants branching l ls) l ls ws rest
        (ap (λ x. go (wants branching l ls) (x ++ rest)) e
        ∙ ap (go (wants opening (list_level done []) (l ∷ ls))) (append_assoc ts (word END ∷ []) rest)
        ∙ w.1
        ∙ ap (λ o. and_then o (λ s. go s rest)) w.2.end_step)

    pub list_walk : {ts : List TextToken} {p : TextProgram} → ListIs v ts p → (ls : List ListLevel) (rest : List TextToken)
        → (s : Listing) × (go (wants opening (list_level done []) ls) (ts ++ rest) ≡ go s rest) × ListEnd s ls p
    list_walk empty ls rest = (wants opening (list_level done []) ls, refl, opening_ends ls)
    list_walk (some is) ls rest = some_walk is opening done ls rest

    some_walk : {ts : List TextToken} {p : TextProgram} → SomeAre v ts p → (w : Place) (q : TextProgram) (ls : List ListLevel) (rest : List TextToken)
        → (s : Listing) × (go (wants w (list_level q []) ls) (ts ++ rest) ≡ go s rest) × ListEnd s ls (q then p)
    some_walk (one {p = p} t) w q ls rest =
        let h = statement_walk t w (list_level q []) ls rest in
        let same : listed (list_level q (h.frames ++ [])) h.last ≡ q then p = ap (λ x. q then x) (rw append-nil h.closes) in
        (after h.prints_more h.last (list_level q (h.frames ++ [])) ls, h.walked, record { end_step = ap (unblocked ls) same; value_is = ap (whole_list_value ls) same })
    some_walk (more {ts = ts} {us = us} {p = p} {q = r} t is e f) w q ls rest =
        let h = statement_walk t w (list_level q []) ls (sign SEMICOLON ∷ (us ++ rest)) in
        let same : listed (list_level q (h.frames ++ [])) h.last ≡ q then p = ap (λ x. q then x) (rw append-nil h.closes) in
        let i = some_walk is separated (q then p) ls rest in (
          i.0,
          ap (λ x. go (wants w (list_level q []) ls) (x ++ rest)) e
              ∙ ap (go (wants w (list_level q []) ls)) (append_assoc ts (sign SEMICOLON ∷ us) rest)
              ∙ h.walked
              ∙ ap (λ x. go (wants separated (list_level x []) ls) (us ++ rest)) same
              ∙ i.1,
          subst (ListEnd i.0 ls) (then_assoc q p r ∙ ap (λ x. q then x) (sym f)) i.2,
        )
