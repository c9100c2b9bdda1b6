-- What the machine of statements has read: its lists, ifs and statements are those of the tokens so far. Assumes nothing.
use mathlib.Core.Path.{◌≡◌, refl, sym, ◌∙◌, ap, subst}
use mathlib.Core.Bool.{Bool, true, false}
use mathlib.Core.Option.{Option, none, some}
use mathlib.Core.List.{List, [], ◌∷◌, ◌++◌, append_assoc, append-nil}
use Prim.Native.Nat.{ℕ, zero, suc, ◌≤◌}
use native.Mathlib.Omega.{arith}
use lib.ListN.{length}
use Rattle.programs.specs.Program.{Operand, constant, Condition}
use Rattle.programs.specs.Limits.{Visit, first, second, is_first, Attribute}
use Rattle.notation.specs.Program.{TextStatement, become, reject, echo, branch, TextProgram, done, step, ◌then◌}
use Rattle.notation.specs.Tokens.{Dollar, plain, left, right, TextToken, nonterminal, value, attribute, name, start_tag, end_tag, empty_tag, string, word, Keyword, CHAR, ECHO, ECHO-OFF, REJECT, PRINT, IF, THEN, ELSE, BEGIN, END, AND, OR, NOT, EMPTY, sign, Sign, DEFINED, ASSIGNED, OPEN, CLOSE, BRACE, UNBRACE, DOT, BAR, STAR, SEMICOLON, EQUALS, TagName, StringOf}
use Rattle.notation.specs.Conditions.{CurrentIs, of_either, of_first, of_second, OperandIs, a_value, ConditionIs}
use Rattle.notation.specs.Statements.{parentheses, only, assigned, ItemIs, a_start, both_tags, a_text, ItemsAre, StatementIs, echo_on, echo_off, rejects, prints, assigns, if_then, if_else, BranchIs, bare, block, ListIs, empty, SomeAre}
use Rattle.reading.specs.Machine.{and_then, walk}
use Rattle.reading.specs.Tests.{tag_name?, string?}
use Rattle.reading.specs.Conditions.{ConditionPart, operand, a_not, an_and, an_or, an_open, a_close, an_equals, other, Reading, fresh_condition, step_condition, value_of_condition, finished_of, attribute?, part_of}
use Rattle.reading.specs.Statements.{Start, simply, a_target, a_print, an_if, a_begin, no_start, start_if, start_word, current?, target_if, start_of, Behind, an_item, a_semicolon, an_else, a_then, an_assign, nothing, item_if, next_word, next_sign, behind_of, Pending, in_then, in_else, ended_branch, ended_all, otherwise, ListLevel, list_level, listed, around_list, Place, opening, separated, branching, Listing, wants, target, assigning, printing, testing, after, unblocked, blocked, emptied, started_list, elsed, one_more, followed, printed, targeted, assigned_by, thenned, tested, step_statements, empty_list_value, whole_list_value, value_of_list, shortest_list, finished_list}
use Rattle.reading.proofs.Telling.{none≢some, IfSome}
use Rattle.reading.proofs.Programs.{then_assoc}
use Rattle.reading.proofs.ConditionHeld.{PartIs, part_is, Held as ConditionHeld, HeldIf as ConditionHeldIf, held_step as condition_held_step, held_start as condition_held_start, held_value as condition_held_value, held_shortest as condition_held_shortest, zero_is}

-- what a token is where a statement may begin
abbrev StartIs : Visit → TextToken → Start → Type 0
StartIs v t (simply s) = StatementIs v false (t ∷ []) (only s)
StartIs v t (a_target a) = CurrentIs a v t
StartIs v t a_print = t ≡ word PRINT
StartIs v t an_if = t ≡ word IF
StartIs v t a_begin = t ≡ word BEGIN
StartIs v t Start.an_end = t ≡ word END
StartIs v t no_start = Unit {0}

echo_start : (v : Visit) (b : Bool) → is_first v ≡ b → StartIs v (word ECHO) (start_if b (simply (echo true)))
echo_start v true e = echo_on e
echo_start v false e = tt

echo_off_start : (v : Visit) (b : Bool) → is_first v ≡ b → StartIs v (word ECHO-OFF) (start_if b (simply (echo false)))
echo_off_start v true e = echo_off e
echo_off_start v false e = tt

word_start : (v : Visit) (w : Keyword) → StartIs v (word w) (start_word v w)
word_start v CHAR = tt
word_start v ECHO = echo_start v (is_first v) refl
word_start v ECHO-OFF = echo_off_start v (is_first v) refl
word_start v REJECT = rejects
word_start v PRINT = refl
word_start v IF = refl
word_start v THEN = tt
word_start v ELSE = tt
word_start v BEGIN = refl
word_start v END = refl
word_start v AND = tt
word_start v OR = tt
word_start v NOT = tt
word_start v EMPTY = tt

attribute_start : (a : ℕ) (v : Visit) (m : Dollar) (d : Dec (Attribute a)) → StartIs v (attribute m a) (target_if d (current? v m) a)
attribute_start a v plain (yes h) = of_either h
attribute_start a v plain (no h) = tt
attribute_start a first left (yes h) = of_first h
attribute_start a first left (no h) = tt
attribute_start a second left (yes h) = tt
attribute_start a second left (no h) = tt
attribute_start a first right (yes h) = tt
attribute_start a first right (no h) = tt
attribute_start a second right (yes h) = of_second h
attribute_start a second right (no h) = tt

start_is : (v : Visit) (t : TextToken) → StartIs v t (start_of v t)
start_is v (nonterminal n) = tt
start_is v (value n) = tt
start_is v (attribute m a) = attribute_start a v m (attribute? a)
start_is v (name n) = tt
start_is v (start_tag n) = tt
start_is v (end_tag n) = tt
start_is v (empty_tag n) = tt
start_is v (string cs) = tt
start_is v (word w) = word_start v w
start_is v (sign s) = tt

-- what a token is behind a statement
abbrev pub NextIs : TextToken → Behind → Type 0
NextIs t (an_item p) = ItemIs t p
NextIs t a_semicolon = t ≡ sign SEMICOLON
NextIs t an_else = t ≡ word ELSE
NextIs t Behind.an_end = t ≡ word END
NextIs t a_then = t ≡ word THEN
NextIs t an_assign = t ≡ sign ASSIGNED
NextIs t nothing = Unit {0}

item_is : {P : Type 0} (t : TextToken) (p : TextProgram) → (P → ItemIs t p) → (d : Dec P) → NextIs t (item_if d p)
item_is t p f (yes h) = f h
item_is t p f (no h) = tt

next_word_lem : (w : Keyword) → NextIs (word w) (next_word w)
next_word_lem CHAR = tt
next_word_lem ECHO = tt
next_word_lem ECHO-OFF = tt
next_word_lem REJECT = tt
next_word_lem PRINT = tt
next_word_lem IF = tt
next_word_lem THEN = refl
next_word_lem ELSE = refl
next_word_lem BEGIN = tt
next_word_lem END = refl
next_word_lem AND = tt
next_word_lem OR = tt
next_word_lem NOT = tt
next_word_lem EMPTY = tt

next_sign_lem : (s : Sign) → NextIs (sign s) (next_sign s)
next_sign_lem DEFINED = tt
next_sign_lem ASSIGNED = refl
next_sign_lem OPEN = tt
next_sign_lem CLOSE = tt
next_sign_lem BRACE = tt
next_sign_lem UNBRACE = tt
next_sign_lem DOT = tt
next_sign_lem BAR = tt
next_sign_lem STAR = tt
next_sign_lem SEMICOLON = refl
next_sign_lem EQUALS = tt

pub next_is : (t : TextToken) → NextIs t (behind_of t)
next_is (nonterminal n) = tt
next_is (value n) = tt
next_is (attribute m a) = tt
next_is (name n) = tt
next_is (start_tag n) = item_is (start_tag n) _ (λ h. a_start h) (tag_name? n)
next_is (end_tag n) = item_is (end_tag n) _ (λ h. ItemIs.an_end h) (tag_name? n)
next_is (empty_tag n) = item_is (empty_tag n) _ (λ h. both_tags h) (tag_name? n)
next_is (string cs) = item_is (string cs) _ (λ h. a_text h) (string? cs)
next_is (word w) = next_word_lem w
next_is (sign s) = next_sign_lem s

one_item_more : {ts : List TextToken} {t : TextToken} {p q : TextProgram} → ItemsAre ts p → ItemIs t q → ItemsAre (ts ++ t ∷ []) (p then q)
one_item_more (ItemsAre.one i) j = ItemsAre.more i (ItemsAre.one j)
one_item_more {q = q} (ItemsAre.more {p = p} {q = r} i is) j = subst (ItemsAre _) (sym (then_assoc p r q)) (ItemsAre.more i (one_item_more is j))

pub a_is_a_name : TagName (97 ∷ [])
a_is_a_name = record { a_name = (refl, tt); short = omega arith }

module _ (v : Visit) where
  -- the statements before, each with its ;
  abbrev pub BeforeHeld : TextProgram → List TextToken → Type 0
  BeforeHeld p ts = (us : List TextToken) (q : TextProgram) → SomeAre v us q → SomeAre v (ts ++ us) (p then q)

  abbrev pub IfHeld : Pending → List TextToken → Type 0
  IfHeld (in_then c) ts = (us : List TextToken) × ConditionIs v parentheses us c × (ts ≡ word IF ∷ (us ++ word THEN ∷ []))
  IfHeld (in_else c p) ts = (us ws : List TextToken) × ConditionIs v parentheses us c × BranchIs v false ws p × (ts ≡ word IF ∷ (us ++ word THEN ∷ (ws ++ word ELSE ∷ [])))

  abbrev pub IfsHeld : List Pending → List TextToken → Type 0
  IfsHeld [] ts = ts ≡ []
  IfsHeld (f ∷ fs) ts = (us ws : List TextToken) × IfsHeld fs us × IfHeld f ws × (ts ≡ us ++ ws)

  abbrev pub Some : List Pending → Type 0
  Some [] = ⊥
  Some (f ∷ fs) = Unit {0}

  -- what may stand at a place: a statement in a list, a branch in an if
  abbrev pub SlotIs : List Pending → Bool → List TextToken → TextProgram → Type 0
  SlotIs [] b ts p = StatementIs v b ts p
  SlotIs (f ∷ fs) b ts p = BranchIs v b ts p

  slot_of : (fs : List Pending) (b : Bool) (ts : List TextToken) (p : TextProgram) → StatementIs v b ts p → SlotIs fs b ts p
  slot_of [] b ts p s = s
  slot_of (f ∷ fs) b ts p s = bare s

  slot_branch : (fs : List Pending) (b : Bool) (ts : List TextToken) (p : TextProgram) → Some fs → BranchIs v b ts p → SlotIs fs b ts p
  slot_branch [] b ts p n s = absurd n
  slot_branch (f ∷ fs) b ts p n s = s

  pub record LevelHeld (l : ListLevel) (ts : List TextToken) : Type 0 where
    pub befores : List TextToken
    pub ifs_at : List TextToken
    pub before_held : BeforeHeld l.before befores
    pub ifs_held : IfsHeld l.ifs ifs_at
    pub are : ts ≡ befores ++ ifs_at

  abbrev pub Around : List ListLevel → List TextToken → Type 0
  Around [] ts = ts ≡ []
  Around (l ∷ ls) ts = (us ws : List TextToken) × Around ls us × LevelHeld l ws × Some l.ifs × (ts ≡ us ++ (ws ++ word BEGIN ∷ []))

  pub record Slot (l : ListLevel) (ls : List ListLevel) (ts tail : List TextToken) : Type 0 where
    pub outer : List TextToken
    pub inner : List TextToken
    pub outer_held : Around ls outer
    pub inner_held : LevelHeld l inner
    pub are : ts ≡ outer ++ (inner ++ tail)

  abbrev pub PlaceHeld : Place → ListLevel → List ListLevel → List TextToken → Type 0
  PlaceHeld opening l ls ts = Around ls ts
  PlaceHeld separated l ls ts = Unit {0}
  PlaceHeld branching l ls ts = Some l.ifs

  abbrev pub BehindIs : Bool → List Pending → List TextToken → TextProgram → Type 0
  BehindIs true fs ts p = (us : List TextToken) × ItemsAre us p × (ts ≡ word PRINT ∷ us)
  BehindIs false fs ts p = SlotIs fs false ts p

  behind_slot : (b : Bool) (fs : List Pending) (ts : List TextToken) (p : TextProgram) → BehindIs b fs ts p → SlotIs fs false ts p
  behind_slot true fs ts p (us, is, e) = slot_of fs false ts p (subst (λ x. StatementIs v false x p) (sym e) (prints is))
  behind_slot false fs ts p s = s

  abbrev pub Held : Listing → List TextToken → Type 0
  Held (wants w l ls) ts = Slot l ls ts [] × PlaceHeld w l ls ts
  Held (target a l ls) ts = (t : TextToken) × CurrentIs a v t × Slot l ls ts (t ∷ [])
  Held (assigning a l ls) ts = (t : TextToken) × CurrentIs a v t × Slot l ls ts (t ∷ sign ASSIGNED ∷ [])
  Held (printing l ls) ts = Slot l ls ts (word PRINT ∷ [])
  Held (testing r l ls) ts = (us : List TextToken) × ConditionHeld v parentheses r us × Slot l ls ts (word IF ∷ us)
  Held (after b p l ls) ts = (us : List TextToken) × BehindIs b l.ifs us p × Slot l ls ts us

  abbrev pub HeldIf : Option Listing → List TextToken → Type 0
  HeldIf o ts = IfSome (λ s. Held s ts) o

  longer : {l : ListLevel} {ls : List ListLevel} {ts tail : List TextToken} → Slot l ls ts tail → (more : List TextToken) → Slot l ls (ts ++ more) (tail ++ more)
  longer h more = record { outer = h.outer; inner = h.inner; outer_held = h.outer_held; inner_held = h.inner_held; are = ap (λ w. w ++ more) h.are ∙ simp append_assoc }

  -- an if with its branch, ifs around a statement, and the statement of a whole place
  if_closed : (f : Pending) (b : Bool) (ws us : List TextToken) (p : TextProgram) → IfHeld f ws → BranchIs v b us p → (b' : Bool) × StatementIs v b' (ws ++ us) (ended_branch f p)
  if_closed (in_then c) b ws us p (ts, h, e) s = (true, if_then h s (ap (λ x. x ++ us) e ∙ ap (λ x. word IF ∷ x) (append_assoc ts (word THEN ∷ []) us)))
  if_closed (in_else c q) b ws us p (ts, xs, h, k, e) s =
      (b, if_else h k s (ap (λ x. x ++ us) e ∙ ap (λ x. word IF ∷ x) (append_assoc ts (word THEN ∷ (xs ++ word ELSE ∷ [])) us ∙ ap (λ x. ts ++ word THEN ∷ x) (append_assoc xs (word ELSE ∷ []) us))))

  ifs_closed : (fs : List Pending) (b : Bool) (ws us : List TextToken) (p : TextProgram) → IfsHeld fs ws → StatementIs v b us p → (b' : Bool) × StatementIs v b' (ws ++ us) (ended_all fs p)
  ifs_closed [] b ws us p h s = (b, rw h s)
  ifs_closed (f ∷ fs) b ws us p (xs, ys, h, k, e) s =
      let i = if_closed f b ys us p k (bare s) in
      let j = ifs_closed fs i.0 xs (ys ++ us) (ended_branch f p) h i.1 in
      (j.0, rw (e, append_assoc) j.1)

  slot_closed : (fs : List Pending) (b : Bool) (ws us : List TextToken) (p : TextProgram) → IfsHeld fs ws → SlotIs fs b us p → (b' : Bool) × StatementIs v b' (ws ++ us) (ended_all fs p)
  slot_closed [] b ws us p h s = (b, rw h s)
  slot_closed (f ∷ fs) b ws us p (xs, ys, h, k, e) s =
      let i = if_closed f b ys us p k s in
      let j = ifs_closed fs i.0 xs (ys ++ us) (ended_branch f p) h i.1 in
      (j.0, rw (e, append_assoc) j.1)

  level_listed : (l : ListLevel) (b : Bool) (ws us : List TextToken) (p : TextProgram) → LevelHeld l ws → SlotIs l.ifs b us p → SomeAre v (ws ++ us) (listed l p)
  level_listed l b ws us p h s =
      let c = slot_closed l.ifs b h.ifs_at us p h.ifs_held s in
      rw (h.are, append_assoc) (h.before_held (h.ifs_at ++ us) (ended_all l.ifs p) (SomeAre.one c.1))

  -- a list between begin and end, as a branch of the ifs around it
  list_closed : (ls : List ListLevel) (us ts : List TextToken) (p : TextProgram) → Around ls us → ListIs v ts p → (rest : List TextToken) × ListIs v (us ++ (ts ++ rest)) (around_list ls p)
  list_closed [] us ts p a s = ([], rw (a, append-nil) s)
  list_closed (l ∷ ls) us ts p (os, ws, a, h, n, e) s =
      let c = level_listed l false ws (word BEGIN ∷ (ts ++ word END ∷ [])) p h (slot_branch l.ifs false (word BEGIN ∷ (ts ++ word END ∷ [])) p n (block s refl)) in
      let r = list_closed ls os (ws ++ word BEGIN ∷ (ts ++ word END ∷ [])) (listed l p) a (ListIs.some c) in
      (word END ∷ r.0, rw e (simp append_assoc (simp append_assoc at r.1)))

  slot_finished : (b : Bool) (l : ListLevel) (ls : List ListLevel) (ts tail more : List TextToken) (p : TextProgram) → Slot l ls ts tail → SlotIs l.ifs b (tail ++ more) p
      → (rest : List TextToken) × ListIs v (ts ++ rest) (around_list (l ∷ ls) p)
  slot_finished b l ls ts tail more p h s =
      let r = list_closed ls h.outer (h.inner ++ (tail ++ more)) (listed l p) h.outer_held (ListIs.some (level_listed l b h.inner (tail ++ more) p h.inner_held s)) in
      (more ++ r.0, rw h.are (simp append_assoc (simp append_assoc at r.1)))

  -- an else goes to the nearest if that has none
  abbrev Elsed : Option (List Pending) → List TextToken → Type 0
  Elsed none ts = Unit {0}
  Elsed (some fs) ts = IfsHeld fs ts × Some fs

  else_held : (fs : List Pending) (ws us : List TextToken) (p : TextProgram) → IfsHeld fs ws → SlotIs fs false us p → Elsed (otherwise fs p) (ws ++ (us ++ word ELSE ∷ []))
  else_held [] ws us p h s = tt
  else_held (in_then c ∷ fs) ws us p (xs, ys, h, (ts, k, e'), e) s = (
    (
      xs,
      ys ++ (us ++ word ELSE ∷ []),
      h,
      (ts, us, k, s, ap (λ x. x ++ (us ++ word ELSE ∷ [])) e' ∙ ap (λ x. word IF ∷ x) (append_assoc ts (word THEN ∷ []) (us ++ word ELSE ∷ []))),
      ap (λ x. x ++ (us ++ word ELSE ∷ [])) e ∙ append_assoc xs ys (us ++ word ELSE ∷ []),
    ),
    tt,
  )
  else_held (in_else c q ∷ fs) ws us p (xs, ys, h, (ts, zs, k, b, e'), e) s =
      let st : StatementIs v false (ys ++ us) (ended_branch (in_else c q) p) =
      if_else k b s (ap (λ x. x ++ us) e' ∙ ap (λ x. word IF ∷ x) (append_assoc ts (word THEN ∷ (zs ++ word ELSE ∷ [])) us ∙ ap (λ x. ts ++ word THEN ∷ x) (append_assoc zs (word ELSE ∷ []) us))) in
      subst (Elsed (otherwise fs (ended_branch (in_else c q) p)))
      (ap (λ x. xs ++ x) (append_assoc ys us (word ELSE ∷ [])) ∙ sym (append_assoc xs ys (us ++ word ELSE ∷ [])) ∙ ap (λ x. x ++ (us ++ word ELSE ∷ [])) (sym e))
      (else_held fs xs (ys ++ us) (ended_branch (in_else c q) p) h (slot_of fs false (ys ++ us) _ st))

  nothing_before : LevelHeld (list_level done []) []
  nothing_before = record { befores = []; ifs_at = []; before_held = λ us q s. s; ifs_held = refl; are = refl }

  -- a list that is read, and an end behind it
  unblock_held : (ls : List ListLevel) (us ts ws : List TextToken) (p : TextProgram) → Around ls us → ListIs v ws p → ts ≡ us ++ ws → HeldIf (unblocked ls p) (ts ++ word END ∷ [])
  unblock_held [] us ts ws p a s e = tt
  unblock_held (l ∷ ls) us ts ws p (os, xs, a, h, n, e') s e = (
    word BEGIN ∷ (ws ++ word END ∷ []),
    slot_branch l.ifs false (word BEGIN ∷ (ws ++ word END ∷ [])) p n (block s refl),
    record { outer = os; inner = xs; outer_held = a; inner_held = h; are = ap (λ x. x ++ word END ∷ []) (e ∙ ap (λ x. x ++ ws) e') ∙ simp append_assoc },
  )

  begin_held : (w : Place) (l : ListLevel) (ls : List ListLevel) (ts : List TextToken) → Slot l ls ts [] → PlaceHeld w l ls ts → HeldIf (blocked w l ls) (ts ++ word BEGIN ∷ [])
  begin_held opening l ls ts h k = tt
  begin_held separated l ls ts h k = tt
  begin_held branching l ls ts h k =
      let a : Around (l ∷ ls) (ts ++ word BEGIN ∷ []) = (h.outer, h.inner, h.outer_held, h.inner_held, k, ap (λ x. x ++ word BEGIN ∷ []) h.are ∙ simp (append_assoc, append-nil)) in
      (record { outer = ts ++ word BEGIN ∷ []; inner = []; outer_held = a; inner_held = nothing_before; are = sym (append-nil (ts ++ word BEGIN ∷ [])) }, a)

  end_held : (w : Place) (l : ListLevel) (ls : List ListLevel) (ts : List TextToken) → PlaceHeld w l ls ts → HeldIf (emptied w l ls) (ts ++ word END ∷ [])
  end_held opening l ls ts k = unblock_held ls ts ts [] done k empty (sym (append-nil ts))
  end_held separated l ls ts k = tt
  end_held branching l ls ts k = tt

  start_held : (w : Place) (l : ListLevel) (ls : List ListLevel) (k : Start) (t : TextToken) (ts : List TextToken) → StartIs v t k → Slot l ls ts [] → PlaceHeld w l ls ts → HeldIf (started_list w l ls k) (ts ++ t ∷ [])
  start_held w l ls (simply s) t ts i h p = (t ∷ [], slot_of l.ifs false (t ∷ []) (only s) i, longer h (t ∷ []))
  start_held w l ls (a_target a) t ts i h p = (t, i, longer h (t ∷ []))
  start_held w l ls a_print t ts i h p = rw i (longer h (word PRINT ∷ []))
  start_held w l ls an_if t ts i h p = rw i ([], condition_held_start v parentheses, longer h (word IF ∷ []))
  start_held w l ls a_begin t ts i h p = rw i (begin_held w l ls ts h p)
  start_held w l ls Start.an_end t ts i h p = rw i (end_held w l ls ts p)
  start_held w l ls no_start t ts i h p = tt

  item_held : (b : Bool) (p q : TextProgram) (l : ListLevel) (ls : List ListLevel) (t : TextToken) (us ts : List TextToken) → ItemIs t q → BehindIs b l.ifs us p → Slot l ls ts us → HeldIf (one_more b p q l ls) (ts ++ t ∷ [])
  item_held false p q l ls t us ts i s h = tt
  item_held true p q l ls t us ts i (xs, is, e) h = (us ++ t ∷ [], (xs ++ t ∷ [], one_item_more is i, ap (λ x. x ++ t ∷ []) e), longer h (t ∷ []))

  semicolon_held : (p : TextProgram) (l : ListLevel) (ls : List ListLevel) (us ts : List TextToken) → SlotIs l.ifs false us p → Slot l ls ts us → Slot (list_level (listed l p) []) ls (ts ++ sign SEMICOLON ∷ []) []
  semicolon_held p l ls us ts s h =
      let i = h.inner_held in
      let c = slot_closed l.ifs false i.ifs_at us p i.ifs_held s in
      let separated_by : BeforeHeld (listed l p) (i.befores ++ ((i.ifs_at ++ us) ++ sign SEMICOLON ∷ [])) =
      λ ws q m.
      subst (SomeAre v ((i.befores ++ ((i.ifs_at ++ us) ++ sign SEMICOLON ∷ [])) ++ ws)) (sym (then_assoc l.before (ended_all l.ifs p) q))
      (simp append_assoc (simp append_assoc at (i.before_held ((i.ifs_at ++ us) ++ sign SEMICOLON ∷ ws) (ended_all l.ifs p then q) (SomeAre.more c.1 m refl refl)))) in
      record {
        outer = h.outer;
        inner = i.befores ++ ((i.ifs_at ++ us) ++ sign SEMICOLON ∷ []);
        outer_held = h.outer_held;
        inner_held = record { befores = i.befores ++ ((i.ifs_at ++ us) ++ sign SEMICOLON ∷ []); ifs_at = []; before_held = separated_by; ifs_held = refl; are = sym (append-nil (i.befores ++ ((i.ifs_at ++ us) ++ sign SEMICOLON ∷ []))) };
        are = ap (λ x. x ++ sign SEMICOLON ∷ []) (h.are ∙ ap (λ x. h.outer ++ (x ++ us)) i.are) ∙ simp (append_assoc, append-nil);
      }

  else_on : (l : ListLevel) (ls : List ListLevel) (us ts : List TextToken) (o : Option (List Pending)) (h : Slot l ls ts us) → Elsed o (h.inner_held.ifs_at ++ (us ++ word ELSE ∷ [])) → HeldIf (elsed l ls o) (ts ++ word ELSE ∷ [])
  else_on l ls us ts none h e = tt
  else_on l ls us ts (some fs) h (k, n) =
      let i = h.inner_held in (
        record {
          outer = h.outer;
          inner = i.befores ++ (i.ifs_at ++ (us ++ word ELSE ∷ []));
          outer_held = h.outer_held;
          inner_held = record { befores = i.befores; ifs_at = i.ifs_at ++ (us ++ word ELSE ∷ []); before_held = i.before_held; ifs_held = k; are = refl };
          are = ap (λ x. x ++ word ELSE ∷ []) (h.are ∙ ap (λ x. h.outer ++ (x ++ us)) i.are) ∙ simp (append_assoc, append-nil);
        },
        n,
      )

  follow_held : (b : Bool) (p : TextProgram) (l : ListLevel) (ls : List ListLevel) (k : Behind) (t : TextToken) (us ts : List TextToken) → NextIs t k → BehindIs b l.ifs us p → Slot l ls ts us → HeldIf (followed b p l ls k) (ts ++ t ∷ [])
  follow_held b p l ls (an_item q) t us ts i s h = item_held b p q l ls t us ts i s h
  follow_held b p l ls a_semicolon t us ts i s h = rw i (semicolon_held p l ls us ts (behind_slot b l.ifs us p s) h, tt)
  follow_held b p l ls an_else t us ts i s h =
      rw i (else_on l ls us ts (otherwise l.ifs p) h (else_held l.ifs h.inner_held.ifs_at us p h.inner_held.ifs_held (behind_slot b l.ifs us p s)))
  follow_held b p l ls Behind.an_end t us ts i s h =
      rw i (unblock_held ls h.outer ts (h.inner ++ us) (listed l p) h.outer_held (ListIs.some (level_listed l false h.inner us p h.inner_held (behind_slot b l.ifs us p s))) h.are)
  follow_held b p l ls a_then t us ts i s h = tt
  follow_held b p l ls an_assign t us ts i s h = tt
  follow_held b p l ls nothing t us ts i s h = tt

  print_held : (l : ListLevel) (ls : List ListLevel) (k : Behind) (t : TextToken) (ts : List TextToken) → NextIs t k → Slot l ls ts (word PRINT ∷ []) → HeldIf (printed l ls k) (ts ++ t ∷ [])
  print_held l ls (an_item q) t ts i h = (word PRINT ∷ t ∷ [], (t ∷ [], ItemsAre.one i, refl), longer h (t ∷ []))
  print_held l ls a_semicolon t ts i h = tt
  print_held l ls an_else t ts i h = tt
  print_held l ls Behind.an_end t ts i h = tt
  print_held l ls a_then t ts i h = tt
  print_held l ls an_assign t ts i h = tt
  print_held l ls nothing t ts i h = tt

  target_held : (a : ℕ) (l : ListLevel) (ls : List ListLevel) (k : Behind) (s t : TextToken) (ts : List TextToken) → NextIs t k → CurrentIs a v s → Slot l ls ts (s ∷ []) → HeldIf (targeted a l ls k) (ts ++ t ∷ [])
  target_held a l ls (an_item q) s t ts i c h = tt
  target_held a l ls a_semicolon s t ts i c h = tt
  target_held a l ls an_else s t ts i c h = tt
  target_held a l ls Behind.an_end s t ts i c h = tt
  target_held a l ls a_then s t ts i c h = tt
  target_held a l ls an_assign s t ts i c h = rw i (s, c, longer h (sign ASSIGNED ∷ []))
  target_held a l ls nothing s t ts i c h = tt

  assign_held : (a : ℕ) (l : ListLevel) (ls : List ListLevel) (k : ConditionPart) (s t : TextToken) (ts : List TextToken) → PartIs v t k → CurrentIs a v s → Slot l ls ts (s ∷ sign ASSIGNED ∷ []) → HeldIf (assigned_by a l ls k) (ts ++ t ∷ [])
  assign_held a l ls (operand x) s t ts i c h = (s ∷ sign ASSIGNED ∷ t ∷ [], slot_of l.ifs false (s ∷ sign ASSIGNED ∷ t ∷ []) (only (assigned a x)) (assigns c i refl), longer h (t ∷ []))
  assign_held a l ls a_not s t ts i c h = tt
  assign_held a l ls an_and s t ts i c h = tt
  assign_held a l ls an_or s t ts i c h = tt
  assign_held a l ls an_open s t ts i c h = tt
  assign_held a l ls a_close s t ts i c h = tt
  assign_held a l ls an_equals s t ts i c h = tt
  assign_held a l ls other s t ts i c h = tt

  then_held : (c : Condition) (l : ListLevel) (ls : List ListLevel) (us ts : List TextToken) → ConditionIs v parentheses us c → Slot l ls ts (word IF ∷ us)
      → Slot (list_level l.before (in_then c ∷ l.ifs)) ls (ts ++ word THEN ∷ []) []
  then_held c l ls us ts d h =
      let i = h.inner_held in
      record {
        outer = h.outer;
        inner = i.befores ++ (i.ifs_at ++ word IF ∷ (us ++ word THEN ∷ []));
        outer_held = h.outer_held;
        inner_held = record { befores = i.befores; ifs_at = i.ifs_at ++ word IF ∷ (us ++ word THEN ∷ []); before_held = i.before_held; ifs_held = (i.ifs_at, word IF ∷ (us ++ word THEN ∷ []), i.ifs_held, (us, d, refl), refl); are = refl };
        are = ap (λ x. x ++ word THEN ∷ []) (h.are ∙ ap (λ x. h.outer ++ (x ++ word IF ∷ us)) i.are) ∙ simp (append_assoc, append-nil);
      }

  thenned_held : (o : Option Condition) (l : ListLevel) (ls : List ListLevel) (k : Behind) (t : TextToken) (us ts : List TextToken) → NextIs t k → ((c : Condition) → o ≡ some c → ConditionIs v parentheses us c) → Slot l ls ts (word IF ∷ us)
      → HeldIf (thenned o l ls k) (ts ++ t ∷ [])
  thenned_held none l ls k t us ts i d h = tt
  thenned_held (some c) l ls (an_item q) t us ts i d h = tt
  thenned_held (some c) l ls a_semicolon t us ts i d h = tt
  thenned_held (some c) l ls an_else t us ts i d h = tt
  thenned_held (some c) l ls Behind.an_end t us ts i d h = tt
  thenned_held (some c) l ls a_then t us ts i d h = rw i (then_held c l ls us ts (d c refl) h, tt)
  thenned_held (some c) l ls an_assign t us ts i d h = tt
  thenned_held (some c) l ls nothing t us ts i d h = tt

  test_held : (q : Option Reading) (o : Option Condition) (l : ListLevel) (ls : List ListLevel) (k : Behind) (t : TextToken) (us ts : List TextToken) → ConditionHeldIf v parentheses q (us ++ t ∷ []) → NextIs t k
      → ((c : Condition) → o ≡ some c → ConditionIs v parentheses us c) → Slot l ls ts (word IF ∷ us) → HeldIf (tested q o l ls k) (ts ++ t ∷ [])
  test_held none o l ls k t us ts x i d h = thenned_held o l ls k t us ts i d h
  test_held (some r) o l ls k t us ts x i d h = (us ++ t ∷ [], x, longer h (t ∷ []))

  pub held_step : (s : Listing) (t : TextToken) (ts : List TextToken) → Held s ts → HeldIf (step_statements v s t) (ts ++ t ∷ [])
  held_step (wants w l ls) t ts (h, k) = start_held w l ls (start_of v t) t ts (start_is v t) h k
  held_step (target a l ls) t ts (s, c, h) = target_held a l ls (behind_of t) s t ts (next_is t) c h
  held_step (assigning a l ls) t ts (s, c, h) = assign_held a l ls (part_of v t) s t ts (part_is v t) c h
  held_step (printing l ls) t ts h = print_held l ls (behind_of t) t ts (next_is t) h
  held_step (testing r l ls) t ts (us, c, h) =
      test_held (step_condition v parentheses r t) (value_of_condition r) l ls (behind_of t) t us ts (condition_held_step v parentheses r t us c) (next_is t) (λ d e. condition_held_value v parentheses r us d c e) h
  held_step (after b p l ls) t ts (us, s, h) = follow_held b p l ls (behind_of t) t us ts (next_is t) s h

  pub held_start : Held (wants opening (list_level done []) []) []
  held_start = (record { outer = []; inner = []; outer_held = refl; inner_held = nothing_before; are = refl }, refl)

  empty_held : (w : Place) (l : ListLevel) (ls : List ListLevel) (ts : List TextToken) (p : TextProgram) → PlaceHeld w l ls ts → empty_list_value w ls ≡ some p → ListIs v ts p
  empty_held opening l [] ts p k e = let same : done ≡ p = cc in rw k (subst (ListIs v []) same empty)
  empty_held opening l (x ∷ ls) ts p k e = absurd (none≢some refl e)
  empty_held separated l ls ts p k e = absurd (none≢some refl e)
  empty_held branching l ls ts p k e = absurd (none≢some refl e)

  whole_held : (b : Bool) (q : TextProgram) (l : ListLevel) (ls : List ListLevel) (us ts : List TextToken) (p : TextProgram) → BehindIs b l.ifs us q → Slot l ls ts us → whole_list_value ls (listed l q) ≡ some p → ListIs v ts p
  whole_held b q l [] us ts p s h e =
      let same : listed l q ≡ p = cc in
      subst (ListIs v ts) same (rw (h.are, h.outer_held) (ListIs.some (level_listed l false h.inner us q h.inner_held (behind_slot b l.ifs us q s))))
  whole_held b q l (x ∷ ls) us ts p s h e = absurd (none≢some refl e)

  pub held_value : (s : Listing) (ts : List TextToken) (p : TextProgram) → Held s ts → value_of_list s ≡ some p → ListIs v ts p
  held_value (wants w l ls) ts p (h, k) e = empty_held w l ls ts p k e
  held_value (target a l ls) ts p h e = absurd (none≢some refl e)
  held_value (assigning a l ls) ts p h e = absurd (none≢some refl e)
  held_value (printing l ls) ts p h e = absurd (none≢some refl e)
  held_value (testing r l ls) ts p h e = absurd (none≢some refl e)
  held_value (after b q l ls) ts p (us, s, h) e = whole_held b q l ls us ts p s h e

  place_shortest : (w : Place) (l : ListLevel) (ls : List ListLevel) (ts : List TextToken) → Slot l ls ts [] → PlaceHeld w l ls ts → (rest : List TextToken) × ListIs v (ts ++ rest) (shortest_list w l ls)
  place_shortest opening l ls ts h k = list_closed ls ts [] done k empty
  place_shortest separated l ls ts h k = slot_finished false l ls ts [] (word REJECT ∷ []) (only reject) h (slot_of l.ifs false (word REJECT ∷ []) (only reject) rejects)
  place_shortest branching l ls ts h k =
      slot_finished false l ls ts [] (word BEGIN ∷ word END ∷ []) done h (slot_branch l.ifs false (word BEGIN ∷ word END ∷ []) done k (block empty refl))

  pub held_shortest : (s : Listing) (ts : List TextToken) → Held s ts → (rest : List TextToken) × ListIs v (ts ++ rest) (finished_list s)
  held_shortest (wants w l ls) ts (h, k) = place_shortest w l ls ts h k
  held_shortest (target a l ls) ts (s, c, h) =
      slot_finished false l ls ts (s ∷ []) (sign ASSIGNED ∷ value 0 ∷ []) (only (become a 0)) h (slot_of l.ifs false (s ∷ sign ASSIGNED ∷ value 0 ∷ []) (only (become a 0)) (assigns c (zero_is v parentheses) refl))
  held_shortest (assigning a l ls) ts (s, c, h) =
      slot_finished false l ls ts (s ∷ sign ASSIGNED ∷ []) (value 0 ∷ []) (only (become a 0)) h (slot_of l.ifs false (s ∷ sign ASSIGNED ∷ value 0 ∷ []) (only (become a 0)) (assigns c (zero_is v parentheses) refl))
  held_shortest (printing l ls) ts h =
      slot_finished false l ls ts (word PRINT ∷ []) (start_tag (97 ∷ []) ∷ []) _ h (slot_of l.ifs false (word PRINT ∷ start_tag (97 ∷ []) ∷ []) _ (prints (ItemsAre.one (a_start a_is_a_name))))
  held_shortest (testing r l ls) ts (us, c, h) =
      let d = condition_held_shortest v parentheses r us c in
      slot_finished true l ls ts (word IF ∷ us) (d.0 ++ word THEN ∷ word BEGIN ∷ word END ∷ []) (only (branch (finished_of r) done done)) h
      (slot_of l.ifs true (word IF ∷ (us ++ (d.0 ++ word THEN ∷ word BEGIN ∷ word END ∷ []))) (only (branch (finished_of r) done done))
      (if_then d.1 (block empty refl) (ap (λ x. word IF ∷ x) (sym (append_assoc us d.0 (word THEN ∷ word BEGIN ∷ word END ∷ []))))))
  held_shortest (after b p l ls) ts (us, s, h) =
      slot_finished false l ls ts us [] p h (subst (λ x. SlotIs l.ifs false x p) (sym (append-nil us)) (behind_slot b l.ifs us p s))
