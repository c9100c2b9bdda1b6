-- What the machine of conditions has read: its levels and operands are those of the tokens so far. Assumes nothing.
use mathlib.Core.Path.{◌≡◌, refl, sym, ◌∙◌, ap, subst}
use mathlib.Core.Bool.{Bool, true, false}
use mathlib.Core.Option.{Option, none, some}
use mathlib.Core.List.{List, [], ◌∷◌, ◌++◌, append_assoc, append-nil}
use Prim.Native.Nat.{ℕ, zero, suc, ◌+◌, ◌≤◌, ◌<◌}
use native.Mathlib.Omega.{arith}
use lib.Dec.{ltb}
use lib.ListN.{length}
use borrow.Author.Tests.{ltb-true}
use Rattle.programs.specs.Program.{Operand, constant, current, recalled, Condition, equal, negated, both, either}
use Rattle.programs.specs.Limits.{Visit, first, second, Value, Attribute}
use Rattle.notation.specs.Tokens.{Dollar, plain, left, right, TextToken, nonterminal, value, attribute, name, start_tag, end_tag, empty_tag, string, word, Keyword, CHAR, ECHO, ECHO-OFF, REJECT, PRINT, IF, THEN, ELSE, BEGIN, END, AND, OR, NOT, EMPTY, sign, Sign, DEFINED, ASSIGNED, OPEN, CLOSE, BRACE, UNBRACE, DOT, BAR, STAR, SEMICOLON, EQUALS}
use Rattle.notation.specs.Conditions.{CurrentIs, of_either, of_first, of_second, OperandIs, a_value, a_current, a_recalled, ConditionIs, no_or, or, BothIs, no_and, and, SingleIs, compared, not, parenthesised}
use Rattle.reading.specs.Machine.{and_then, walk}
use Rattle.reading.specs.Conditions.{ConditionPart, operand, a_not, an_and, an_or, an_open, a_close, an_equals, other, part_if, value?, attribute?, attribute_part, attribute_of, word_part, sign_part, part_of, ConditionLevel, condition_level, fresh_condition, disjoined, conjoined, negated_by, up_to_and, whole_condition, around_condition, Reading, wants, compares, wants_other, after, got, condition_opened, condition_closed, step_part, step_condition, value_of_condition, finished_of}
use Rattle.reading.proofs.Telling.{IfSome}

-- what a token's part says of it
abbrev pub PartIs : Visit → TextToken → ConditionPart → Type 0
PartIs v t (operand x) = OperandIs v t x
PartIs v t a_not = t ≡ word NOT
PartIs v t an_and = t ≡ word AND
PartIs v t an_or = t ≡ word OR
PartIs v t an_open = t ≡ sign OPEN
PartIs v t a_close = t ≡ sign CLOSE
PartIs v t an_equals = t ≡ sign EQUALS
PartIs v t other = Unit {0}

value_part : (v : Visit) (n : ℕ) (d : Dec (Value n)) → PartIs v (value n) (part_if d (constant n))
value_part v n (yes h) = a_value h
value_part v n (no h) = tt

module _ (a : ℕ) where
  attribute_part_lem : (v : Visit) (m : Dollar) (d : Dec (Attribute a)) → PartIs v (attribute m a) (attribute_part d (attribute_of v m a))
  attribute_part_lem v plain (yes h) = a_current (of_either h)
  attribute_part_lem v plain (no h) = tt
  attribute_part_lem first left (yes h) = a_current (of_first h)
  attribute_part_lem first left (no h) = tt
  attribute_part_lem second left (yes h) = a_recalled h
  attribute_part_lem second left (no h) = tt
  attribute_part_lem first right d = tt
  attribute_part_lem second right (yes h) = a_current (of_second h)
  attribute_part_lem second right (no h) = tt

word_part_lem : (v : Visit) (w : Keyword) → PartIs v (word w) (word_part w)
word_part_lem v CHAR = tt
word_part_lem v ECHO = tt
word_part_lem v ECHO-OFF = tt
word_part_lem v REJECT = tt
word_part_lem v PRINT = tt
word_part_lem v IF = tt
word_part_lem v THEN = tt
word_part_lem v ELSE = tt
word_part_lem v BEGIN = tt
word_part_lem v END = tt
word_part_lem v AND = refl
word_part_lem v OR = refl
word_part_lem v NOT = refl
word_part_lem v EMPTY = tt

sign_part_lem : (v : Visit) (s : Sign) → PartIs v (sign s) (sign_part s)
sign_part_lem v DEFINED = tt
sign_part_lem v ASSIGNED = tt
sign_part_lem v OPEN = refl
sign_part_lem v CLOSE = refl
sign_part_lem v BRACE = tt
sign_part_lem v UNBRACE = tt
sign_part_lem v DOT = tt
sign_part_lem v BAR = tt
sign_part_lem v STAR = tt
sign_part_lem v SEMICOLON = tt
sign_part_lem v EQUALS = refl

pub part_is : (v : Visit) (t : TextToken) → PartIs v t (part_of v t)
part_is v (nonterminal n) = tt
part_is v (value n) = value_part v n (value? n)
part_is v (attribute m a) = attribute_part_lem a v m (attribute? a)
part_is v (name n) = tt
part_is v (start_tag n) = tt
part_is v (end_tag n) = tt
part_is v (empty_tag n) = tt
part_is v (string cs) = tt
part_is v (word w) = word_part_lem v w
part_is v (sign s) = sign_part_lem v s

module _ (v : Visit) (p : ℕ) where
  -- the tokens of what stands to the left, in one pair of parentheses
  abbrev pub OrHeld : ℕ → Option Condition → List TextToken → Type 0
  OrHeld q none ts = ts ≡ []
  OrHeld q (some c) ts = (us : List TextToken) × ConditionIs v q us c × (ts ≡ us ++ word OR ∷ [])

  abbrev pub AndHeld : ℕ → Option Condition → List TextToken → Type 0
  AndHeld q none ts = ts ≡ []
  AndHeld q (some c) ts = (us : List TextToken) × BothIs v q us c × (ts ≡ us ++ word AND ∷ [])

  abbrev pub NotsHeld : ℕ → List TextToken → Type 0
  NotsHeld zero ts = ts ≡ []
  NotsHeld (suc k) ts = (us : List TextToken) × NotsHeld k us × (ts ≡ us ++ word NOT ∷ [])

  pub record LevelHeld (q : ℕ) (l : ConditionLevel) (ts : List TextToken) : Type 0 where
    pub ors : List TextToken
    pub ands : List TextToken
    pub nos : List TextToken
    pub or_held : OrHeld q l.or_left ors
    pub and_held : AndHeld q l.and_left ands
    pub nots_held : NotsHeld l.nots nos
    pub are : ts ≡ ors ++ (ands ++ nos)

  -- the levels around, with q parentheses left to open inside them
  abbrev pub Around : List ConditionLevel → ℕ → List TextToken → Type 0
  Around [] q ts = (q ≡ p) × (ts ≡ [])
  Around (l ∷ ls) q ts = (us ws : List TextToken) × Around ls (suc q) us × LevelHeld (suc q) l ws × (ts ≡ us ++ (ws ++ sign OPEN ∷ []))

  pub record Pending (l : ConditionLevel) (ls : List ConditionLevel) (ts tail : List TextToken) : Type 0 where
    pub left_to_open : ℕ
    pub outer : List TextToken
    pub inner : List TextToken
    pub outer_held : Around ls left_to_open outer
    pub inner_held : LevelHeld left_to_open l inner
    pub are : ts ≡ outer ++ (inner ++ tail)

  pub record Behind (d : Condition) (o : Option Condition) (ls : List ConditionLevel) (ts : List TextToken) : Type 0 where
    pub left_to_open : ℕ
    pub outer : List TextToken
    pub ors : List TextToken
    pub last : List TextToken
    pub outer_held : Around ls left_to_open outer
    pub or_held : OrHeld left_to_open o ors
    pub last_is : BothIs v left_to_open last d
    pub are : ts ≡ outer ++ (ors ++ last)

  abbrev pub Held : Reading → List TextToken → Type 0
  Held (wants l ls) ts = Pending l ls ts []
  Held (compares x l ls) ts = (t : TextToken) × OperandIs v t x × Pending l ls ts (t ∷ [])
  Held (wants_other x l ls) ts = (t : TextToken) × OperandIs v t x × Pending l ls ts (t ∷ sign EQUALS ∷ [])
  Held (after d o ls) ts = Behind d o ls ts

  abbrev pub HeldIf : Option Reading → List TextToken → Type 0
  HeldIf o ts = IfSome (λ s. Held s ts) o

  -- what stands to the left, and a single condition, or one up to an and, behind it
  with_nots : (k : ℕ) (ts : List TextToken) {q : ℕ} {us : List TextToken} {c : Condition} → NotsHeld k ts → SingleIs v q us c → SingleIs v q (ts ++ us) (negated_by k c)
  with_nots zero ts h s = rw h s
  with_nots (suc k) ts (ws, h, e) s = rw (e, append_assoc) (with_nots k ws h (not s))

  with_and : (a : Option Condition) (ts : List TextToken) {q : ℕ} {us : List TextToken} {c : Condition} → AndHeld q a ts → SingleIs v q us c → BothIs v q (ts ++ us) (conjoined a c)
  with_and none ts h s = rw h (no_and s)
  with_and (some d) ts {us = us} (ws, b, e) s = and b s (ap (λ w. w ++ us) e ∙ append_assoc ws (word AND ∷ []) us)

  with_or : (o : Option Condition) (ts : List TextToken) {q : ℕ} {us : List TextToken} {c : Condition} → OrHeld q o ts → BothIs v q us c → ConditionIs v q (ts ++ us) (disjoined o c)
  with_or none ts h b = rw h (no_or b)
  with_or (some d) ts {us = us} (ws, c, e) b = or c b (ap (λ w. w ++ us) e ∙ append_assoc ws (word OR ∷ []) us)

  up_to_and_lem : {q : ℕ} {l : ConditionLevel} {ts us : List TextToken} {c : Condition} (h : LevelHeld q l ts) → SingleIs v q us c → BothIs v q ((h.ands ++ h.nos) ++ us) (up_to_and l c)
  up_to_and_lem {l = l} h s = rw append_assoc (with_and l.and_left h.ands h.and_held (with_nots l.nots h.nos h.nots_held s))

  level_whole : {q : ℕ} {l : ConditionLevel} {ts us : List TextToken} {c : Condition} → LevelHeld q l ts → SingleIs v q us c → ConditionIs v q (ts ++ us) (whole_condition l c)
  level_whole {l = l} h s = rw (h.are, append_assoc) (with_or l.or_left h.ors h.or_held (up_to_and_lem h s))

  left_over : (ls : List ConditionLevel) (q : ℕ) (ts : List TextToken) → Around ls q ts → q + length ls ≡ p
  left_over [] q ts (e, h) = omega arith
  left_over (l ∷ ls) q ts (us, ws, a, h, e) = omega (arith, left_over ls (suc q) us a)

  -- the shortest way to close the levels around
  closing : (ls : List ConditionLevel) (q : ℕ) (us ts : List TextToken) (c : Condition) → Around ls q us → ConditionIs v q ts c → (rest : List TextToken) × ConditionIs v p (us ++ (ts ++ rest)) (around_condition ls c)
  closing [] q us ts c (e, h) d = ([], rw (h, append-nil, ← e) d)
  closing (l ∷ ls) q us ts c (os, ws, a, h, e) d =
      let w = closing ls (suc q) os (ws ++ sign OPEN ∷ (ts ++ sign CLOSE ∷ [])) (whole_condition l c) a (level_whole h (parenthesised d refl)) in
      (sign CLOSE ∷ w.0, rw e (simp append_assoc (simp append_assoc at w.1)))

  longer : {l : ConditionLevel} {ls : List ConditionLevel} {ts tail : List TextToken} → Pending l ls ts tail → (more : List TextToken) → Pending l ls (ts ++ more) (tail ++ more)
  longer h more = record {
    left_to_open = h.left_to_open;
    outer = h.outer;
    inner = h.inner;
    outer_held = h.outer_held;
    inner_held = h.inner_held;
    are = ap (λ w. w ++ more) h.are ∙ simp append_assoc;
  }

  one_not_more : {l : ConditionLevel} {ls : List ConditionLevel} {ts : List TextToken} → Pending l ls ts [] → Pending (condition_level l.or_left l.and_left (suc l.nots)) ls (ts ++ word NOT ∷ []) []
  one_not_more {l} h =
      let i = h.inner_held in
      record {
        left_to_open = h.left_to_open;
        outer = h.outer;
        inner = h.inner ++ word NOT ∷ [];
        outer_held = h.outer_held;
        inner_held = record {
          ors = i.ors;
          ands = i.ands;
          nos = i.nos ++ word NOT ∷ [];
          or_held = i.or_held;
          and_held = i.and_held;
          nots_held = (i.nos, i.nots_held, refl);
          are = ap (λ w. w ++ word NOT ∷ []) i.are ∙ simp append_assoc;
        };
        are = ap (λ w. w ++ word NOT ∷ []) h.are ∙ simp append_assoc;
      }

  nothing_held : (q : ℕ) → LevelHeld q fresh_condition []
  nothing_held q = record { ors = []; ands = []; nos = []; or_held = refl; and_held = refl; nots_held = refl; are = refl }

  open_held : (b : Bool) (l : ConditionLevel) (ls : List ConditionLevel) (ts : List TextToken) → ltb (length ls) p ≡ b → Pending l ls ts [] → HeldIf (condition_opened b l ls) (ts ++ sign OPEN ∷ [])
  open_held false l ls ts e h = tt
  open_held true l ls ts e h = deeper h.left_to_open h.outer_held h.inner_held (left_over ls h.left_to_open h.outer h.outer_held)
    where
      deeper : (q : ℕ) → Around ls q h.outer → LevelHeld q l h.inner → q + length ls ≡ p → Pending fresh_condition (l ∷ ls) (ts ++ sign OPEN ∷ []) []
      deeper zero a i n = absurd (omega (arith, ltb-true (length ls) p e))
      deeper (suc q) a i n = record {
        left_to_open = q;
        outer = h.outer ++ (h.inner ++ sign OPEN ∷ []);
        inner = [];
        outer_held = (h.outer, h.inner, a, i, refl);
        inner_held = nothing_held q;
        are = ap (λ w. w ++ sign OPEN ∷ []) h.are ∙ simp (append_assoc, append-nil);
      }

  compared_held : (x y : Operand) (l : ConditionLevel) (ls : List ConditionLevel) (s t : TextToken) (ts : List TextToken) → OperandIs v s x → OperandIs v t y → Pending l ls ts (s ∷ sign EQUALS ∷ [])
      → Behind (up_to_and l (equal x y)) l.or_left ls (ts ++ t ∷ [])
  compared_held x y l ls s t ts ox oy h =
      let i = h.inner_held in
      record {
        left_to_open = h.left_to_open;
        outer = h.outer;
        ors = i.ors;
        last = (i.ands ++ i.nos) ++ (s ∷ sign EQUALS ∷ t ∷ []);
        outer_held = h.outer_held;
        or_held = i.or_held;
        last_is = up_to_and_lem i (compared ox oy);
        are = ap (λ w. w ++ t ∷ []) (h.are ∙ ap (λ w. h.outer ++ (w ++ s ∷ sign EQUALS ∷ [])) i.are) ∙ simp append_assoc;
      }

  and_held_on : (d : Condition) (o : Option Condition) (ls : List ConditionLevel) (ts : List TextToken) → Behind d o ls ts → Pending (condition_level o (some d) 0) ls (ts ++ word AND ∷ []) []
  and_held_on d o ls ts h = record {
    left_to_open = h.left_to_open;
    outer = h.outer;
    inner = h.ors ++ (h.last ++ word AND ∷ []);
    outer_held = h.outer_held;
    inner_held = record {
      ors = h.ors;
      ands = h.last ++ word AND ∷ [];
      nos = [];
      or_held = h.or_held;
      and_held = (h.last, h.last_is, refl);
      nots_held = refl;
      are = ap (λ w. h.ors ++ w) (sym (append-nil (h.last ++ word AND ∷ [])));
    };
    are = ap (λ w. w ++ word AND ∷ []) h.are ∙ simp (append_assoc, append-nil);
  }

  or_held_on : (d : Condition) (o : Option Condition) (ls : List ConditionLevel) (ts : List TextToken) → Behind d o ls ts → Pending (condition_level (some (disjoined o d)) none 0) ls (ts ++ word OR ∷ []) []
  or_held_on d o ls ts h = record {
    left_to_open = h.left_to_open;
    outer = h.outer;
    inner = (h.ors ++ h.last) ++ word OR ∷ [];
    outer_held = h.outer_held;
    inner_held = record {
      ors = (h.ors ++ h.last) ++ word OR ∷ [];
      ands = [];
      nos = [];
      or_held = (h.ors ++ h.last, with_or o h.ors h.or_held h.last_is, refl);
      and_held = refl;
      nots_held = refl;
      are = sym (append-nil ((h.ors ++ h.last) ++ word OR ∷ []));
    };
    are = ap (λ w. w ++ word OR ∷ []) h.are ∙ simp (append_assoc, append-nil);
  }

  close_held : (d : Condition) (o : Option Condition) (ls : List ConditionLevel) (ts : List TextToken) → Behind d o ls ts → HeldIf (condition_closed ls (disjoined o d)) (ts ++ sign CLOSE ∷ [])
  close_held d o [] ts h = tt
  close_held d o (l ∷ ls) ts h = out h.outer_held
    where
      out : Around (l ∷ ls) h.left_to_open h.outer → Behind (up_to_and l (disjoined o d)) l.or_left ls (ts ++ sign CLOSE ∷ [])
      out (us, ws, a, i, e) = record {
        left_to_open = suc h.left_to_open;
        outer = us;
        ors = i.ors;
        last = (i.ands ++ i.nos) ++ (sign OPEN ∷ ((h.ors ++ h.last) ++ sign CLOSE ∷ []));
        outer_held = a;
        or_held = i.or_held;
        last_is = up_to_and_lem i (parenthesised (with_or o h.ors h.or_held h.last_is) refl);
        are = ap (λ w. w ++ sign CLOSE ∷ []) (h.are ∙ ap (λ w. w ++ (h.ors ++ h.last)) (e ∙ ap (λ w. us ++ (w ++ sign OPEN ∷ [])) i.are)) ∙ simp append_assoc;
      }

  held_part : (s : Reading) (k : ConditionPart) (t : TextToken) (ts : List TextToken) → PartIs v t k → Held s ts → HeldIf (step_part p s k) (ts ++ t ∷ [])
  held_part (wants l ls) (operand x) t ts i h = (t, i, longer h (t ∷ []))
  held_part (wants l ls) a_not t ts i h = rw i (one_not_more h)
  held_part (wants l ls) an_and t ts i h = tt
  held_part (wants l ls) an_or t ts i h = tt
  held_part (wants l ls) an_open t ts i h = rw i (open_held (ltb (length ls) p) l ls ts refl h)
  held_part (wants l ls) a_close t ts i h = tt
  held_part (wants l ls) an_equals t ts i h = tt
  held_part (wants l ls) other t ts i h = tt
  held_part (compares x l ls) (operand y) t ts i h = tt
  held_part (compares x l ls) a_not t ts i h = tt
  held_part (compares x l ls) an_and t ts i h = tt
  held_part (compares x l ls) an_or t ts i h = tt
  held_part (compares x l ls) an_open t ts i h = tt
  held_part (compares x l ls) a_close t ts i h = tt
  held_part (compares x l ls) an_equals t ts i (s, o, h) = rw i (s, o, longer h (sign EQUALS ∷ []))
  held_part (compares x l ls) other t ts i h = tt
  held_part (wants_other x l ls) (operand y) t ts i (s, o, h) = compared_held x y l ls s t ts o i h
  held_part (wants_other x l ls) a_not t ts i h = tt
  held_part (wants_other x l ls) an_and t ts i h = tt
  held_part (wants_other x l ls) an_or t ts i h = tt
  held_part (wants_other x l ls) an_open t ts i h = tt
  held_part (wants_other x l ls) a_close t ts i h = tt
  held_part (wants_other x l ls) an_equals t ts i h = tt
  held_part (wants_other x l ls) other t ts i h = tt
  held_part (after d o ls) (operand y) t ts i h = tt
  held_part (after d o ls) a_not t ts i h = tt
  held_part (after d o ls) an_and t ts i h = rw i (and_held_on d o ls ts h)
  held_part (after d o ls) an_or t ts i h = rw i (or_held_on d o ls ts h)
  held_part (after d o ls) an_open t ts i h = tt
  held_part (after d o ls) a_close t ts i h = rw i (close_held d o ls ts h)
  held_part (after d o ls) an_equals t ts i h = tt
  held_part (after d o ls) other t ts i h = tt

  pub held_step : (s : Reading) (t : TextToken) (ts : List TextToken) → Held s ts → HeldIf (step_condition v p s t) (ts ++ t ∷ [])
  held_step s t ts h = held_part s (part_of v t) t ts (part_is v t) h

  pub held_start : Held (wants fresh_condition []) []
  held_start = record { left_to_open = p; outer = []; inner = []; outer_held = (refl, refl); inner_held = nothing_held p; are = refl }

  -- the tokens so far are a condition where the machine says what they write
  pub held_value : (s : Reading) (ts : List TextToken) (c : Condition) → Held s ts → value_of_condition s ≡ some c → ConditionIs v p ts c
  held_value (wants l ls) ts c h e = absurd (let z : ◌≡◌ {A = ℕ} 0 1 = cc in omega arith)
  held_value (compares x l ls) ts c h e = absurd (let z : ◌≡◌ {A = ℕ} 0 1 = cc in omega arith)
  held_value (wants_other x l ls) ts c h e = absurd (let z : ◌≡◌ {A = ℕ} 0 1 = cc in omega arith)
  held_value (after d o (l ∷ ls)) ts c h e = absurd (let z : ◌≡◌ {A = ℕ} 0 1 = cc in omega arith)
  held_value (after d o []) ts c h e =
      let is : disjoined o d ≡ c = cc in
      let a = h.outer_held in
      subst (λ q. ConditionIs v q ts c) a.0
      (subst (ConditionIs v h.left_to_open ts) is
      (rw (h.are, a.1) (with_or o h.ors h.or_held h.last_is)))

  pub zero_is : OperandIs v (value 0) (constant 0)
  zero_is = a_value {n = 0} (omega arith)

  -- the tokens so far, and the shortest continuation
  finishing : (l : ConditionLevel) (ls : List ConditionLevel) (ts tail more : List TextToken) (c : Condition) → Pending l ls ts tail → ((q : ℕ) → SingleIs v q (tail ++ more) c)
      → (rest : List TextToken) × ConditionIs v p (ts ++ rest) (around_condition (l ∷ ls) c)
  finishing l ls ts tail more c h s =
      let w = closing ls h.left_to_open h.outer (h.inner ++ (tail ++ more)) (whole_condition l c) h.outer_held (level_whole h.inner_held (s h.left_to_open)) in
      (more ++ w.0, rw h.are (simp append_assoc (simp append_assoc at w.1)))

  pub held_shortest : (s : Reading) (ts : List TextToken) → Held s ts → (rest : List TextToken) × ConditionIs v p (ts ++ rest) (finished_of s)
  held_shortest (wants l ls) ts h = finishing l ls ts [] (value 0 ∷ sign EQUALS ∷ value 0 ∷ []) _ h (λ q. compared zero_is zero_is)
  held_shortest (compares x l ls) ts (t, o, h) = finishing l ls ts (t ∷ []) (sign EQUALS ∷ value 0 ∷ []) _ h (λ q. compared o zero_is)
  held_shortest (wants_other x l ls) ts (t, o, h) = finishing l ls ts (t ∷ sign EQUALS ∷ []) (value 0 ∷ []) _ h (λ q. compared o zero_is)
  held_shortest (after d o ls) ts h =
      let w = closing ls h.left_to_open h.outer (h.ors ++ h.last) (disjoined o d) h.outer_held (with_or o h.ors h.or_held h.last_is) in
      (w.0, rw h.are (simp append_assoc (simp append_assoc at w.1)))
