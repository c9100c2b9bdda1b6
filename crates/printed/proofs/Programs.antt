-- A printed program spells tokens of that program. Assumes nothing.
use mathlib.Core.Path.{◌≡◌, refl, sym, ◌∙◌, ap, ap₂, subst}
use mathlib.Core.Bool.{Bool, true, false, cond, ◌&&◌}
use mathlib.Core.Bool.{not as negation}
use mathlib.Core.List.{List, [], ◌∷◌, ◌++◌, append_assoc, append-nil}
use mathlib.Core.Option.{Option}
use Prim.Native.Nat.{ℕ, suc, ◌≤◌, max}
use native.Mathlib.Omega.{arith}
use lib.ListN.{length}
use Rattle.text.specs.Characters.{utf8s}
use Rattle.programs.specs.Program.{Operand, constant, current, recalled}
use Rattle.programs.specs.Limits.{Attribute, OperandFits, condition_nesting, Visit, first, second, is_first, is_second, operand_allowed, condition_allowed}
use Rattle.notation.specs.Program.{TextStatement, become, copy, recall, reject, print_start, print_end, print_text, echo, branch, TextProgram, done, step, ◌then◌}
use Rattle.notation.specs.Tokens.{plain, TextToken, attribute, start_tag, end_tag, string, word, ECHO, ECHO-OFF, REJECT, PRINT, IF, THEN, ELSE, BEGIN, END, sign, ASSIGNED, BRACE, UNBRACE, SEMICOLON, word_bytes, token_bytes}
use Rattle.notation.specs.Conditions.{of_either, ConditionIs}
use Rattle.notation.specs.Statements.{parentheses, only, ItemIs, a_start, an_end, a_text, ItemsAre, assigned, StatementIs, echo_on, echo_off, rejects, prints, assigns, if_then, if_else, BranchIs, bare, block, ListIs, SomeAre, BracesAre, absent, braces}
use Rattle.notation.specs.Limits.{nesting_of}
use Rattle.encoding.proofs.Stored.{and_parts}
use Rattle.printed.specs.Spacing.{◌␣◌}
use Rattle.printed.specs.Conditions.{operand_token, condition_text}
use Rattle.printed.specs.Programs.{quoted, is_item, is_if, all_items, is_done, is_one, is_plain_one, Preceding, nothing_yet, a_statement, an_item, between_statements, after_it, branch_text, else_text, assignment, statement_text, list_text, program_text}
use Rattle.encoding.specs.Sound.{SoundStatement, Sound}
use Rattle.printed.proofs.Phrases.{Quiet, Phrase, empty_phrase, a_word, closed, closed_alone, spaced, joined, space_front, Said, said_as}
use Rattle.printed.proofs.Conditions.{operand_phrase, operand_is, condition_said}
use Rattle.printed.proofs.Quoted.{quoted_string}

then_done : (p : TextProgram) → p then done ≡ p
then_done done = refl
then_done (step t p) = ap (step t) (then_done p)

then_assoc : (p q r : TextProgram) → (p then q) then r ≡ p then (q then r)
then_assoc done q r = refl
then_assoc (step t p) q r = ap (step t) (then_assoc p q r)

-- one more item behind others
item_behind : (ts : List TextToken) (p : TextProgram) (j : TextToken) (q : TextProgram) → ItemsAre ts p → ItemIs j q → ItemsAre (ts ++ j ∷ []) (p then q)
item_behind ts p j q (ItemsAre.one i) h = ItemsAre.more i (ItemsAre.one h)
item_behind ts p j q (ItemsAre.more {t = t} {ts = us} {p = a} {q = b} i r) h = subst (λ z. ItemsAre (t ∷ (us ++ j ∷ [])) z) (sym (then_assoc a b q)) (ItemsAre.more i (item_behind us b j q r h))

-- bytes that may stand right behind any token: they begin with none of a word's
abbrev Opening : List ℕ → Type 0
Opening x = (z : List ℕ) → Quiet z → Quiet (x ++ z)

list_opens : (p : TextProgram) → Opening (list_text a_statement p)
list_opens done z q = q
list_opens (step t p) z q = on (is_item t)
  where
    on : (i : Bool) → Quiet ((between_statements a_statement i ++ (statement_text t ++ list_text (after_it i) p)) ++ z)
    on true = refl
    on false = refl

module _ (v : Visit) where
  -- an item, by its token
  record Item (t : TextStatement) : Type 0 where
    it : TextToken
    is : ItemIs it (only t)
    apart : (b : ℕ) → Rattle.notation.specs.Spelled.joins it b ≡ false
    bytes_are : token_bytes it ≡ statement_text t

  item : (t : TextStatement) → is_item t ≡ true → SoundStatement v t → Item t
  item (print_start n) e h = record { it = start_tag n; is = a_start h; apart = λ b. refl; bytes_are = refl }
  item (print_end n) e h = record { it = end_tag n; is = an_end h; apart = λ b. refl; bytes_are = refl }
  item (print_text s) e h = record {
    it = string h.0.characters;
    is = subst (λ z. ItemIs (string h.0.characters) (only (print_text z))) (sym h.0.spelled) (a_text (record { characters = h.0.are_chars; short = subst (λ z. length z ≤ 255) h.0.spelled h.1 }));
    apart = λ b. refl;
    bytes_are = quoted_string s h.0;
  }
  item (become a n) e h = absurd (let z : ◌≡◌ {A = ℕ} 0 1 = cc in omega arith)
  item (copy a b) e h = absurd (let z : ◌≡◌ {A = ℕ} 0 1 = cc in omega arith)
  item (recall a b) e h = absurd (let z : ◌≡◌ {A = ℕ} 0 1 = cc in omega arith)
  item reject e h = absurd (let z : ◌≡◌ {A = ℕ} 0 1 = cc in omega arith)
  item (echo on) e h = absurd (let z : ◌≡◌ {A = ℕ} 0 1 = cc in omega arith)
  item (branch c l m) e h = absurd (let z : ◌≡◌ {A = ℕ} 0 1 = cc in omega arith)

  -- a statement other than an item; `true` where it ends in an if without else
  record Stated (t : TextStatement) : Type 0 where
    flag : Bool
    tokens : List TextToken
    is : StatementIs v flag tokens (only t)
    phrase : Phrase tokens (statement_text t)
    no_if : is_if t ≡ false → flag ≡ false

  -- what stands behind a statement, and behind an item
  record AfterStatement (p : TextProgram) : Type 0 where
    tokens : List TextToken
    is : (b : Bool) (ts : List TextToken) (q : TextProgram) → StatementIs v b ts q → SomeAre v (ts ++ tokens) (q then p)
    phrase : Phrase tokens (list_text a_statement p)

  record AfterPrint (p : TextProgram) : Type 0 where
    tokens : List TextToken
    is : (ts : List TextToken) (q : TextProgram) → ItemsAre ts q → SomeAre v (word PRINT ∷ (ts ++ tokens)) (q then p)
    phrase : Phrase tokens (list_text an_item p)

  item_phrase : (t : TextStatement) (p : TextProgram) (i : Item t) (us : List TextToken) → Phrase us (list_text an_item p) → Phrase (i.it ∷ us) (statement_text t ++ list_text an_item p)
  item_phrase t p i us h = subst (λ x. Phrase (i.it ∷ us) (x ++ list_text an_item p)) i.bytes_are (closed i.it i.apart us (list_text an_item p) h)

  print_phrase : (t : TextStatement) (p : TextProgram) (i : Item t) (us : List TextToken) → Phrase us (list_text an_item p) → Phrase (word PRINT ∷ i.it ∷ us) (word_bytes PRINT ␣ (statement_text t ++ list_text an_item p))
  print_phrase t p i us h = spaced (word PRINT ∷ []) (i.it ∷ us) (word_bytes PRINT) (statement_text t ++ list_text an_item p) (a_word (word PRINT) (λ b. refl)) (item_phrase t p i us h)

  plain_phrase : (t : TextStatement) (p : TextProgram) (s : Stated t) (a : AfterStatement p) → Phrase (s.tokens ++ a.tokens) (statement_text t ++ list_text a_statement p)
  plain_phrase t p s a = joined s.tokens a.tokens (statement_text t) (list_text a_statement p) s.phrase a.phrase (list_opens p)

  after_statement_done : AfterStatement done
  after_statement_done = record {
    tokens = [];
    is = λ b ts q h. subst (λ z. SomeAre v (ts ++ []) z) (sym (then_done q)) (subst (λ z. SomeAre v z q) (sym (append-nil ts)) (SomeAre.one h));
    phrase = empty_phrase;
  }

  after_print_done : AfterPrint done
  after_print_done = record {
    tokens = [];
    is = λ ts q h. subst (λ z. SomeAre v (word PRINT ∷ (ts ++ [])) z) (sym (then_done q)) (subst (λ z. SomeAre v (word PRINT ∷ z) q) (sym (append-nil ts)) (SomeAre.one (prints h)));
    phrase = empty_phrase;
  }

  -- the rest of a list, from a statement on
  some_plain : (t : TextStatement) (p : TextProgram) (s : Stated t) (a : AfterStatement p) → SomeAre v (s.tokens ++ a.tokens) (step t p)
  some_plain t p s a = a.is s.flag s.tokens (only t) s.is

  some_item : (t : TextStatement) (p : TextProgram) (i : Item t) (a : AfterPrint p) → SomeAre v (word PRINT ∷ i.it ∷ a.tokens) (step t p)
  some_item t p i a = a.is (i.it ∷ []) (only t) (ItemsAre.one i.is)

  module _ (t : TextStatement) (p : TextProgram) (h : SoundStatement v t) (st : is_item t ≡ false → Stated t) (more : AfterStatement p) (ap_print : AfterPrint p) where
    after_statement_step : AfterStatement (step t p)
    after_statement_step = on (is_item t) refl
      where
        on : (i : Bool) → is_item t ≡ i → AfterStatement (step t p)
        on false e =
            let s = st e in
            record {
              tokens = sign SEMICOLON ∷ (s.tokens ++ more.tokens);
              is = λ b ts q k. SomeAre.more k (some_plain t p s more) refl refl;
              phrase = subst (λ i. Phrase (sign SEMICOLON ∷ (s.tokens ++ more.tokens)) (between_statements a_statement i ++ (statement_text t ++ list_text (after_it i) p))) (sym e)
                  (closed (sign SEMICOLON) (λ b. refl) (s.tokens ++ more.tokens) (32 ∷ (statement_text t ++ list_text a_statement p)) (space_front (s.tokens ++ more.tokens) (statement_text t ++ list_text a_statement p) (plain_phrase t p s more)));
            }
        on true e =
            let i = item t e h in
            let us = word PRINT ∷ i.it ∷ ap_print.tokens in
            record {
              tokens = sign SEMICOLON ∷ us;
              is = λ b ts q k. SomeAre.more k (some_item t p i ap_print) refl refl;
              phrase = subst (λ i. Phrase (sign SEMICOLON ∷ us) (between_statements a_statement i ++ (statement_text t ++ list_text (after_it i) p))) (sym e)
                  (closed (sign SEMICOLON) (λ b. refl) us (32 ∷ (word_bytes PRINT ␣ (statement_text t ++ list_text an_item p))) (space_front us (word_bytes PRINT ␣ (statement_text t ++ list_text an_item p)) (print_phrase t p i ap_print.tokens ap_print.phrase)));
            }

    after_print_step : AfterPrint (step t p)
    after_print_step = on (is_item t) refl
      where
        on : (i : Bool) → is_item t ≡ i → AfterPrint (step t p)
        on false e =
            let s = st e in
            record {
              tokens = sign SEMICOLON ∷ (s.tokens ++ more.tokens);
              is = λ ts q k. SomeAre.more (prints k) (some_plain t p s more) refl refl;
              phrase = subst (λ i. Phrase (sign SEMICOLON ∷ (s.tokens ++ more.tokens)) (between_statements an_item i ++ (statement_text t ++ list_text (after_it i) p))) (sym e)
                  (closed (sign SEMICOLON) (λ b. refl) (s.tokens ++ more.tokens) (32 ∷ (statement_text t ++ list_text a_statement p)) (space_front (s.tokens ++ more.tokens) (statement_text t ++ list_text a_statement p) (plain_phrase t p s more)));
            }
        on true e =
            let i = item t e h in
            record {
              tokens = i.it ∷ ap_print.tokens;
              is = λ ts q k. subst (λ z. SomeAre v (word PRINT ∷ (ts ++ i.it ∷ ap_print.tokens)) z) (then_assoc q (only t) p)
                  (subst (λ z. SomeAre v (word PRINT ∷ z) ((q then only t) then p)) (append_assoc ts (i.it ∷ []) ap_print.tokens) (ap_print.is (ts ++ i.it ∷ []) (q then only t) (item_behind ts q i.it (only t) k i.is)));
              phrase = subst (λ j. Phrase (i.it ∷ ap_print.tokens) (between_statements an_item j ++ (statement_text t ++ list_text (after_it j) p))) (sym e)
                  (space_front (i.it ∷ ap_print.tokens) (statement_text t ++ list_text an_item p) (item_phrase t p i ap_print.tokens ap_print.phrase));
            }

    list_step : Said (λ ts. ListIs v ts (step t p)) (list_text nothing_yet (step t p))
    list_step = on (is_item t) refl
      where
        on : (i : Bool) → is_item t ≡ i → Said (λ ts. ListIs v ts (step t p)) (list_text nothing_yet (step t p))
        on false e =
            let s = st e in
            record {
              tokens = s.tokens ++ more.tokens;
              are = ListIs.some (some_plain t p s more);
              phrase = subst (λ i. Phrase (s.tokens ++ more.tokens) (between_statements nothing_yet i ++ (statement_text t ++ list_text (after_it i) p))) (sym e) (plain_phrase t p s more);
            }
        on true e =
            let i = item t e h in
            let us = word PRINT ∷ i.it ∷ ap_print.tokens in
            record {
              tokens = us;
              are = ListIs.some (some_item t p i ap_print);
              phrase = subst (λ j. Phrase us (between_statements nothing_yet j ++ (statement_text t ++ list_text (after_it j) p))) (sym e) (print_phrase t p i ap_print.tokens ap_print.phrase);
            }

  -- items and nothing else
  record Items (p : TextProgram) : Type 0 where
    tokens : List TextToken
    is : (ts : List TextToken) (q : TextProgram) → ItemsAre ts q → ItemsAre (ts ++ tokens) (q then p)
    phrase : Phrase tokens (list_text an_item p)

  items : (p : TextProgram) → all_items p ≡ true → Sound v p → Items p
  items done e h = record {
    tokens = [];
    is = λ ts q k. subst (λ z. ItemsAre (ts ++ []) z) (sym (then_done q)) (subst (λ z. ItemsAre z q) (sym (append-nil ts)) k);
    phrase = empty_phrase;
  }
  items (step t p) e h =
      let b = and_parts (is_item t) (all_items p) e in
      let i = item t b.0 h.0 in
      let r = items p b.1 h.1 in
      record {
        tokens = i.it ∷ r.tokens;
        is = λ ts q k. subst (λ z. ItemsAre (ts ++ i.it ∷ r.tokens) z) (then_assoc q (only t) p)
            (subst (λ z. ItemsAre z ((q then only t) then p)) (append_assoc ts (i.it ∷ []) r.tokens) (r.is (ts ++ i.it ∷ []) (q then only t) (item_behind ts q i.it (only t) k i.is)));
        phrase = subst (λ j. Phrase (i.it ∷ r.tokens) (between_statements an_item j ++ (statement_text t ++ list_text (after_it j) p))) (sym b.0)
            (space_front (i.it ∷ r.tokens) (statement_text t ++ list_text an_item p) (item_phrase t p i r.tokens r.phrase));
      }

  -- a list of one statement, as that statement
  record Alone (p : TextProgram) : Type 0 where
    flag : Bool
    tokens : List TextToken
    is : StatementIs v flag tokens p
    phrase : Phrase tokens (list_text nothing_yet p)
    no_if : is_plain_one p ≡ true → flag ≡ false

  not_both : (a b : Bool) → negation a && b ≡ true → a ≡ false
  not_both false b e = refl
  not_both true b e = sym e

  alone_step : (t : TextStatement) (p : TextProgram) → is_one (step t p) ≡ true → SoundStatement v t → Sound v p → (is_item t ≡ false → Stated t) → Alone (step t p)
  alone_step t p e h k st = on (is_item t) refl
    where
      finished : (q : TextProgram) → is_done q ≡ true → q ≡ done
      finished done i = refl
      finished (step u q) i = absurd (let z : ◌≡◌ {A = ℕ} 0 1 = cc in omega arith)

      on : (i : Bool) → is_item t ≡ i → Alone (step t p)
      on false i =
          let s = st i in
          let d : p ≡ done = finished p (subst (λ b. cond b (all_items p) (is_done p) ≡ true) i e) in
          record {
            flag = s.flag;
            tokens = s.tokens;
            is = subst (λ q. StatementIs v s.flag s.tokens (step t q)) (sym d) s.is;
            phrase = subst (λ b. Phrase s.tokens (between_statements nothing_yet b ++ (statement_text t ++ list_text (after_it b) p))) (sym i)
                (subst (λ q. Phrase s.tokens (statement_text t ++ list_text a_statement q)) (sym d) (subst (λ x. Phrase s.tokens x) (sym (append-nil (statement_text t))) s.phrase));
            no_if = λ j. s.no_if (not_both (is_if t) (is_one (step t p)) j);
          }
      on true i =
          let j = item t i h in
          let r = items p (subst (λ b. cond b (all_items p) (is_done p) ≡ true) i e) k in
          record {
            flag = false;
            tokens = word PRINT ∷ j.it ∷ r.tokens;
            is = prints (r.is (j.it ∷ []) (only t) (ItemsAre.one j.is));
            phrase = subst (λ b. Phrase (word PRINT ∷ j.it ∷ r.tokens) (between_statements nothing_yet b ++ (statement_text t ++ list_text (after_it b) p))) (sym i) (print_phrase t p j r.tokens r.phrase);
            no_if = λ x. refl;
          }

  -- begin, the list, end
  in_block : (p : TextProgram) → Said (λ ts. ListIs v ts p) (list_text nothing_yet p) → Said (λ ts. BranchIs v false ts p) (branch_text false p (list_text nothing_yet p))
  in_block done s = record {
    tokens = word BEGIN ∷ word END ∷ [];
    are = block ListIs.empty refl;
    phrase = spaced (word BEGIN ∷ []) (word END ∷ []) (word_bytes BEGIN) (word_bytes END) (a_word (word BEGIN) (λ b. refl)) (a_word (word END) (λ b. refl));
  }
  in_block (step t p) s = record {
    tokens = word BEGIN ∷ (s.tokens ++ word END ∷ []);
    are = block s.are refl;
    phrase = spaced (word BEGIN ∷ []) (s.tokens ++ word END ∷ []) (word_bytes BEGIN) (list_text nothing_yet (step t p) ␣ word_bytes END) (a_word (word BEGIN) (λ b. refl))
        (spaced s.tokens (word END ∷ []) (list_text nothing_yet (step t p)) (word_bytes END) s.phrase (a_word (word END) (λ b. refl)));
  }

  plain_one : (p : TextProgram) → is_plain_one p ≡ true → is_one p ≡ true
  plain_one done e = e
  plain_one (step t p) e = (and_parts (negation (is_if t)) (is_one (step t p)) e).1

  then_branch : (p : TextProgram) → Said (λ ts. ListIs v ts p) (list_text nothing_yet p) → (is_one p ≡ true → Alone p) → Said (λ ts. BranchIs v false ts p) (branch_text (is_plain_one p) p (list_text nothing_yet p))
  then_branch p s a = on (is_plain_one p) refl
    where
      on : (b : Bool) → is_plain_one p ≡ b → Said (λ ts. BranchIs v false ts p) (branch_text (is_plain_one p) p (list_text nothing_yet p))
      on false e = subst (λ b. Said (λ ts. BranchIs v false ts p) (branch_text b p (list_text nothing_yet p))) (sym e) (in_block p s)
      on true e =
          let x = a (plain_one p e) in
          subst (λ b. Said (λ ts. BranchIs v false ts p) (branch_text b p (list_text nothing_yet p))) (sym e)
          (record { tokens = x.tokens; are = bare (subst (λ b. StatementIs v b x.tokens p) (x.no_if e) x.is); phrase = x.phrase })

  record Otherwise (p : TextProgram) (x : List ℕ) : Type 0 where
    flag : Bool
    said : Said (λ ts. BranchIs v flag ts p) x

  else_branch : (p : TextProgram) → Said (λ ts. ListIs v ts p) (list_text nothing_yet p) → (is_one p ≡ true → Alone p) → Otherwise p (branch_text (is_one p) p (list_text nothing_yet p))
  else_branch p s a = on (is_one p) refl
    where
      on : (b : Bool) → is_one p ≡ b → Otherwise p (branch_text (is_one p) p (list_text nothing_yet p))
      on false e = subst (λ b. Otherwise p (branch_text b p (list_text nothing_yet p))) (sym e) (record { flag = false; said = in_block p s })
      on true e =
          let x = a e in
          subst (λ b. Otherwise p (branch_text b p (list_text nothing_yet p))) (sym e) (record { flag = x.flag; said = record { tokens = x.tokens; are = bare x.is; phrase = x.phrase } })

  -- if, then, else
  if_phrase : (cs us : List TextToken) (x y : List ℕ) → Phrase cs x → Phrase us y → Phrase (word IF ∷ (cs ++ word THEN ∷ us)) (word_bytes IF ␣ x ␣ word_bytes THEN ␣ y)
  if_phrase cs us x y p q =
      spaced (word IF ∷ []) (cs ++ word THEN ∷ us) (word_bytes IF) (x ␣ word_bytes THEN ␣ y) (a_word (word IF) (λ b. refl))
      (spaced cs (word THEN ∷ us) x (word_bytes THEN ␣ y) p (spaced (word THEN ∷ []) us (word_bytes THEN) y (a_word (word THEN) (λ b. refl)) q))

  branching : (c : Rattle.programs.specs.Program.Condition) (l m : TextProgram) → Said (λ ts. ConditionIs v parentheses ts c) (condition_text c)
      → Said (λ ts. BranchIs v false ts l) (branch_text (is_plain_one l) l (list_text nothing_yet l)) → Otherwise m (branch_text (is_one m) m (list_text nothing_yet m)) → Stated (branch c l m)
  branching c l done a b d = record {
    flag = true;
    tokens = word IF ∷ (a.tokens ++ word THEN ∷ b.tokens);
    is = if_then a.are b.are refl;
    phrase = subst (λ x. Phrase (word IF ∷ (a.tokens ++ word THEN ∷ b.tokens)) (word_bytes IF ␣ condition_text c ␣ word_bytes THEN ␣ x)) (sym (append-nil (branch_text (is_plain_one l) l (list_text nothing_yet l))))
        (if_phrase a.tokens b.tokens (condition_text c) (branch_text (is_plain_one l) l (list_text nothing_yet l)) a.phrase b.phrase);
    no_if = λ e. e;
  }
  branching c l (step t p) a b d =
      let us = b.tokens ++ word ELSE ∷ d.said.tokens in
      let x = branch_text (is_plain_one l) l (list_text nothing_yet l) in
      let y = branch_text (is_one (step t p)) (step t p) (list_text nothing_yet (step t p)) in
      record {
        flag = d.flag;
        tokens = word IF ∷ (a.tokens ++ word THEN ∷ us);
        is = if_else a.are b.are d.said.are refl;
        phrase = if_phrase a.tokens us (condition_text c) (x ++ else_text (step t p) (list_text nothing_yet (step t p))) a.phrase
            (spaced b.tokens (word ELSE ∷ d.said.tokens) x (word_bytes ELSE ␣ y) b.phrase (spaced (word ELSE ∷ []) d.said.tokens (word_bytes ELSE) y (a_word (word ELSE) (λ b. refl)) d.said.phrase));
        no_if = λ e. absurd (let z : ◌≡◌ {A = ℕ} 0 1 = cc in omega arith);
      }

  -- how deep it nests
  abbrev statement_depth : TextStatement → ℕ
  statement_depth t = Rattle.programs.specs.Limits.statement_nesting (Rattle.notation.specs.Program.statement_in (λ n. 0) (λ s. 0) t)

  assigning : (a : ℕ) (x : Operand) (t : TextStatement) → Attribute a → OperandFits x → operand_allowed v x ≡ true → t ≡ assigned a x → is_if t ≡ false → statement_text t ≡ assignment a x → Stated t
  assigning a x t h k e i j f = record {
    flag = false;
    tokens = attribute plain a ∷ sign ASSIGNED ∷ operand_token x ∷ [];
    is = assigns (of_either h) (operand_is v x k e) (ap only i);
    phrase = subst (λ z. Phrase (attribute plain a ∷ sign ASSIGNED ∷ operand_token x ∷ []) z) (sym f)
        (spaced (attribute plain a ∷ []) (sign ASSIGNED ∷ operand_token x ∷ []) (token_bytes (attribute plain a)) (58 ∷ 61 ∷ [] ␣ token_bytes (operand_token x)) (a_word (attribute plain a) (λ b. refl))
        (spaced (sign ASSIGNED ∷ []) (operand_token x ∷ []) (58 ∷ 61 ∷ []) (token_bytes (operand_token x)) (closed_alone (sign ASSIGNED) (λ b. refl)) (operand_phrase x)));
    no_if = λ z. refl;
  }

  mutual
    stated : (t : TextStatement) → SoundStatement v t → statement_depth t ≤ parentheses → is_item t ≡ false → Stated t
    stated (become a n) h d e = assigning a (constant n) (become a n) h.0 h.1 refl refl refl refl
    stated (copy a b) h d e = assigning a (current b) (copy a b) h.0 h.1 refl refl refl refl
    stated (recall a b) h d e = assigning a (recalled b) (recall a b) h.0.0 h.0.1 h.1 refl refl refl
    stated reject h d e = record { flag = false; tokens = word REJECT ∷ []; is = rejects; phrase = a_word (word REJECT) (λ b. refl); no_if = λ z. refl }
    stated (print_start n) h d e = absurd (let z : ◌≡◌ {A = ℕ} 0 1 = cc in omega arith)
    stated (print_end n) h d e = absurd (let z : ◌≡◌ {A = ℕ} 0 1 = cc in omega arith)
    stated (print_text s) h d e = absurd (let z : ◌≡◌ {A = ℕ} 0 1 = cc in omega arith)
    stated (echo true) h d e = record { flag = false; tokens = word ECHO ∷ []; is = echo_on h; phrase = a_word (word ECHO) (λ b. refl); no_if = λ z. refl }
    stated (echo false) h d e = record { flag = false; tokens = word ECHO-OFF ∷ []; is = echo_off h; phrase = a_word (word ECHO-OFF) (λ b. refl); no_if = λ z. refl }
    stated (branch c l m) h d e =
        branching c l m (condition_said v c h.0.0 h.0.1 parentheses (omega arith)) (then_branch l (listed l h.1.0 (omega arith)) (λ o. alone l h.1.0 (omega arith) o)) (else_branch m (listed m h.1.1 (omega arith)) (λ o. alone m h.1.1 (omega arith) o))

    alone : (p : TextProgram) → Sound v p → nesting_of p ≤ parentheses → is_one p ≡ true → Alone p
    alone done h d e = absurd (let z : ◌≡◌ {A = ℕ} 0 1 = cc in omega arith)
    alone (step t p) h d e = alone_step t p e h.0 h.1 (λ i. stated t h.0 (omega arith) i)

    pub listed : (p : TextProgram) → Sound v p → nesting_of p ≤ parentheses → Said (λ ts. ListIs v ts p) (list_text nothing_yet p)
    listed done h d = record { tokens = []; are = ListIs.empty; phrase = empty_phrase }
    listed (step t p) h d = list_step t p h.0 (λ i. stated t h.0 (omega arith) i) (after_statement p h.1 (omega arith)) (after_print p h.1 (omega arith))

    after_statement : (p : TextProgram) → Sound v p → nesting_of p ≤ parentheses → AfterStatement p
    after_statement done h d = after_statement_done
    after_statement (step t p) h d = after_statement_step t p h.0 (λ i. stated t h.0 (omega arith) i) (after_statement p h.1 (omega arith)) (after_print p h.1 (omega arith))

    after_print : (p : TextProgram) → Sound v p → nesting_of p ≤ parentheses → AfterPrint p
    after_print done h d = after_print_done
    after_print (step t p) h d = after_print_step t p h.0 (λ i. stated t h.0 (omega arith) i) (after_statement p h.1 (omega arith)) (after_print p h.1 (omega arith))

  pub program_said : (p : TextProgram) → Sound v p → nesting_of p ≤ parentheses → Said (λ ts. BracesAre v ts (Option.some p)) (program_text p)
  program_said p h d =
      let s = listed p h d in
      record {
        tokens = sign BRACE ∷ (s.tokens ++ sign UNBRACE ∷ []);
        are = braces s.are;
        phrase = closed (sign BRACE) (λ b. refl) (s.tokens ++ sign UNBRACE ∷ []) (list_text nothing_yet p ++ 125 ∷ []) (joined s.tokens (sign UNBRACE ∷ []) (list_text nothing_yet p) (125 ∷ []) s.phrase (closed_alone (sign UNBRACE) (λ b. refl)) (λ z q. refl));
      }
