-- What a text of rules mentions, token by token. Assumes nothing.
use mathlib.Core.Path.{◌≡◌, refl, sym, ◌∙◌, ap, subst}
use mathlib.Core.Logic.{◌⊎◌, inl, inr}
use mathlib.Core.Option.{Option, none, some}
use mathlib.Core.List.{List, [], ◌∷◌, ◌++◌, append_assoc, append-nil}
use Prim.Native.Nat.{ℕ}
use Rattle.programs.specs.Limits.{Visit, first, second}
use Rattle.notation.specs.Program.{TextProgram}
use Rattle.notation.specs.Rules.{Tree, TextRule, Rules}
use Rattle.notation.specs.Tokens.{TextToken, nonterminal, value, attribute, name, start_tag, end_tag, empty_tag, string, word, sign, Sign, DEFINED, ASSIGNED, OPEN, CLOSE, BRACE, UNBRACE, DOT, BAR, STAR, SEMICOLON, EQUALS}
use Rattle.encoding.specs.Mentions.{Mention, a_tag, a_program, in_program, in_braces, in_content, in_rule, in_rules}
use Rattle.reading.specs.Machine.{and_then, walk}
use Rattle.reading.specs.Tests.{tag_name?}
use Rattle.reading.specs.Statements.{Listing, list_start, step_statements, value_of_list}
use Rattle.reading.specs.Expressions.{Parsing, fresh_expression, nonterminal?, piece_of, unbraces, listing, step_expression, value_of_content}
use Rattle.reading.specs.Rules.{Key, a_nonterminal, a_name, a_definition, an_open, a_close, a_brace, other, key_if, key_of, Head, head, Progress, beginning, first_word, named, defined, own_front, wants_tag, tagged, within, closed, own_back, complete, rule_read, next_head, step_key, closes_content, parsing, step_rules, value_of_rules}
use Rattle.reading.proofs.Telling.{none≢some}
use Rattle.sketches.specs.Sketched.{listing_in, listing_of}
use Rattle.mentions.specs.SoFar.{in_listing, in_parsing, so_far, in_token, mention_with, mention_of, TidyList, TidyParsing, Tidy}
use Rattle.mentions.specs.Promises.{Grown, GrowsByToken, MentionsAll, BeginsAll}
use Rattle.mentions.proofs.Statements.{list_grows, list_value}
use Rattle.mentions.proofs.Expressions.{outside_mentions, inside_mentions, unbraced, unbraced_mentions, parsing_grows, content_value}

abbrev Ms : Type 0
Ms = List Mention

rules_mentions : (rs ss : List TextRule) → in_rules (rs ++ ss) ≡ in_rules rs ++ in_rules ss
rules_mentions [] ss = refl
rules_mentions (r ∷ rs) ss = ap (λ (z : Ms). in_rule r ++ z) (rules_mentions rs ss) ∙ sym (append_assoc (in_rule r) (in_rules rs) (in_rules ss))

rule_behind : (h : Head) (r : TextRule) → in_rules (h.earlier ++ r ∷ []) ≡ in_rules h.earlier ++ in_rule r
rule_behind h r = rules_mentions h.earlier (r ∷ []) ∙ ap (λ (z : Ms). in_rules h.earlier ++ z) (append-nil (in_rule r))

no_second : (f : Option TextProgram) (t : List ℕ) (e : Option Tree) (h : Head) → in_rule (rule_read f none t e h) ≡ in_braces f ++ (a_tag t ∷ in_content e)
no_second f t e h = ap (λ (z : Ms). in_braces f ++ (a_tag t ∷ z)) (append-nil (in_content e))

abbrev KeyFits : TextToken → Key → Type 0
KeyFits t (a_nonterminal n) = in_token t ≡ []
KeyFits t (a_name n) = in_token t ≡ a_tag n ∷ []
KeyFits t a_definition = in_token t ≡ []
KeyFits t an_open = in_token t ≡ []
KeyFits t a_close = in_token t ≡ []
KeyFits t a_brace = in_token t ≡ []
KeyFits t other = Unit {0}

key_if_lem : {P : Type 0} (d : Dec P) (t : TextToken) (k : Key) → KeyFits t k → KeyFits t (key_if d k)
key_if_lem (yes h) t k f = f
key_if_lem (no h) t k f = tt

key_fits : (t : TextToken) → KeyFits t (key_of t)
key_fits (nonterminal n) = key_if_lem (nonterminal? n) (nonterminal n) (a_nonterminal n) refl
key_fits (value v) = tt
key_fits (attribute m a) = tt
key_fits (name n) = key_if_lem (tag_name? n) (name n) (a_name n) refl
key_fits (start_tag n) = tt
key_fits (end_tag n) = tt
key_fits (empty_tag n) = tt
key_fits (string cs) = tt
key_fits (word w) = tt
key_fits (sign DEFINED) = refl
key_fits (sign ASSIGNED) = tt
key_fits (sign OPEN) = refl
key_fits (sign CLOSE) = refl
key_fits (sign BRACE) = refl
key_fits (sign UNBRACE) = tt
key_fits (sign DOT) = tt
key_fits (sign BAR) = tt
key_fits (sign STAR) = tt
key_fits (sign SEMICOLON) = tt
key_fits (sign EQUALS) = tt

record GrownTo (x ms : Ms) (s : Progress) : Type 0 where
  tidy : Tidy s
  grown : so_far s ≡ x ++ ms

grown_to : (x ms : Ms) (y z : Progress) → some y ≡ some z → Tidy y → so_far y ≡ x ++ ms → GrownTo x ms z
grown_to x ms y z e h k = let same : y ≡ z = cc in subst (GrownTo x ms) same (record { tidy = h; grown = k })

silently : (x ms : Ms) (y z : Progress) → some y ≡ some z → ms ≡ [] → Tidy y → so_far y ≡ x → GrownTo x ms z
silently x ms y z e n h k = grown_to x ms y z e h (k ∙ sym (append-nil x) ∙ ap (λ (m : Ms). x ++ m) (sym n))

key_grown : (s z : Progress) (t : TextToken) (k : Key) → KeyFits t k → step_key s k ≡ some z → GrownTo (so_far s) (in_token t) z
key_grown beginning z t (a_nonterminal n) f e = silently _ _ (first_word n) z e f tt refl
key_grown beginning z t (a_name u) f e = absurd (none≢some refl e)
key_grown beginning z t a_definition f e = absurd (none≢some refl e)
key_grown beginning z t an_open f e = absurd (none≢some refl e)
key_grown beginning z t a_close f e = absurd (none≢some refl e)
key_grown beginning z t a_brace f e = absurd (none≢some refl e)
key_grown beginning z t other f e = absurd (none≢some refl e)
key_grown (first_word s) z t (a_nonterminal n) f e = silently _ _ (named (head s [] n)) z e f tt refl
key_grown (first_word s) z t (a_name u) f e = absurd (none≢some refl e)
key_grown (first_word s) z t a_definition f e = silently _ _ (defined (head s [] s)) z e f tt refl
key_grown (first_word s) z t an_open f e = absurd (none≢some refl e)
key_grown (first_word s) z t a_close f e = absurd (none≢some refl e)
key_grown (first_word s) z t a_brace f e = absurd (none≢some refl e)
key_grown (first_word s) z t other f e = absurd (none≢some refl e)
key_grown (named h) z t (a_nonterminal n) f e = absurd (none≢some refl e)
key_grown (named h) z t (a_name u) f e = absurd (none≢some refl e)
key_grown (named h) z t a_definition f e = silently _ _ (defined h) z e f tt refl
key_grown (named h) z t an_open f e = absurd (none≢some refl e)
key_grown (named h) z t a_close f e = absurd (none≢some refl e)
key_grown (named h) z t a_brace f e = absurd (none≢some refl e)
key_grown (named h) z t other f e = absurd (none≢some refl e)
key_grown (defined h) z t (a_nonterminal n) f e = absurd (none≢some refl e)
key_grown (defined h) z t (a_name u) f e = grown_to _ _ (tagged none u h) z e tt (ap (λ (m : Ms). in_rules h.earlier ++ m) (sym f))
key_grown (defined h) z t a_definition f e = absurd (none≢some refl e)
key_grown (defined h) z t an_open f e = absurd (none≢some refl e)
key_grown (defined h) z t a_close f e = absurd (none≢some refl e)
key_grown (defined h) z t a_brace f e = silently _ _ (own_front list_start h) z e f refl (append-nil (in_rules h.earlier))
key_grown (defined h) z t other f e = absurd (none≢some refl e)
key_grown (own_front q h) z t k f e = absurd (none≢some refl e)
key_grown (wants_tag p h) z t (a_nonterminal n) f e = absurd (none≢some refl e)
key_grown (wants_tag p h) z t (a_name u) f e =
    grown_to _ _ (tagged p u h) z e tt (sym (append_assoc (in_rules h.earlier) (in_braces p) (a_tag u ∷ [])) ∙ ap (λ (m : Ms). (in_rules h.earlier ++ in_braces p) ++ m) (sym f))
key_grown (wants_tag p h) z t a_definition f e = absurd (none≢some refl e)
key_grown (wants_tag p h) z t an_open f e = absurd (none≢some refl e)
key_grown (wants_tag p h) z t a_close f e = absurd (none≢some refl e)
key_grown (wants_tag p h) z t a_brace f e = absurd (none≢some refl e)
key_grown (wants_tag p h) z t other f e = absurd (none≢some refl e)
key_grown (tagged p u h) z t (a_nonterminal n) f e = absurd (none≢some refl e)
key_grown (tagged p u h) z t (a_name v) f e = absurd (none≢some refl e)
key_grown (tagged p u h) z t a_definition f e = absurd (none≢some refl e)
key_grown (tagged p u h) z t an_open f e = silently _ _ (within (Parsing.wants _ fresh_expression []) p u h) z e f refl refl
key_grown (tagged p u h) z t a_close f e = absurd (none≢some refl e)
key_grown (tagged p u h) z t a_brace f e = absurd (none≢some refl e)
key_grown (tagged p u h) z t other f e = absurd (none≢some refl e)
key_grown (within x p u h) z t k f e = absurd (none≢some refl e)
key_grown (closed p u c h) z t (a_nonterminal n) f e =
    silently _ _ (named (next_head (rule_read p none u c h) h n)) z e f tt (rule_behind h (rule_read p none u c h) ∙ ap (λ (m : Ms). in_rules h.earlier ++ m) (no_second p u c h))
key_grown (closed p u c h) z t (a_name v) f e = absurd (none≢some refl e)
key_grown (closed p u c h) z t a_definition f e = absurd (none≢some refl e)
key_grown (closed p u c h) z t an_open f e = absurd (none≢some refl e)
key_grown (closed p u c h) z t a_close f e = absurd (none≢some refl e)
key_grown (closed p u c h) z t a_brace f e =
    silently _ _ (own_back list_start p u c h) z e f refl (ap (λ (m : Ms). in_rules h.earlier ++ (in_braces p ++ (a_tag u ∷ m))) (append-nil (in_content c)))
key_grown (closed p u c h) z t other f e = absurd (none≢some refl e)
key_grown (own_back q p u c h) z t k f e = absurd (none≢some refl e)
key_grown (complete r h) z t (a_nonterminal n) f e = silently _ _ (named (next_head r h n)) z e f tt (rule_behind h r)
key_grown (complete r h) z t (a_name v) f e = absurd (none≢some refl e)
key_grown (complete r h) z t a_definition f e = absurd (none≢some refl e)
key_grown (complete r h) z t an_open f e = absurd (none≢some refl e)
key_grown (complete r h) z t a_close f e = absurd (none≢some refl e)
key_grown (complete r h) z t a_brace f e = absurd (none≢some refl e)
key_grown (complete r h) z t other f e = absurd (none≢some refl e)

plain_grown : (s z : Progress) (t : TextToken) → step_key s (key_of t) ≡ some z → GrownTo (so_far s) (mention_with none t) z
plain_grown s z t e = subst (λ (m : Ms). GrownTo (so_far s) m z) (sym (outside_mentions t)) (key_grown s z t (key_of t) (key_fits t) e)

-- three in a row
pushed : (a b c d : Ms) → a ++ (b ++ (c ++ d)) ≡ (a ++ (b ++ c)) ++ d
pushed a b c d = ap (λ (z : Ms). a ++ z) (sym (append_assoc b c d)) ∙ sym (append_assoc a (b ++ c) d)

module _ (v : Visit) (q : Listing) (t : TextToken) (d : TidyList q) where
  -- a program goes on, or ends
  goes_on : (r : Listing) → step_statements v q t ≡ some r → in_listing r ≡ in_listing q ++ mention_with (some q) t
  goes_on r s = (list_grows v q r t d s).grown ∙ ap (λ (m : Ms). in_listing q ++ m) (sym (inside_mentions v q r t s))

  ends_with : (p : TextProgram) → t ≡ sign UNBRACE → value_of_list q ≡ some p → in_braces (some p) ≡ in_listing q ++ mention_with (some q) t
  ends_with p h e = ap (λ (m : Ms). m ++ a_program p ∷ []) (sym (list_value q p d e)) ∙ ap (λ (m : Ms). in_listing q ++ m) (sym (unbraced_mentions t q p h e))

  front_grown : (h : Head) (z : Progress) (o : Option Listing) → v ≡ first → step_statements v q t ≡ o
      → listing o (λ r. own_front r h) (unbraces (piece_of t) (value_of_list q) (λ p. wants_tag (some p) h)) ≡ some z → GrownTo (in_rules h.earlier ++ in_listing q) (mention_with (some q) t) z
  front_grown h z (some r) w s e =
      grown_to _ _ (own_front r h) z e (list_grows v q r t d s).tidy (ap (λ (m : Ms). in_rules h.earlier ++ m) (goes_on r s) ∙ sym (append_assoc (in_rules h.earlier) (in_listing q) (mention_with (some q) t)))
  front_grown h z none w s e =
      let u = unbraced t (value_of_list q) (λ p. wants_tag (some p) h) z e in
      grown_to _ _ (wants_tag (some u.program) h) z (ap some u.behind) tt
      (ap (λ (m : Ms). in_rules h.earlier ++ m) (ends_with u.program u.token_is u.is) ∙ sym (append_assoc (in_rules h.earlier) (in_listing q) (mention_with (some q) t)))

  back_grown : (p : Option TextProgram) (n : List ℕ) (c : Option Tree) (h : Head) (z : Progress) (o : Option Listing) → step_statements v q t ≡ o
      → listing o (λ r. own_back r p n c h) (unbraces (piece_of t) (value_of_list q) (λ g. complete (rule_read p (some g) n c h) h)) ≡ some z
      → GrownTo (in_rules h.earlier ++ (in_braces p ++ (a_tag n ∷ (in_content c ++ in_listing q)))) (mention_with (some q) t) z
  back_grown p n c h z (some r) s e =
      grown_to _ _ (own_back r p n c h) z e (list_grows v q r t d s).tidy
      (ap (λ (m : Ms). in_rules h.earlier ++ (in_braces p ++ (a_tag n ∷ m))) (ap (λ (m : Ms). in_content c ++ m) (goes_on r s) ∙ sym (append_assoc (in_content c) (in_listing q) (mention_with (some q) t)))
      ∙ pushed (in_rules h.earlier) (in_braces p) (a_tag n ∷ (in_content c ++ in_listing q)) (mention_with (some q) t))
  back_grown p n c h z none s e =
      let u = unbraced t (value_of_list q) (λ g. complete (rule_read p (some g) n c h) h) z e in
      grown_to _ _ (complete (rule_read p (some u.program) n c h) h) z (ap some u.behind) tt
      (ap (λ (m : Ms). in_rules h.earlier ++ (in_braces p ++ (a_tag n ∷ m))) (ap (λ (m : Ms). in_content c ++ m) (ends_with u.program u.token_is u.is) ∙ sym (append_assoc (in_content c) (in_listing q) (mention_with (some q) t)))
      ∙ pushed (in_rules h.earlier) (in_braces p) (a_tag n ∷ (in_content c ++ in_listing q)) (mention_with (some q) t))

module _ (x : Parsing) (p : Option TextProgram) (u : List ℕ) (h : Head) (t : TextToken) (d : TidyParsing x) where
  closes_grown : (k : Key) (o : Option (Option Tree)) (z : Progress) → KeyFits t k → value_of_content x ≡ o → closes_content k o p u h ≡ some z → GrownTo (so_far (within x p u h)) (mention_with (listing_in x) t) z
  closes_grown (a_nonterminal n) o z f w e = absurd (none≢some refl e)
  closes_grown (a_name n) o z f w e = absurd (none≢some refl e)
  closes_grown a_definition o z f w e = absurd (none≢some refl e)
  closes_grown an_open o z f w e = absurd (none≢some refl e)
  closes_grown a_close none z f w e = absurd (none≢some refl e)
  closes_grown a_close (some c) z f w e =
      let k = content_value x c d w in
      silently _ _ (closed p u c h) z e (ap (λ (o : Option Listing). mention_with o t) k.no_program ∙ outside_mentions t ∙ f) tt
      (ap (λ (m : Ms). in_rules h.earlier ++ (in_braces p ++ (a_tag u ∷ m))) (sym k.mentions))
  closes_grown a_brace o z f w e = absurd (none≢some refl e)
  closes_grown other o z f w e = absurd (none≢some refl e)

  within_grown : (z : Progress) (o : Option Parsing) → step_expression x t ≡ o → parsing o (closes_content (key_of t) (value_of_content x) p u h) p u h ≡ some z
      → GrownTo (so_far (within x p u h)) (mention_with (listing_in x) t) z
  within_grown z none s e = closes_grown (key_of t) (value_of_content x) z (key_fits t) refl e
  within_grown z (some y) s e =
      let g = parsing_grows x y t d s in
      grown_to _ _ (within y p u h) z e g.tidy
      (ap (λ (m : Ms). in_rules h.earlier ++ (in_braces p ++ (a_tag u ∷ m))) g.grown ∙ pushed (in_rules h.earlier) (in_braces p) (a_tag u ∷ in_parsing x) (mention_with (listing_in x) t))

step_grown : (s z : Progress) (t : TextToken) → Tidy s → step_rules s t ≡ some z → GrownTo (so_far s) (mention_of s t) z
step_grown beginning z t d e = plain_grown beginning z t e
step_grown (first_word n) z t d e = plain_grown (first_word n) z t e
step_grown (named h) z t d e = plain_grown (named h) z t e
step_grown (defined h) z t d e = plain_grown (defined h) z t e
step_grown (own_front q h) z t d e = front_grown first q t d h z (step_statements first q t) refl refl e
step_grown (wants_tag p h) z t d e = plain_grown (wants_tag p h) z t e
step_grown (tagged p u h) z t d e = plain_grown (tagged p u h) z t e
step_grown (within x p u h) z t d e = within_grown x p u h t d z (step_expression x t) refl e
step_grown (closed p u c h) z t d e = plain_grown (closed p u c h) z t e
step_grown (own_back q p u c h) z t d e = back_grown second q t d p u c h z (step_statements second q t) refl e
step_grown (complete r h) z t d e = plain_grown (complete r h) z t e

pub grows_by_token : GrowsByToken
grows_by_token s z t d e = let g = step_grown s z t d e in record { tidy = g.tidy; grown = g.grown }

pub mentions_all : MentionsAll
mentions_all beginning r d e = absurd (none≢some refl e)
mentions_all (first_word n) r d e = absurd (none≢some refl e)
mentions_all (named h) r d e = absurd (none≢some refl e)
mentions_all (defined h) r d e = absurd (none≢some refl e)
mentions_all (own_front q h) r d e = absurd (none≢some refl e)
mentions_all (wants_tag f h) r d e = absurd (none≢some refl e)
mentions_all (tagged f t h) r d e = absurd (none≢some refl e)
mentions_all (within x f t h) r d e = absurd (none≢some refl e)
mentions_all (closed f t c h) r d e =
    let same : h.earlier ++ rule_read f none t c h ∷ [] ≡ r.productions = cc in
    ap (λ (m : Ms). in_rules h.earlier ++ m) (sym (no_second f t c h)) ∙ sym (rule_behind h (rule_read f none t c h)) ∙ ap in_rules same
mentions_all (own_back q f t c h) r d e = absurd (none≢some refl e)
mentions_all (complete u h) r d e = let same : h.earlier ++ u ∷ [] ≡ r.productions = cc in sym (rule_behind h u) ∙ ap in_rules same

pub begins_all : BeginsAll
begins_all s z [] r d w e = let same : s ≡ z = cc in ([], sym (append-nil (so_far s) ∙ mentions_all s r d (ap value_of_rules same ∙ e)))
begins_all s z (t ∷ ts) r d w e = on (λ y k v. begins_all y z ts r k v e) (step_rules s t) refl
  where
    on : ((y : Progress) → Tidy y → walk step_rules y ts ≡ some z → (more : Ms) × (in_rules r.productions ≡ so_far y ++ more))
        → (o : Option Progress) → step_rules s t ≡ o → (more : Ms) × (in_rules r.productions ≡ so_far s ++ more)
    on ih none h = absurd (none≢some (ap (λ o. and_then o (λ y. walk step_rules y ts)) h) w)
    on ih (some y) h =
        let g = grows_by_token s y t d h in
        let b = ih y g.tidy (sym (ap (λ o. and_then o (λ y. walk step_rules y ts)) h) ∙ w) in
        (mention_of s t ++ b.0, b.1 ∙ ap (λ (m : Ms). m ++ b.0) g.grown ∙ append_assoc (so_far s) (mention_of s t) b.0)
