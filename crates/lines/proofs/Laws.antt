-- A production's line from its parts, and all lines one after the other. Assumes nothing.
use mathlib.Core.Path.{◌≡◌, refl, sym, ap, ◌∙◌, subst}
use mathlib.Core.Bool.{Bool, true, false}
use mathlib.Core.List.{List, [], ◌∷◌, ◌++◌, append_assoc}
use mathlib.Core.Option.{Option, none, some}
use Prim.Native.Nat.{ℕ, suc, ◌+◌, ◌-◌, ◌*◌, ◌≤◌, ◌<◌}
use native.Mathlib.Omega.{arith}
use native.Mathlib.Numerals.{add-one}
use lib.ListN.{length, get_or, take, drop, length-append, length-take}
use Rattle.lent.specs.Put.{put, PutAs}
use Rattle.lent.proofs.Laws.{put_append, put_none, nothing_put}
use Rattle.output.proofs.Writing.{put_then, same_bytes}
use Rattle.expressions.specs.Expr.{nodes}
use Rattle.programs.specs.Limits.{Visit, first, second}
use Rattle.layout.specs.Layout.{production_count, start}
use Rattle.layout.specs.Records.{nonterminal_of, tag_number_of, first_node_of, node_count_of, first_program_of, second_program_of}
use Rattle.sheet.specs.Sheet.{Sheet}
use Rattle.notation.specs.Program.{TextProgram}
use Rattle.notation.specs.Rules.{Tree, node, expression, TextRule, Rules}
use Rattle.notation.specs.Tokens.{nonterminal, token_bytes}
use Rattle.packing.specs.Packs.{Packs}
use Rattle.printed.specs.Expressions.{content_text}
use Rattle.printed.specs.Text.{rule_text, lines_of, text_of}
use Rattle.visits.specs.Written.{Pen, Written, TagNameAt}
use Rattle.visits.proofs.Printing.{nothing_due, just, record_inside, name_length, name_is}
use Rattle.clauses.proofs.Laws.{decimal_short}
use Rattle.asides.specs.Asides.{aside_text, most_of_an_aside, FieldNamed, FieldText}
use Rattle.asides.proofs.Laws.{asides_are_theirs}
use Rattle.boughs.specs.Boughs.{TreeNamed, inside_text, most_of_a_node, TreePut}
use Rattle.boughs.proofs.Laws.{some_nodes}
use Rattle.lines.specs.Lines.{InsideNamed, RuleNamed, RulesNamed, head_of, inside_of, element_of, line_of, most_of_a_head, most_inside, most_of_a_line, most_of_a_text, RulePut, LinesPut}

-- ---- a name
pub name_put : (s : List ℕ) (t m from to : ℕ) (p : Pen) (r : ℕ) (d : List ℕ) → m ≡ get_or s (16 * t) 0 → m < 256 → from ≡ 16 * t + 1 → to ≡ from + m
    → PutAs p.write p.lent p.at (take (to - from) (drop from s)) d r → Written 255 (TagNameAt s t) p r d
name_put s t m from to p r d mis small fis tis P =
    just 255 (TagNameAt s t) p (take (to - from) (drop from s)) r d P (omega (arith, length-take (to - from) (drop from s)))
    (λ n u.
    let len : to - from ≡ length n = omega (arith, name_length s t n u) in
    sym (ap (λ (k : ℕ). take k (drop from s)) len ∙ ap (λ (k : ℕ). take (length n) (drop k s)) fis ∙ name_is s t n u))

pub no_name : (s : List ℕ) (t : ℕ) (p : Pen) → ((n : List ℕ) → TagNameAt s t n → ⊥) → Written 255 (TagNameAt s t) p p.at p.lent
no_name s t p h = nothing_due 255 (TagNameAt s t) p (λ w u. absurd (h w u))

module _ (s : List ℕ) (q : ℕ) (p : Pen) where
  -- ---- between the parentheses
  pub no_content : node_count_of s q ≡ 0 → RulePut most_inside inside_of s q p p.at p.lent
  no_content e = record { reach = omega arith; right = λ a z x h. on a z x.inside h.inside_is }
    where
      on : (a : Sheet) (z : Packs s a) (o : Option Tree) → InsideNamed s a z q o → PutAs p.write p.lent p.at (content_text o) p.lent p.at
      on a z none h = nothing_put p.write p.lent p.at
      on a z (some t) h = absurd (omega (arith, h.1, e, some_nodes t))

  pub content : (i n : ℕ) → i ≡ first_node_of s q → n ≡ node_count_of s q → n < 256 → (n ≡ 0 → ⊥) → (r : Rattle.boughs.specs.declared.Placed.Placed) (d : List ℕ) → TreePut 2 inside_text s i n p r d
      → RulePut most_inside inside_of s q p r.at d
  content i n ei en small f r d T = record { reach = omega (arith, T.reach, T.high); right = λ a z x h. on a z x.inside h.inside_is }
    where
      on : (a : Sheet) (z : Packs s a) (o : Option Tree) → InsideNamed s a z q o → PutAs p.write p.lent p.at (content_text o) d r.at
      on a z none h = absurd (f (en ∙ h))
      on a z (some (node u v k)) h = (T.right a z (node u v k) (subst (λ (m : ℕ). TreeNamed s a z m (node u v k)) (sym ei) h.0) (omega (arith, h.1, en))).1

  -- ---- the tag around it
  pub element : (t : ℕ) → t ≡ tag_number_of s q → (d₁ d₂ d₃ d₄ : List ℕ) (n₁ n₂ n₃ n₄ : ℕ) → Written 255 (TagNameAt s t) p n₁ d₁ → PutAs p.write d₁ n₁ (40 ∷ []) d₂ n₂
      → RulePut most_inside inside_of s q (record { write = p.write; lent = d₂; at = n₂ }) n₃ d₃ → PutAs p.write d₃ n₃ (41 ∷ []) d₄ n₄ → RulePut (most_inside + 257) element_of s q p n₄ d₄
  element t e d₁ d₂ d₃ d₄ n₁ n₂ n₃ n₄ N P C Q =
      record {
        reach = omega (arith, N.reach, P.next, C.reach, Q.next);
        right = λ a z x h. put_then _ _ _ _ _ _ _ _ _ (N.right x.tag (subst (λ (m : ℕ). TagNameAt s m x.tag) (sym e) h.tag_is)) (put_then _ _ _ _ _ _ _ _ _ P (put_then _ _ _ _ _ _ _ _ _ (C.right a z x h) Q));
      }

  -- ---- the line
  named : (a : Sheet) (z : Packs s a) (v : Visit) (k m : ℕ) (b : Bool) (o : Option TextProgram) → k ≡ m → FieldNamed s a z v m o → FieldText s k b (aside_text b o)
  named a z v k m b o e h = record { sheet = a; packs = z; visit = v; program = o; names = subst (λ (x : ℕ). FieldNamed s a z v x o) (sym e) h; bytes = refl }

  pub head : (n f : ℕ) → n ≡ nonterminal_of s q → f ≡ first_program_of s q → (d₁ d₂ d₃ : List ℕ) (n₁ n₂ n₃ : ℕ) → PutAs p.write p.lent p.at (token_bytes (nonterminal n)) d₁ n₁
      → PutAs p.write d₁ n₁ (32 ∷ 58 ∷ 58 ∷ 61 ∷ 32 ∷ []) d₂ n₂ → Written most_of_an_aside (FieldText s f true) (record { write = p.write; lent = d₂; at = n₂ }) n₃ d₃ → RulePut most_of_a_head head_of s q p n₃ d₃
  head n f en ef d₁ d₂ d₃ n₁ n₂ n₃ N S F = record { reach = omega (arith, N.next, decimal_short n, S.next, F.reach); right = go }
    where
      go : (a : Sheet) (z : Packs s a) (x : TextRule) → RuleNamed s a z q x → PutAs p.write p.lent p.at (head_of x) d₃ n₃
      go a z x h =
          let u = x.own.first_visit in
          let A = F.right (aside_text true u) (named a z first f (first_program_of s q) true u ef h.own_are.first_is) in
          let K = subst (λ (m : ℕ). PutAs p.write p.lent p.at (token_bytes (nonterminal m)) d₁ n₁) (en ∙ sym h.nonterminal_is) N in
          put_then _ _ _ _ _ _ _ _ _ K (put_then _ _ _ _ _ _ _ _ _ S A)

  pub line : (g : ℕ) → g ≡ second_program_of s q → (d₁ d₂ d₃ d₄ : List ℕ) (n₁ n₂ n₃ n₄ : ℕ) → RulePut most_of_a_head head_of s q p n₁ d₁
      → RulePut (most_inside + 257) element_of s q (record { write = p.write; lent = d₁; at = n₁ }) n₂ d₂
      → Written most_of_an_aside (FieldText s g false) (record { write = p.write; lent = d₂; at = n₂ }) n₃ d₃ → PutAs p.write d₃ n₃ (10 ∷ []) d₄ n₄ → RulePut most_of_a_line line_of s q p n₄ d₄
  line g eg d₁ d₂ d₃ d₄ n₁ n₂ n₃ n₄ H E G L = record { reach = omega (arith, H.reach, E.reach, G.reach, L.next); right = go }
    where
      whole : (x : TextRule) → head_of x ++ (element_of x ++ aside_text false x.own.second_visit) ≡ rule_text x
      whole x =
          let n = token_bytes (nonterminal x.nonterminal) in
          let u = x.own.first_visit in
          let v = x.own.second_visit in
          append_assoc n (32 ∷ 58 ∷ 58 ∷ 61 ∷ 32 ∷ aside_text true u) (element_of x ++ aside_text false v) ∙ ap (λ (l : List ℕ). n ++ 32 ∷ 58 ∷ 58 ∷ 61 ∷ 32 ∷ l) (asides_are_theirs u v (element_of x))

      go : (a : Sheet) (z : Packs s a) (x : TextRule) → RuleNamed s a z q x → PutAs p.write p.lent p.at (line_of x) d₄ n₄
      go a z x h =
          let v = x.own.second_visit in
          let B = G.right (aside_text false v) (named a z second g (second_program_of s q) false v eg h.own_are.second_is) in
          put_then _ _ _ _ _ _ _ _ _ (same_bytes _ _ _ _ (rule_text x) _ _ (whole x) (put_then _ _ _ _ _ _ _ _ _ (H.right a z x h) (put_then _ _ _ _ _ _ _ _ _ (E.right a z x h) B))) L

-- ---- all lines: those from q on are left to write at n
pub record Left (s : List ℕ) (p : Pen) (q n : ℕ) (d : List ℕ) (a : Sheet) (z : Packs s a) (xs : List TextRule) : Type 0 where
  pub rules : List TextRule
  pub are : RulesNamed s a z q rules
  pub long : n + length (lines_of rules) ≡ p.at + length (lines_of xs)
  pub due : put p.write d n (lines_of rules) ≡ put p.write p.lent p.at (lines_of xs)

abbrev pub LinesLeft : List ℕ → Pen → ℕ → ℕ → List ℕ → Type 0
LinesLeft s p q n d = (a : Sheet) (z : Packs s a) (xs : List TextRule) → RulesNamed s a z 0 xs → Left s p q n d a z xs

module _ (s : List ℕ) (p : Pen) where
  pub all_left : LinesLeft s p 0 p.at p.lent
  all_left a z xs h = record { rules = xs; are = h; long = refl; due = refl }

  pub one_less : (q n n' : ℕ) (d d' : List ℕ) → q < production_count s → LinesLeft s p q n d → RulePut most_of_a_line line_of s q (record { write = p.write; lent = d; at = n }) n' d' → LinesLeft s p (q + 1) n' d'
  one_less q n n' d d' low L R a z xs h = let l = L a z xs h in on l.rules l.are l.long l.due
    where
      on : (ys : List TextRule) → RulesNamed s a z q ys → n + length (lines_of ys) ≡ p.at + length (lines_of xs) → put p.write d n (lines_of ys) ≡ put p.write p.lent p.at (lines_of xs) → Left s p (q + 1) n' d' a z xs
      on [] e long due = absurd (omega (arith, e, low))
      on (y ∷ ys) e long due =
          let P = R.right a z y e.0 in
          let same : line_of y ++ lines_of ys ≡ rule_text y ++ 10 ∷ lines_of ys = append_assoc (rule_text y) (10 ∷ []) (lines_of ys) in
          record {
            rules = ys;
            are = subst (λ (m : ℕ). RulesNamed s a z m ys) (sym (add-one q)) e.1;
            long = omega (arith, P.next, long, ap length same, length-append (line_of y) (lines_of ys));
            due = ap (λ (m : List ℕ). put p.write m n' (lines_of ys)) P.left ∙ ap (λ (k : ℕ). put p.write (put p.write d n (line_of y)) k (lines_of ys)) P.next
                ∙ put_append p.write d n (line_of y) (lines_of ys) ∙ ap (λ (m : List ℕ). put p.write d n m) same ∙ due;
          }

  pub none_left : (q n : ℕ) (d : List ℕ) → production_count s ≤ q → n ≤ p.at + most_of_a_line * 64 → LinesLeft s p q n d → LinesPut s p n d
  none_left q n d high reach L = record { reach = reach; right = λ a z xs h. let l = L a z xs h in on a z xs l.rules l.are l.long l.due }
    where
      past : (a : Sheet) (z : Packs s a) (k : ℕ) (ys : List TextRule) → RulesNamed s a z k ys → k + length ys ≡ production_count s
      past a z k [] e = omega (arith, e)
      past a z k (y ∷ ys) e = omega (arith, past a z (suc k) ys e.1)

      on : (a : Sheet) (z : Packs s a) (xs ys : List TextRule) → RulesNamed s a z q ys → n + length (lines_of ys) ≡ p.at + length (lines_of xs)
          → put p.write d n (lines_of ys) ≡ put p.write p.lent p.at (lines_of xs) → PutAs p.write p.lent p.at (lines_of xs) d n
      on a z xs [] e long due = record { next = omega (arith, long); left = sym (put_none p.write d n) ∙ due }
      on a z xs (y ∷ ys) e long due = absurd (omega (arith, high, past a z q (y ∷ ys) e))
