-- What is skipped and read tells the verdict, or leads on to the next token. Assumes nothing.
use mathlib.Core.Path.{◌≡◌, refl, sym, ◌∙◌, ap, subst}
use mathlib.Core.Bool.{Bool}
use mathlib.Core.List.{List, [], ◌∷◌, ◌++◌, append_assoc, append_cancel_left}
use mathlib.Core.Option.{none, some}
use Prim.Native.Nat.{ℕ, suc, ◌+◌, ◌≤◌, ◌<◌}
use native.Mathlib.Omega.{arith}
use lib.ListN.{length, take, drop, length-append}
use lib.Seq.{drop_at}
use Rattle.notation.specs.Rules.{Rules}
use Rattle.notation.specs.Tokens.{TextToken, token_bytes}
use Rattle.notation.specs.Gaps.{Gap, Ending}
use Rattle.reading.specs.Rules.{Progress, value_of_rules}
use Rattle.gaps.specs.declared.Skipped.{Skipped}
use Rattle.gaps.specs.Skipped.{SkippedIs, a_byte, the_end, a_comment}
use Rattle.lexing.specs.Front.{WholeToken, BeginsToken, Stuck}
use Rattle.lexemes.specs.declared.Lexeme.{Lexeme}
use Rattle.lexemes.specs.Kinds.{token_kind, token_number, MarkedKind, Lexed}
use Rattle.verdicts.specs.Judged.{Goes, TakesToken, NoGapFirst, Verdict, writes, refused_at, later, Judged, ended, early, stuck, no_comment}
use Rattle.verdicts.specs.Steps.{Marks, JudgesEnd, JudgesComment, JudgesStuck, Onward, JudgesToken}

pub judges_end : JudgesEnd
judges_end s x (the_end e) = (λ r h. ended e h, λ h. (length x, early e h))

pub judges_comment : JudgesComment
judges_comment s x i (a_comment {b = b} g c y h a e l n f) = subst (λ k. Judged s x (refused_at k)) (sym l) (no_comment {b = b} {g = g} c y e h a n f)

-- among the marked kinds and among what the machine takes it is the same
stuck_as : (s : Progress) (may : List Bool) (x : List ℕ) (k : ℕ) → Marks s may → Stuck (MarkedKind may) x k → Stuck (TakesToken s) x k
stuck_as s may x k m h = record {
  reached = h.reached;
  begun = λ i. let b = h.begun i in record { token = b.token; may = m.taken b.token b.may; rest = b.rest; are = b.are };
  no_further = λ i b. h.no_further i (record { token = b.token; may = m.marked b.token b.may; rest = b.rest; are = b.are });
  no_token = λ t w. h.no_token t (record { may = m.marked t w.may; rest = w.rest; are = w.are; follows = w.follows });
}

pub judges_stuck : JudgesStuck
judges_stuck s may x i k m (a_byte {b = b} g y h e l n f) (Lexed.no_token st) =
    let behind : drop i x ≡ b ∷ y = ap (drop i) e ∙ drop_at g (b ∷ y) i (sym l) in
    subst (λ j. Judged s x (refused_at (j + k))) (sym l) (stuck {g = g} {y = b ∷ y} {k = k} e h (n, f) (stuck_as s may (b ∷ y) k m (subst (λ z. Stuck (MarkedKind may) z k) behind st)))

pub judges_token : JudgesToken
judges_token s may x i k n l m (a_byte {b = b} g y h e j p f) (Lexed.a_token t w a c d) =
    let z = m.taken t w.may in
    let behind : drop i x ≡ b ∷ y = ap (drop i) e ∙ drop_at g (b ∷ y) i (sym j) in
    let are : x ≡ g ++ (token_bytes t ++ w.rest) = e ∙ ap (λ q. g ++ q) (sym behind ∙ w.are) in
    let rest : drop (i + l) x ≡ w.rest = ap (drop (i + l)) (are ∙ sym (append_assoc g (token_bytes t) w.rest)) ∙ drop_at (g ++ token_bytes t) w.rest (i + l) (length-append g (token_bytes t) ∙ omega (arith, j, d)) in
    let long : length g + length (token_bytes t) ≡ i + l = omega (arith, j, d) in
    record {
      token = t;
      kind = a;
      number = c;
      next = z.0;
      goes = z.1;
      judged = λ v q. subst (λ o. Judged s x (later o v)) long (Judged.token {g = g} {rest = w.rest} {v = v} t are h z.1 w.follows (subst (λ r. Judged z.0 r v) rest q));
    }
