-- What is found behind a gap. Assumes nothing.
use mathlib.Core.Path.{◌≡◌, sym, ◌∙◌, ap, subst}
use mathlib.Core.Bool.{Bool, true, false}
use mathlib.Core.List.{List, ◌∷◌, ◌++◌}
use Prim.Native.Nat.{ℕ, ◌+◌, ◌≤◌, ◌<◌}
use native.Mathlib.Omega.{arith}
use lib.ListN.{length, drop}
use lib.Seq.{drop-append_seam}
use Rattle.notation.specs.Tokens.{TextToken, token_bytes}
use Rattle.reading.specs.Rules.{Progress, value_of_rules}
use Rattle.telling.proofs.Acceptable.{taken_is_fine}
use Rattle.telling.proofs.Lexical.{solid}
use Rattle.gaps.specs.declared.Skipped.{Skipped}
use Rattle.gaps.specs.Skipped.{SkippedIs, a_byte, the_end}
use Rattle.lexemes.specs.declared.Lexeme.{Lexeme}
use Rattle.lexemes.specs.Kinds.{Lexed}
use Rattle.verdicts.specs.Judged.{Goes, TakesToken, early}
use Rattle.verdicts.proofs.Stepping.{judges_comment, judges_stuck}
use Rattle.sketches.specs.Figures.{present}
use Rattle.rulings.specs.declared.Reader.{Reader}
use Rattle.std.specs.Prelude.{Option as Taken, Some, None, IfSome, Ok, Err}
use Rattle.std.specs.Option.{unwrap_or}
use Rattle.rulings.specs.Readers.{Holds, Firm, Answered, goes, stays, AnswerIs, KindsTaken, EndIs}
use Rattle.rulings.proofs.Answers.{absent, there}
use Rattle.sights.specs.declared.Token.{Token}
use Rattle.sights.specs.Glances.{Met, Seen, meets, writes_rules, refuses, GlanceIs}
use Rattle.sights.proofs.Bounds.{token_within, stuck_within, bad_below}

abbrev pub taken : ℕ → ℕ → ℕ → ℕ → Reader → Token
taken i k n l r = record { at = i; kind = k; number = n; long = l; reader = r }

next_held : (s : Progress) (t : TextToken) (r : Reader) (a : Taken Reader) → TakesToken s t → Answered s t a → (s' : Progress) × Goes s t s' × Holds s' (unwrap_or a r)
next_held s t r a g (goes s' h i) = (s', h, i)
next_held s t r a g (stays f) = absurd (f g)

next_firm : (r : Reader) (a : Taken Reader) → Firm r → IfSome a Firm → Firm (unwrap_or a r)
next_firm r None f h = f
next_firm r (Some n) f h = h

token_long : (s : Progress) (t : TextToken) → TakesToken s t → 1 ≤ length (token_bytes t)
token_long s t g =
    let z = solid t (taken_is_fine s g.0 t g.1.taken).proper in
    subst (λ y. 1 ≤ length y) (sym z.are) (omega arith)

met : (s : Progress) (x : List ℕ) (r : Reader) (may : List Bool) (i k n l : ℕ) (a : Taken Reader) → SkippedIs x (Skipped.To i) → KindsTaken r may → Lexed may (drop i x) (Lexeme.Token k n l) → AnswerIs r k a → Holds s r
    → Met s x (taken i k n l (unwrap_or a r))
met s x r may i k n l a (a_byte {b = b} g y h e c o p) w (Lexed.a_token t u d f j) q v =
    let g' = (w s v).taken t u.may in
    let z = next_held s t r a g' (q.told s t v u.may.fit (sym d)) in
    let behind : b ∷ y ≡ token_bytes t ++ u.rest = sym (drop-append_seam g (b ∷ y)) ∙ ap (λ (m : ℕ). drop m (g ++ b ∷ y)) (sym c) ∙ ap (drop i) (sym e) ∙ u.are in
    record {
      token = t;
      next = z.0;
      stands = record {
        gap = g;
        is_gap = h;
        rest = u.rest;
        are = e ∙ ap (λ (m : List ℕ). g ++ m) behind;
        follows = u.follows;
        at_is = c;
        long_is = j;
        fits = u.may.fit;
        goes = z.1;
      };
      kind_is = d;
      number_is = f;
      onward = subst (λ (m : ℕ). 1 ≤ m) (sym j) (token_long s t g');
      holds = z.2;
    }

pub seen_token : (x : List ℕ) (r : Reader) (may : List Bool) (i k n l : ℕ) (a : Taken Reader) (next : Reader) → Firm r → (i < length x) × SkippedIs x (Skipped.To i) → KindsTaken r may → Lexed may (drop i x) (Lexeme.Token k n l) → AnswerIs r k a → next ≡ unwrap_or a r
    → GlanceIs x r (Ok (taken i k n l next))
seen_token x r may i k n l a next f h w y e u = subst (λ z. GlanceIs x r (Ok (taken i k n l z))) (sym u) (record {
  high = (token_within may x i k n l h.0 y).1;
  firm = next_firm r a f e.firm;
  told = λ s v. meets (met s x r may i k n l a h.1 w y e v);
})

pub seen_stuck : (x : List ℕ) (r : Reader) (may : List Bool) (i k : ℕ) → (i < length x) × SkippedIs x (Skipped.To i) → KindsTaken r may → Lexed may (drop i x) (Lexeme.Stuck k) → GlanceIs x r (Err (Err (i + k)))
seen_stuck x r may i k h w y = record {
  high = let z = stuck_within may x i k h.0 y in omega (arith, z);
  firm = tt;
  told = λ s u. refuses (judges_stuck s may x i k (w s u) h.1 y);
}

pub seen_comment : (x : List ℕ) (r : Reader) (i : ℕ) → SkippedIs x (Skipped.Bad i) → GlanceIs x r (Err (Err i))
seen_comment x r i h = record { high = bad_below x i h; firm = tt; told = λ s u. refuses (judges_comment s x i h) }

end_written : (s : Progress) (x : List ℕ) (b : Bool) → SkippedIs x Skipped.End → b ≡ true → b ≡ present (value_of_rules s) → Seen s x (Err (Ok tt))
end_written s x b (the_end e) y h = let v = there (value_of_rules s) (sym h ∙ y) in writes_rules v.0 v.1 e

end_refused : (s : Progress) (x : List ℕ) (b : Bool) → SkippedIs x Skipped.End → b ≡ false → b ≡ present (value_of_rules s) → Seen s x (Err (Err (length x)))
end_refused s x b (the_end e) y h = refuses (early e (absent (value_of_rules s) (sym h ∙ y)))

pub seen_whole : (x : List ℕ) (r : Reader) (b : Bool) → EndIs r b → SkippedIs x Skipped.End → b ≡ true → GlanceIs x r (Err (Ok tt))
seen_whole x r b w h y = record { high = tt; firm = tt; told = λ s u. end_written s x b h y (w s u) }

pub seen_early : (x : List ℕ) (r : Reader) (b : Bool) → EndIs r b → SkippedIs x Skipped.End → b ≡ false → GlanceIs x r (Err (Err (length x)))
seen_early x r b w h y = record { high = omega arith; firm = tt; told = λ s u. end_refused s x b h y (w s u) }
