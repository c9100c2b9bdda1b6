-- The printed text of rules is one of theirs. Assumes nothing.
use mathlib.Core.Path.{◌≡◌, refl, sym, ap, subst}
use mathlib.Core.List.{List, [], ◌∷◌, ◌++◌, append_assoc}
use mathlib.Core.Option.{Option, none, some}
use Prim.Native.Nat.{ℕ, suc, ◌≤◌}
use native.Mathlib.Omega.{arith}
use lib.ListN.{length}
use Rattle.programs.specs.Limits.{first, second}
use Rattle.notation.specs.Rules.{Tree, node, TextRule, Rules}
use Rattle.notation.specs.Limits.{ContentWithin, RuleWithin, EachWithin, WithinLimits}
use Rattle.notation.specs.Tokens.{TextToken, nonterminal, name, sign, DEFINED, OPEN, CLOSE, token_bytes}
use Rattle.notation.specs.Gaps.{Gap, gap}
use Rattle.notation.specs.Spelled.{TypedAs, end, token}
use Rattle.notation.specs.Statements.{parentheses}
use Rattle.notation.specs.Productions.{ContentIs, nothing, something, RuleIs, production, ProductionsAre, one, more, RulesAre, start_alone}
use Rattle.encoding.specs.Sound.{SoundContent, SoundRule, AllSound}
use Rattle.printed.specs.Spacing.{◌␣◌, in_parentheses}
use Rattle.printed.specs.Expressions.{program_in_front, program_behind, content_text}
use Rattle.printed.specs.Text.{rule_text, lines_of, text_of}
use Rattle.printed.specs.Promises.{PrintedIsText, EveryTextIsPrinted}
use Rattle.encoding.proofs.Sound.{sound}
use Rattle.printed.proofs.Phrases.{Phrase, empty_phrase, blank_front, a_word, closed, closed_alone, spaced, joined, Said}
use Rattle.printed.proofs.Expressions.{Braced, braced, in_parentheses_lem, inside_said, form_said}

content_said : (o : Option Tree) → SoundContent o → ContentWithin o → Said (λ ts. ContentIs ts o) (content_text o)
content_said none h w = record { tokens = []; are = nothing; phrase = empty_phrase }
content_said (some (node f g k)) h w =
    let s = inside_said parentheses f g k (braced first f h.0 w.programs.0.0) (braced second g h.1.0 w.programs.0.1) (form_said parentheses k h.1.1 w.programs.1 (omega (arith, w.shallow))) in
    record { tokens = s.tokens; are = something s.are; phrase = s.phrase }

-- a tag with its parentheses
tag_phrase : (n : List ℕ) (ts : List TextToken) (x : List ℕ) → Phrase ts x → Phrase (name n ∷ sign OPEN ∷ (ts ++ sign CLOSE ∷ [])) (n ++ in_parentheses x)
tag_phrase n ts x p = record {
  spells = λ us y q s. subst (λ z. TypedAs (name n ∷ sign OPEN ∷ ((ts ++ sign CLOSE ∷ []) ++ us)) z) (sym (append_assoc n (in_parentheses x) y))
      (token {g = []} {rest = in_parentheses x ++ y} (name n) Gap.none refl ((in_parentheses_lem ts x p).spells us y q s));
}

rule_said : (r : TextRule) → SoundRule r → RuleWithin r → Said (λ ts. RuleIs ts r) (rule_text r)
rule_said r h w =
    let f = braced first r.own.first_visit h.before w.own.0 in
    let g = braced second r.own.second_visit h.after w.own.1 in
    let s = content_said r.inside h.content w.inside in
    let x = r.tag ++ in_parentheses (content_text r.inside) in
    let tagged = name r.tag ∷ sign OPEN ∷ (s.tokens ++ sign CLOSE ∷ []) in
    let whole = f.front (tagged ++ g.tokens) (program_behind x r.own.second_visit) (g.back tagged x (tag_phrase r.tag s.tokens (content_text r.inside) s.phrase)) in
    let y = program_in_front r.own.first_visit (program_behind x r.own.second_visit) in
    record {
      tokens = nonterminal r.nonterminal ∷ sign DEFINED ∷ (f.tokens ++ name r.tag ∷ sign OPEN ∷ (s.tokens ++ sign CLOSE ∷ g.tokens));
      are = production h.numbered f.are h.named s.are g.are;
      phrase = subst (λ z. Phrase (nonterminal r.nonterminal ∷ sign DEFINED ∷ (f.tokens ++ name r.tag ∷ sign OPEN ∷ z)) (rule_text r)) (append_assoc s.tokens (sign CLOSE ∷ []) g.tokens)
          (spaced (nonterminal r.nonterminal ∷ []) (sign DEFINED ∷ (f.tokens ++ (tagged ++ g.tokens))) (token_bytes (nonterminal r.nonterminal)) (token_bytes (sign DEFINED) ␣ y) (a_word (nonterminal r.nonterminal) (λ b. refl))
          (spaced (sign DEFINED ∷ []) (f.tokens ++ (tagged ++ g.tokens)) (token_bytes (sign DEFINED)) y (closed_alone (sign DEFINED) (λ b. refl)) whole));
    }

record Lines (rs : List TextRule) : Type 0 where
  tokens : List TextToken
  are : ProductionsAre tokens rs
  spelled : TypedAs tokens (lines_of rs)

-- a phrase, then the end of its line
on_line : (ts us : List TextToken) (x y : List ℕ) → Phrase ts x → TypedAs us y → TypedAs (ts ++ us) (x ++ 10 ∷ y)
on_line ts us x y p s = p.spells us (10 ∷ y) refl (blank_front 10 refl us y s)

lines : (r : TextRule) (rs : List TextRule) → AllSound (r ∷ rs) → EachWithin (r ∷ rs) → Lines (r ∷ rs)
lines r [] h w =
    let s = rule_said r h.0 w.0 in
    record {
      tokens = s.tokens;
      are = one s.are;
      spelled = subst (λ z. TypedAs z (rule_text r ++ 10 ∷ [])) (mathlib.Core.List.append-nil s.tokens) (on_line s.tokens [] (rule_text r) [] s.phrase (end (gap Gap.none)));
    }
lines r (q ∷ rs) h w =
    let s = rule_said r h.0 w.0 in
    let m = lines q rs h.1 w.1 in
    record { tokens = s.tokens ++ m.tokens; are = more s.are m.are; spelled = on_line s.tokens m.tokens (rule_text r) (lines_of (q ∷ rs)) s.phrase m.spelled }

some_lines : (rs : List TextRule) → 1 ≤ length rs → AllSound rs → EachWithin rs → Lines rs
some_lines [] i h w = absurd (omega arith)
some_lines (r ∷ rs) i h w = lines r rs h w

pub printed_is_text : PrintedIsText
unfolding text_of
printed_is_text r h w =
    let m = some_lines r.productions h.some_productions h.each w.each in
    record {
      tokens = nonterminal r.start ∷ m.tokens;
      spelled = on_line (nonterminal r.start ∷ []) m.tokens (token_bytes (nonterminal r.start)) (lines_of r.productions) (a_word (nonterminal r.start) (λ b. refl)) m.spelled;
      grammatical = start_alone h.its_start m.are;
      within = w;
    }

pub every_text_is_printed : EveryTextIsPrinted
every_text_is_printed text r t = printed_is_text r (sound t.grammatical) t.within
