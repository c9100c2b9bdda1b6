-- The grammar of productions and of a whole text. Assumes nothing.
use Rattle.std.specs.Prelude.{List, [], ◌∷◌, ◌++◌, ℕ, ◌<◌}
use Rattle.std.proofs.Math.Option.{Option, none, some}
use Rattle.expressions.specs.Grammar.{nonterminals}
use Rattle.programs.specs.Limits.{first, second}
use Rattle.notation.specs.Program.{TextProgram}
use Rattle.notation.specs.Rules.{Tree, TextRule, Rules}
use Rattle.notation.specs.Tokens.{TextToken, nonterminal, name, sign, DEFINED, OPEN, CLOSE, TagName}
use Rattle.notation.specs.Statements.{parentheses, BracesAre}
use Rattle.notation.specs.Expressions.{InsideIs}

-- what stands between a tag's parentheses; that pair is not counted
pub data ContentIs : List TextToken → Option Tree → Type 0 where
  nothing : ContentIs [] none
  something : {ts : List TextToken} {e : Tree} → InsideIs parentheses ts e → ContentIs ts (some e)

pub data RuleIs : List TextToken → TextRule → Type 0 where
  production : {n : ℕ} {tag : List ℕ} {fs ts gs : List TextToken} {before after : Option TextProgram} {e : Option Tree}
      → n < nonterminals → BracesAre first fs before → TagName tag → ContentIs ts e → BracesAre second gs after
      → RuleIs (nonterminal n ∷ sign DEFINED ∷ (fs ++ name tag ∷ sign OPEN ∷ (ts ++ sign CLOSE ∷ gs)))
      (record { nonterminal = n; tag = tag; own = record { first_visit = before; second_visit = after }; inside = e })

-- one or more
pub data ProductionsAre : List TextToken → List TextRule → Type 0 where
  one : {ts : List TextToken} {r : TextRule} → RuleIs ts r → ProductionsAre ts (r ∷ [])
  more : {ts us : List TextToken} {r : TextRule} {rs : List TextRule} → RuleIs ts r → ProductionsAre us rs → ProductionsAre (ts ++ us) (r ∷ rs)

-- the first word names the start: alone, or as the first production's nonterminal
pub data RulesAre : List TextToken → Rules → Type 0 where
  start_alone : {n : ℕ} {ts : List TextToken} {rs : List TextRule} → n < nonterminals → ProductionsAre ts rs → RulesAre (nonterminal n ∷ ts) (record { start = n; productions = rs })
  start_first : {ts : List TextToken} {r : TextRule} {rs : List TextRule} → ProductionsAre ts (r ∷ rs) → RulesAre ts (record { start = r.nonterminal; productions = r ∷ rs })
