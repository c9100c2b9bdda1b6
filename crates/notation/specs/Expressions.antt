-- The grammar of expressions: `*` binds tightest, then `.`, then `|`; both group to the left. Programs stand just inside parentheses.
-- Assumes nothing.
use Rattle.std.specs.Prelude.{◌≡◌, List, [], ◌∷◌, ◌++◌, ℕ, suc, ◌<◌}
use Rattle.std.proofs.Math.Option.{Option, none, some}
use Rattle.expressions.specs.Expr.{Atom, anychar}
use Rattle.expressions.specs.Grammar.{nonterminals}
use Rattle.programs.specs.Limits.{first, second}
use Rattle.notation.specs.Program.{TextProgram}
use Rattle.notation.specs.Rules.{Tree, node, Form, atom, cat, alt, star, empty}
use Rattle.notation.specs.Tokens.{TextToken, nonterminal, word, CHAR, EMPTY, sign, OPEN, CLOSE, DOT, BAR, STAR}
use Rattle.notation.specs.Statements.{BracesAre}

-- at most one of the two is there, and this is it: two programs for one visit of a node are refused
pub data AtMostOne : Option TextProgram → Option TextProgram → Option TextProgram → Type 0 where
  inner : {o : Option TextProgram} → AtMostOne none o o
  outer : {p : TextProgram} → AtMostOne (some p) none (some p)

-- with at most so many parentheses open at once
mutual
  pub data UnionIs : ℕ → List TextToken → Tree → Type 0 where
    no_bar : {p : ℕ} {ts : List TextToken} {e : Tree} → CatIs p ts e → UnionIs p ts e
    bar : {p : ℕ} {ts us ws : List TextToken} {e f : Tree} → UnionIs p ts e → CatIs p us f → ws ≡ ts ++ sign BAR ∷ us → UnionIs p ws (node none none (alt e f))

  pub data CatIs : ℕ → List TextToken → Tree → Type 0 where
    no_dot : {p : ℕ} {ts : List TextToken} {e : Tree} → StarredIs p ts e → CatIs p ts e
    dot : {p : ℕ} {ts us ws : List TextToken} {e f : Tree} → CatIs p ts e → StarredIs p us f → ws ≡ ts ++ sign DOT ∷ us → CatIs p ws (node none none (cat e f))

  pub data StarredIs : ℕ → List TextToken → Tree → Type 0 where
    no_star : {p : ℕ} {ts : List TextToken} {e : Tree} → PrimaryIs p ts e → StarredIs p ts e
    stars : {p : ℕ} {ts ws : List TextToken} {e : Tree} → StarredIs p ts e → ws ≡ ts ++ sign STAR ∷ [] → StarredIs p ws (node none none (star e))

  pub data PrimaryIs : ℕ → List TextToken → Tree → Type 0 where
    a_nonterminal : {p n : ℕ} → n < nonterminals → PrimaryIs p (nonterminal n ∷ []) (node none none (atom (Atom.nonterminal n)))
    a_character : {p : ℕ} → PrimaryIs p (word CHAR ∷ []) (node none none (atom anychar))
    an_empty : {p : ℕ} → PrimaryIs p (word EMPTY ∷ []) (node none none empty)
    parenthesised : {p : ℕ} {ts ws : List TextToken} {e : Tree} → InsideIs p ts e → ws ≡ sign OPEN ∷ (ts ++ sign CLOSE ∷ []) → PrimaryIs (suc p) ws e

  -- the programs are those of the node of the whole expression between the parentheses
  pub data InsideIs : ℕ → List TextToken → Tree → Type 0 where
    inside : {p : ℕ} {fs ts gs ws : List TextToken} {before after f f' g g' : Option TextProgram} {k : Form}
        → BracesAre first fs before → UnionIs p ts (node f g k) → BracesAre second gs after → AtMostOne before f f' → AtMostOne after g g'
        → ws ≡ fs ++ (ts ++ gs) → InsideIs p ws (node f' g' k)
