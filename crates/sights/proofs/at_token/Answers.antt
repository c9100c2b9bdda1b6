use mathlib.Core.Path.{sym, ap}
use Rattle.std.specs.Option.{unwrap_or}
use Rattle.lexemes.specs.declared.Lexeme.{Lexeme}
use Rattle.sights.proofs.Bounds.{lexed_as, token_within}
use Rattle.sights.proofs.Seen.{seen_token, seen_stuck}
use Rattle.sights.proofs.at_token.Goals as goal

pub take-requires : goal.take-requires
take-requires c =
    let x = c.args.x.now in
    let y = lexed_as c.row-may.result x c.args.i c.lex.result (Lexeme.Token _ _ _) c.in-Token.is c.lex.ensures in
    ((token_within c.row-may.result x c.args.i _ _ _ c.requires.1.0 y).0, c.requires.0)

pub returns-in-Token : goal.returns-in-Token
returns-in-Token c =
    let x = c.args.x.now in
    let y = lexed_as c.row-may.result x c.args.i c.lex.result (Lexeme.Token _ _ _) c.in-Token.is c.lex.ensures in
    seen_token x c.args.r c.row-may.result c.args.i _ _ _ c.take.result _ c.requires.0 c.requires.1 c.row-may.ensures y c.take.ensures (sym (ap (λ a. unwrap_or a c.args.r) c.in-Some.is))

pub returns-in_default : goal.returns-in_default
returns-in_default c =
    let x = c.args.x.now in
    let y = lexed_as c.row-may.result x c.args.i c.lex.result (Lexeme.Token _ _ _) c.in-Token.is c.lex.ensures in
    seen_token x c.args.r c.row-may.result c.args.i _ _ _ c.take.result _ c.requires.0 c.requires.1 c.row-may.ensures y c.take.ensures (sym (ap (λ a. unwrap_or a c.args.r) c.in_default.is))

pub returns-in-Stuck : goal.returns-in-Stuck
returns-in-Stuck c =
    let x = c.args.x.now in
    let y = lexed_as c.row-may.result x c.args.i c.lex.result (Lexeme.Stuck _) c.in-Stuck.is c.lex.ensures in
    seen_stuck x c.args.r c.row-may.result c.args.i _ c.requires.1 c.row-may.ensures y
