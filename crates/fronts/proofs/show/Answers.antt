use Rattle.tokens.specs.Tokens.{Kind}
use Rattle.tokens.proofs.Streams.{read_tag, read_char}
use borrow.Author.Rules.{rules}
use Rattle.fronts.proofs.show.Goals as goal

-- A tag's event points at a name within the front, and a character's at a character of the Char set: what the reader promises.
pub start-requires : goal.start-requires
start-requires c = ((read_tag Kind.start c.args.s.now 0 c.read-answer.result _ _ _ _ c.read-answer.ensures c.in-Token.is c.in-Start.is).within, c.requires)

pub end-requires : goal.end-requires
end-requires c = ((read_tag Kind.end c.args.s.now 0 c.read-answer.result _ _ _ _ c.read-answer.ensures c.in-Token.is c.in-End.is).within, c.requires)

pub empty-requires : goal.empty-requires
empty-requires c = ((read_tag Kind.empty c.args.s.now 0 c.read-answer.result _ _ _ _ c.read-answer.ensures c.in-Token.is c.in-Empty.is).within, c.requires)

pub character-requires : goal.character-requires
character-requires c = read_char c.args.s.now 0 c.read-answer.result _ _ _ _ c.read-answer.ensures c.in-Token.is c.in-Character.is
