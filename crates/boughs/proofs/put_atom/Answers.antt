use borrow.Author.Rules.{rules}
use Rattle.output.proofs.Writing.{same_bytes}
use Rattle.boughs.proofs.Laws.{atom_number, atom_character, atom_empty}
use Rattle.boughs.proofs.put_atom.Goals as goal

-- By the kind.
pub returns-then-kind-eq1 : goal.returns-then-kind-eq1
returns-then-kind-eq1 c = same_bytes _ _ _ _ _ _ _ (atom_number _ c.args.argument c.if-kind-eq1.true) c.put_nonterminal.ensures

pub returns-then-kind-eq2 : goal.returns-then-kind-eq2
returns-then-kind-eq2 c =
    same_bytes _ _ _ _ _ _ _ (atom_character _ c.args.argument c.if-kind-eq2.true) c.put_bytes.ensures

pub returns : goal.returns
returns c =
    same_bytes _ _ _ _ _ _ _ (atom_empty _ c.args.argument c.if-kind-eq1.false c.if-kind-eq2.false) c.put_bytes-2.ensures
