use native.Mathlib.Omega.{arith}
use Rattle.stores.specs.declared.Filed.{Filed}
use Rattle.gleans.proofs.Laws.{no_string, string_kept, one_more_end}
use Rattle.gleans.proofs.keep_string.Goals as goal

-- Each answer of the store is cited as it is told.
pub returns-then-strings-e : goal.returns-then-strings-e
returns-then-strings-e c = no_string c.args.bytes.now c.args.ends.now c.args.count c.requires.2 c.args.strings.now c.args.o c.args.n c.if-strings-e.true

pub overflow_add-result : goal.overflow_add-result
overflow_add-result c =
    omega (arith, one_more_end c.args.bytes.now c.args.ends.now c.args.count c.requires.2 _ _ _ _ _ _ c.in-Added.is c.keep-filed.ensures (omega (arith, c.ends-1.given)))

pub returns-in-There : goal.returns-in-There
returns-in-There c =
    string_kept c.args.bytes.now c.args.ends.now c.args.count c.requires.2 c.args.strings.now c.args.o c.args.n _ _ _ (Filed.There _ _) c.in-There.is c.keep-filed.ensures (omega (arith, c.bytes-1.given)) (omega (arith, c.ends-1.given))

pub returns-in-Added : goal.returns-in-Added
returns-in-Added c =
    string_kept c.args.bytes.now c.args.ends.now c.args.count c.requires.2 c.args.strings.now c.args.o c.args.n _ _ _ (Filed.Added _ _) c.in-Added.is c.keep-filed.ensures (omega (arith, c.bytes-1.given)) (omega (arith, c.ends-1.given))

pub returns-in-Full : goal.returns-in-Full
returns-in-Full c =
    string_kept c.args.bytes.now c.args.ends.now c.args.count c.requires.2 c.args.strings.now c.args.o c.args.n _ _ _ Filed.Full c.in-Full.is c.keep-filed.ensures (omega (arith, c.bytes-1.given)) (omega (arith, c.ends-1.given))
