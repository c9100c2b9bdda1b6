use Rattle.writer.proofs.Walks.{settled_40, some_whole, settled_0}
use Rattle.writer.proofs.settle.Goals as goal

pub finish-o-requires : goal.finish-o-requires
finish-o-requires c = some_whole c.args.text.now c.args.area.now c.args.w _ _ _ _ _ _ _ _ c.requires.1 c.in-End.told c.in-End.is c.in-Ok.is

pub returns-in-Ok : goal.returns-in-Ok
returns-in-Ok c = settled_0 c.args.text.now c.args.area.now c.args.w _ _ _ _ _ _ _ _ c.requires.1 _ c.finish-o.result c.in-End.told c.in-End.is c.in-Ok.is c.finish-o.ensures

pub returns-in-Err : goal.returns-in-Err
returns-in-Err c = settled_40 c.args.text.now c.args.area.now c.args.w _ _ _ _ _ _ _ _ c.requires.1 c.in-End.told c.in-Err.k c.in-End.is c.in-Err.is
