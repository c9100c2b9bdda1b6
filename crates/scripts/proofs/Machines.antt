-- A script says of the machine what it is promised to. Assumes nothing.
use mathlib.Core.Path.{sym, ◌∙◌, ap, subst}
use Prim.Native.Nat.{suc}
use Rattle.lexemes.specs.Kinds.{token_kind}
use Rattle.outlines.specs.Extents.{ExtentWithin}
use Rattle.outlines.specs.Statements.{outline, ends_here, finished}
use Rattle.outlines.specs.Promises.{OutlineKeeps}
use Rattle.outlines.proofs.Outlines.{starts_alike, ends_alike, sizes_alike, within_back, keeps_alike}
use Rattle.scripts.specs.Scripts.{outline_of, taken, refused}
use Rattle.scripts.specs.Promises.{goes, stays, StartOfMachine, StepOfMachine, EndOfMachine, SizeOfMachine, KeptByMachine}

pub start_of_machine : StartOfMachine
start_of_machine s e h = record { same = e ∙ sym starts_alike; standing = h }

pub step_of_machine : StepOfMachine
step_of_machine v q t s r i h (taken {s' = n} k g) =
    let w = (keeps_alike v q t h).1 (outline_of n) (subst (λ o. OutlineKeeps v o (token_kind t) (outline_of n)) i.same k) in
    goes w.0 w.1 (record { same = w.2; standing = g })
step_of_machine v q t s r i h (refused f) = stays (λ q' k. f (outline q') (subst (λ o. OutlineKeeps v o (token_kind t) (outline q')) (sym i.same) ((keeps_alike v q t h).0 q' k)))

pub end_of_machine : EndOfMachine
end_of_machine q s i = ap ends_here i.same ∙ ends_alike q

pub size_of_machine : SizeOfMachine
size_of_machine q s i = ap (λ o. suc (finished o).bytes) i.same ∙ sym (sizes_alike q).0

pub kept_by_machine : KeptByMachine
kept_by_machine q s i = within_back q (subst (λ o. ExtentWithin (finished o)) i.same i.standing.within)
