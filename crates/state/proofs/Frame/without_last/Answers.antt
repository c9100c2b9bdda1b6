use Rattle.state.proofs.Frame.without_last.Goals as goal

-- With no set in use, one less is none too.
pub returns-then-n-eq0 : goal.returns-then-n-eq0
returns-then-n-eq0 c = rw c.if-n-eq0.true
