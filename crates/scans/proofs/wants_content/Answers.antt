use mathlib.Core.Path.{sym, ap}
use Rattle.scans.specs.Scans.{content_in}
use Rattle.scans.proofs.Limits.{elsewhere}
use Rattle.scans.proofs.wants_content.Goals as goal

pub returns-in-Contents : goal.returns-in-Contents
returns-in-Contents c = sym (ap content_in c.in-Contents.is)

pub returns-in_default : goal.returns-in_default
returns-in_default c = elsewhere _ c.in_default.not-Contents
