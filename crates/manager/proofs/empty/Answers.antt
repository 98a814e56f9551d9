-- `empty` gives the state of no plan, which no fix accepts. Assumes nothing.
use mathlib.Core.Path.{refl}
use Rattle.manager.proofs.StartLaws.{empty-invalid, empty-refused}
use Rattle.manager.proofs.empty.Goals as goal

pub returns : goal.returns
returns c = (refl, (empty-invalid, empty-refused))
