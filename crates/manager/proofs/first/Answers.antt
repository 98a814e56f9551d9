-- `first` gives the start of a flight, from which every plan that stands can be flown. Assumes nothing.
use mathlib.Core.Path.{refl}
use Rattle.manager.proofs.StartLaws.{started-valid}
use Rattle.manager.proofs.first.Goals as goal

pub returns : goal.returns
returns c = (refl, started-valid)
