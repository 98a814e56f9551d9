-- `count` gives the length of the list, and the prover has computed each example. Assumes nothing.
use mathlib.Core.Path.{refl}
use Rattle.conditions.proofs.AllLaws.{all-means}
use Rattle.starred.proofs.StarredLaws.{each}
use Rattle.starred.proofs.count.Goals as goal

pub returns : goal.returns
returns c = record { value = refl; all = (each, all-means) }
