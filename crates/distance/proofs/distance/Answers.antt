-- `distance` lends the numbers of a state to `distance_from`. Assumes nothing.
use Rattle.distance.proofs.SummaryLaws.{at-index}
use Rattle.distance.proofs.KeptLaws.{table_kept, told-at-the-load}
use Rattle.distance.proofs.distance.Goals as goal

pub returns : goal.returns
returns c = (rw c.lent.ensures at c.distance_from.ensures, (at-index, told-at-the-load table_kept at-index))
