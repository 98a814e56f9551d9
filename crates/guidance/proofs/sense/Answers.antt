-- `sense` gives +1 or −1. Assumes nothing.
use mathlib.Core.Path.{refl}
use Rattle.integers.proofs.BoundLaws.{within-lit}
use Rattle.guidance.proofs.sense.Goals as goal

pub returns-then-right : goal.returns-then-right
returns-then-right c = rw c.if-right.true (refl, within-lit tt)

pub returns-else-right : goal.returns-else-right
returns-else-right c = rw c.if-right.false (refl, within-lit tt)
