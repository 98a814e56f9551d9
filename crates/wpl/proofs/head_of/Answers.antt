-- `head_of` puts the mode of the radius and of the given courses beside them. Assumes nothing.
use mathlib.Core.Path.{ap}
use Rattle.plan.specs.declared.Mode.{Mode}
use Rattle.wpl.proofs.head_of.Goals as goal

pub returns : goal.returns
returns c =
    let s = c.args in
    ap (λ (m : Mode). record { serial = s.serial; mode = m; radius = s.gathered.radius; count = s.gathered.count }) c.mode_of.ensures
