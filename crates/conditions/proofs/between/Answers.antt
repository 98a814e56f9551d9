-- `between` is whether the closed range holds x. Assumes nothing.
use Rattle.std.proofs.Common.{arith}
use Rattle.std.proofs.lemmas.Bool.Decides.{nat_tests}
use Rattle.conditions.specs.Both.{both}
use Rattle.conditions.specs.Between.{between}
use Rattle.conditions.proofs.between.Goals as goal

pub returns : goal.returns
unfolding between both
returns c = grind (arith, nat_tests, c.contains.ensures.value, c.new.ensures)
