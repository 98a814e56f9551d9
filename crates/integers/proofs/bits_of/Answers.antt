-- `bits_of` gives bits_from, and asks for bits only of what was compared, which is no NaN. Assumes nothing.
use mathlib.Core.Path.{sym}
use Rattle.conditions.proofs.ChooseLaws.{choose-true, choose-false}
use Rattle.integers.specs.Floats.{bits_from}
use Rattle.integers.proofs.bits_of.Goals as goal

pub returns-then-x : goal.returns-then-x
unfolding bits_from
returns-then-x c = sym (choose-true _ _ _ c.if-x.true)

pub returns-else-x : goal.returns-else-x
unfolding bits_from
returns-else-x c = sym (choose-false _ _ _ c.if-x.false)
