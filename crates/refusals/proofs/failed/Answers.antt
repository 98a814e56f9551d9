-- `failed` is what a check that fails answers. Assumes nothing.
use mathlib.Core.Path.{refl}
use Rattle.refusals.specs.Outcome.{check, refusal_of}
use Rattle.refusals.proofs.OrderLaws.{order}
use Rattle.refusals.proofs.failed.Goals as goal

pub returns : goal.returns
unfolding check refusal_of
returns c = record { value = refl; order = order }
