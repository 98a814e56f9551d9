-- `i32_at` reads four bytes and their sign. Assumes nothing.
use mathlib.Core.Path.{ap, ◌∙◌}
use Rattle.integers.specs.TwosComplement.{signed_of}
use Rattle.integers.proofs.TwosComplementLaws.{signed-unsigned}
use Rattle.records.specs.Numbers.{i32_at}
use Rattle.records.proofs.i32_at.Goals as goal

pub returns : goal.returns
unfolding i32_at
returns c = signed-unsigned _ (record { sfits = c.signed.type_inv }) ∙ c.signed.ensures ∙ ap signed_of c.u32_at.ensures
