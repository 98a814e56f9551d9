-- `u32_at` makes a number of four bytes. Assumes nothing.
use mathlib.Core.Path.{◌∙◌}
use Rattle.records.proofs.NumberLaws.{u32-made}
use Rattle.records.proofs.u32_at.Goals as goal

pub returns : goal.returns
returns c = c.from_be_bytes.ensures ∙ u32-made _ _ _ c.bytes_at.ensures
