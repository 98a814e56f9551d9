-- `u16_at` makes a number of two bytes. Assumes nothing.
use mathlib.Core.Path.{◌∙◌}
use Rattle.records.proofs.NumberLaws.{u16-made}
use Rattle.records.proofs.u16_at.Goals as goal

pub returns : goal.returns
returns c = c.from_be_bytes.ensures ∙ u16-made _ _ _ c.bytes_at.ensures
