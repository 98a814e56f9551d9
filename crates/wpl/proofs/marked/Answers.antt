-- `marked` compares the file's first bytes with the mark. Assumes nothing.
use mathlib.Core.Path.{◌∙◌}
use native.Mathlib.Omega.{arith}
use Rattle.wpl.proofs.LoadLaws.{mark_first}
use Rattle.wpl.proofs.marked.Goals as goal

pub returns : goal.returns
returns c = c.starts_with.ensures.value ∙ mark_first c.args.file.now (omega (arith, c.requires))
