-- `block_of` copies a block. Assumes nothing.
use mathlib.Core.Path.{refl}
use Rattle.wpl.proofs.LoadLaws.{block-copied}
use Rattle.wpl.proofs.block_of.Goals as goal

pub returns : goal.returns
returns c =
    block-copied c.args.from c.args.numbers.now _ _ c.requires refl c.put.ensures.part_after
