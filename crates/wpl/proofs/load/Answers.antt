-- `load` puts the state together from the blocks that were filled. Assumes nothing.
use mathlib.Core.Path.{refl}
use Rattle.wpl.proofs.LoadLaws.{loaded-filled, loaded-whole}
use Rattle.wpl.proofs.OrderLaws.{in_order}
use Rattle.wpl.proofs.load.Goals as goal

pub returns : goal.returns
returns c =
    record {
      value = loaded-whole _ (loaded-filled _ _ _ refl) c.load_into-entered.ensures.value c.load_into-entered.ensures.numbers_after c.block_of.ensures c.block_of-2.ensures
          c.block_of-3.ensures c.block_of-4.ensures;
      starts = c.load_into-entered.ensures.starts;
      all = in_order.0;
    }
