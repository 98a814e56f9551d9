-- `write` lends the numbers of the state to `write_from`. Assumes nothing.
use Rattle.wpl.proofs.OrderLaws.{in_order}
use Rattle.wpl.proofs.write.Goals as goal

pub returns : goal.returns
returns c =
    let e = rw c.lent.ensures at c.write_from.ensures in
    record { value = e.value; file_after = e.file_after; round_trip = e.round_trip; every_reader = e.every_reader; all = in_order.1 }
