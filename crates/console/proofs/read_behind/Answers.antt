-- `read_behind` changes no byte behind those that it counts. Assumes nothing.
use Rattle.std.proofs.Common.{take}
use lib.Seq.{length-take-le}
use Rattle.buffers.proofs.SpliceLaws.{lent}
use Rattle.console.proofs.ReadingLaws.{left_behind}
use Rattle.console.proofs.read_behind.Goals as goal

pub returns-clause-room_unchanged : goal.returns-clause-room_unchanged
returns-clause-room_unchanged g c =
    let a = c.args in
    let n = c.in_ok-count.count in
    let chunk = c.read_some.new.chunk in
    left_behind a.done n (take n chunk) a.room.now _ (length-take-le n chunk c.in_ok-count.ensures.0.0) c.requires
    (lent a.done (take n chunk) a.room.now c.put.new.part c.put.ensures.part_after)
