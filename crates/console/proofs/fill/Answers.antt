-- What was untouched behind some bytes is so behind those of one more read. Assumes nothing.
use Rattle.std.proofs.Common.{arith, refl}
use Rattle.console.proofs.ReadingLaws.{left-further}
use Rattle.console.proofs.fill.Goals as goal

pub loop-done-preserved : goal.loop-done-preserved
loop-done-preserved g c =
    let l = c.loop-done in
    record {
      in_room = omega (arith, c.in-Ok.ensures.count_in_bounds);
      unchanged = left-further l.done c.in-Ok.count _ c.args.room.now l.room c.read_behind.new.room refl l.invariant.unchanged c.in-Ok.ensures.room_unchanged;
    }
