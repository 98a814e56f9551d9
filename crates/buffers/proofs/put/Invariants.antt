-- What the loop of `put` keeps: as many items as were reached are copied, and the rest is what it was. Assumes nothing.
use mathlib.Core.Path.{◌≡◌}
use lib.Seq.{paste}
use Rattle.buffers.proofs.put.Given as goal

abbrev pub invariant-loop-i : goal.invariant-loop-i
invariant-loop-i g l = l.part ≡ paste l.initial.part 0 l.items l.i
