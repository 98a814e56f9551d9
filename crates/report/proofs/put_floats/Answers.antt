-- `put_floats` writes each float behind the one before it. Assumes nothing.
use Rattle.report.proofs.FixLaws.{starts, goes_on}
use Rattle.report.proofs.put_floats.Goals as goal

pub loop-x-init : goal.loop-x-init
loop-x-init c = starts c.args.numbers.now _ c.args.out.now c.requires

pub loop-x-preserved : goal.loop-x-preserved
loop-x-preserved c =
    goes_on c.args.numbers.now _ c.args.out.now c.requires _ _ c.loop-x.invariant _ _ c.loop-x-test.true c.byte.ensures c.float.ensures.wrote
