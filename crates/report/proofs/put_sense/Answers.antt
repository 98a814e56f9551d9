-- `put_sense` writes which way round. Assumes nothing.
use native.Mathlib.Omega.{arith}
use Rattle.report.proofs.FixLaws.{sense-right, sense-left}
use Rattle.report.proofs.put_sense.Goals as goal

pub returns-then-sense-eq1 : goal.returns-then-sense-eq1
returns-then-sense-eq1 c =
    rw (sense-right c.args.sense c.if-sense-eq1.true) (c.text.ensures, omega (arith, c.text.ensures.wrote.ends))

pub returns-else-sense-eq1 : goal.returns-else-sense-eq1
returns-else-sense-eq1 c =
    rw (sense-left c.args.sense c.if-sense-eq1.false) (c.text-else-sense-eq1.ensures, omega (arith, c.text-else-sense-eq1.ensures.wrote.ends))
