-- `put_command` writes a command by its kind. Assumes nothing.
use native.Mathlib.Omega.{arith}
use lib.Seq.{length-take-le}
use Rattle.text.proofs.AddedLaws.{joined}
use Rattle.report.proofs.FixLaws.{floats-front, is-line, is-circle, is-nothing}
use Rattle.report.proofs.put_command.Goals as goal

pub returns-in-1 : goal.returns-in-1
returns-in-1 c =
    let a = c.args in
    rw (is-line a.kind a.sense a.numbers.now c.in-1.is) (
      joined c.text.ensures (rw (floats-front a.numbers.now 6 (omega arith)) at c.put_floats.ensures.0),
      omega (arith, c.text.ensures.wrote.ends, length-take-le 6 a.numbers.now (omega arith), c.put_floats.ensures.1),
    )

pub returns-in-2 : goal.returns-in-2
returns-in-2 c =
    let a = c.args in
    rw (is-circle a.kind a.sense a.numbers.now c.in-2.is) (
      joined c.text-in-2.ensures (joined (rw (floats-front a.numbers.now 4 (omega arith)) at c.put_floats-in-2.ensures.0) c.put_sense.ensures.0),
      omega (arith, c.text-in-2.ensures.wrote.ends, length-take-le 4 a.numbers.now (omega arith), c.put_floats-in-2.ensures.1, c.put_sense.ensures.1),
    )

pub returns-in_default : goal.returns-in_default
returns-in_default c =
    let a = c.args in
    rw (is-nothing a.kind a.sense a.numbers.now (λ e. omega arith) (λ e. omega arith)) (c.text-in_default.ensures, omega (arith, c.text-in_default.ensures.wrote.ends))
