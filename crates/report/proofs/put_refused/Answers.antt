-- `put_refused` writes a refusal behind a space. Assumes nothing.
use native.Mathlib.Omega.{arith}
use Rattle.text.proofs.AddedLaws.{joined}
use Rattle.report.proofs.put_refused.Goals as goal

pub returns : goal.returns
returns c =
    rw (← c.from.ensures, ← c.from-2.ensures) (joined c.byte.ensures c.refusal.ensures.wrote.0, omega (arith, c.byte.ensures.wrote.ends, c.refusal.ensures.wrote.1))
