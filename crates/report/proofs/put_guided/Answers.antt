-- `put_guided` writes the command and the heading, or the refusal. Assumes nothing.
use native.Mathlib.Omega.{arith}
use Rattle.text.proofs.AddedLaws.{joined}
use Rattle.report.proofs.FixLaws.{guided, not-guided}
use Rattle.report.proofs.put_guided.Goals as goal

pub returns-then-answer-eq0 : goal.returns-then-answer-eq0
returns-then-answer-eq0 c =
    rw (guided c.args.answer.now c.args.numbers.now c.if-answer-eq0.true)
    (joined c.put_command.ensures.0 c.put_word.ensures.0, omega (arith, c.put_command.ensures.1, c.put_word.ensures.1))

pub returns : goal.returns
returns c =
    rw (not-guided c.args.answer.now c.args.numbers.now c.if-answer-eq0.false)
    (c.put_refused.ensures.0, omega (arith, c.put_refused.ensures.1))
