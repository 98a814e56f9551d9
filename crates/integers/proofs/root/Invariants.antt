-- What the loop of `root` keeps. Assumes nothing.
use Rattle.integers.proofs.DigitLaws.{Digits}
use Rattle.integers.proofs.root.Given as goal

abbrev pub invariant-loop-rounds : goal.invariant-loop-rounds
invariant-loop-rounds l = Digits l.n l.found l.rest l.rounds
