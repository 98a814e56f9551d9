-- `root` gives the floor of the square root: with k rounds to go found is the root of n / 4^k and rest what that is above found² (`Digits`), and in the
-- end k is 0. Assumes nothing.
use mathlib.Core.Path.{◌≡◌}
use Rattle.integers.proofs.DigitLaws.{Digits, Round, round, next_one, next-zero}
use Rattle.integers.proofs.RootLaws.{root-only}
use Rattle.integers.proofs.root.Goals as goal
use Rattle.integers.proofs.root.Goals.{In-loop-rounds}
use native.Mathlib.Omega.{arith}

this-round : (c : In-loop-rounds) → let l = c.loop-rounds in Round c.args.n l.found l.rest l.rounds
this-round c = let l = c.loop-rounds in round _ l.found l.rest l.rounds c.ranges.n.fits (omega arith) l.invariant

pub loop-rounds-preserved-then-more-rest : goal.loop-rounds-preserved-then-more-rest
loop-rounds-preserved-then-more-rest c = next_one _ _ _ _ (this-round c.before) (omega (arith, c.if-more-rest.true))

pub loop-rounds-preserved : goal.loop-rounds-preserved
loop-rounds-preserved c = next-zero _ _ _ _ (this-round c.before) (omega (arith, c.if-more-rest.false))

pub returns-clause-value : goal.returns-clause-value
returns-clause-value c =
    let l = c.loop-rounds in
    let z : l.rounds ≡ 0 = omega arith in
    let d : Digits c.args.n l.found l.rest 0 = rw z at l.invariant in
    root-only _ _ (record { low = omega (arith, d.root.low); high = omega (arith, d.root.high) })
