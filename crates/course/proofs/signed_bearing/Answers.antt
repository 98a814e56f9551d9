-- `signed_bearing` gives the bearing of v in −2048..2047. Assumes nothing.
use mathlib.Core.Path.{◌≡◌, sym, ap, ◌∙◌}
use Prim.Native.Nat.{◌≤◌}
use native.Mathlib.Omega.{arith}
use Rattle.integers.proofs.ValueLaws.{value, via}
use Rattle.course.specs.Bearing.{signed_course, bearing_of}
use Rattle.course.proofs.BearingLaws.{signed_low, signed_high}
use Rattle.course.proofs.signed_bearing.Goals as goal
use Rattle.course.proofs.signed_bearing.Goals.{After-bearing-k}

-- the bearing is one, and its signed number is the one that is asked for
low : (c : After-bearing-k) → c.bearing-k.result ≤ 4096
low c = omega (arith, c.bearing-k.ensures.low)

same : (c : After-bearing-k) → signed_course c.bearing-k.result ≡ signed_course (bearing_of c.args.v)
same c = ap signed_course c.bearing-k.ensures.value

pub returns-then-k-lt2048-clause-value : goal.returns-then-k-lt2048-clause-value
returns-then-k-lt2048-clause-value c =
    let h = low c.before in
    via (sym (signed_low c.bearing-k.result c.if-k-lt2048.true) ∙ same c.before) (search value depth 20 fits 5000)

pub returns-else-k-lt2048-clause-value : goal.returns-else-k-lt2048-clause-value
returns-else-k-lt2048-clause-value c =
    let h = low c.before in
    via (sym (signed_high c.bearing-k.result c.if-k-lt2048.false) ∙ same c.before) (search value depth 20 fits 5000)
