-- `easy_square` gives the squared length that two easy turns take at the most. Assumes nothing.
use native.Mathlib.Nat.{mul-le-mul}
use native.Mathlib.Omega.{arith}
use Prim.Native.Nat.{◌*◌, ◌/◌, ◌≤◌}
use Rattle.plan.proofs.easy_square.Goals as goal

pub overflow_mul-result : goal.overflow_mul-result
overflow_mul-result c =
    let h : 5 * c.args.radius / 2 ≤ 25000 = omega (arith, c.requires) in
    omega (arith, mul-le-mul h h)
