-- `product` gives u · v in two digits: no sum or product of the halves overflows. Assumes nothing.
use native.Mathlib.Omega.{arith}
use Rattle.integers.proofs.WideLaws.{Halves, halves}
use Rattle.integers.proofs.product.Goals as goal
use Rattle.integers.proofs.product.Goals.{Start}

known : (c : Start) → Halves c.args.u c.args.v
known c = halves c.args.u c.args.v c.requires.0 c.requires.1

pub overflow_mul-t : goal.overflow_mul-t
overflow_mul-t c = omega (arith, known c)

pub overflow_mul-t-2 : goal.overflow_mul-t-2
overflow_mul-t-2 c = omega (arith, known c)

pub overflow_add-t : goal.overflow_add-t
overflow_add-t c = omega (arith, known c)

pub overflow_mul-t-3 : goal.overflow_mul-t-3
overflow_mul-t-3 c = omega (arith, known c)

pub overflow_mul-t-4 : goal.overflow_mul-t-4
overflow_mul-t-4 c = omega (arith, known c)

pub overflow_add-t-2 : goal.overflow_add-t-2
overflow_add-t-2 c = omega (arith, known c)

pub overflow_mul-high : goal.overflow_mul-high
overflow_mul-high c = omega (arith, known c)

pub overflow_add-high : goal.overflow_add-high
overflow_add-high c = omega (arith, known c)

pub returns : goal.returns
returns c =
    let p = known c in
    record { value = omega arith; high = omega arith; low = omega arith }
