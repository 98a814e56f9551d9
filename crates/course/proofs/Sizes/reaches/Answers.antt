-- `reaches` tells whether a vector has reached edge j. Assumes nothing.
use Prim.Native.Nat.{◌*◌}
use native.Mathlib.Omega.{arith}
use native.Mathlib.Nat.{mul-le-mul_right}
use lib.Dec.{leb}
use Rattle.course.proofs.EdgeLaws.{east-most, north-most}
use Rattle.course.proofs.Sizes.reaches.Goals as goal

pub overflow_mul-result : goal.overflow_mul-result
overflow_mul-result c =
    omega (arith, mul-le-mul_right {m = c.edge_east.result} {n = 32768} c.args.self.north (omega (arith, c.edge_east.ensures, east-most c.args.j c.requires.0 c.requires.1)))

pub overflow_mul-result-2 : goal.overflow_mul-result-2
overflow_mul-result-2 c =
    omega (arith, mul-le-mul_right {m = c.edge_north.result} {n = 32768} c.args.self.east (omega (arith, c.edge_north.ensures, north-most c.args.j c.requires.0 c.requires.1)))

pub returns : goal.returns
returns c =
    let s = c.args in
    λ i. leb (c.edge_east.ensures i * s.self.north) (c.edge_north.ensures i * s.self.east)
