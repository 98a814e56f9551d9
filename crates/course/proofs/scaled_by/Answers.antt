-- `scaled_by` gives m·d/16,384 to the nearest whole number, which lies within m. Assumes nothing.
use mathlib.Core.Path.{◌≡◌, sym, ap, ◌∙◌, subst}
use Prim.Native.Nat.{◌≤◌}
use native.Mathlib.Omega.{arith}
use lib.IntN.{pos, ◌*ℤ◌}
use Rattle.integers.specs.Bounds.{Within}
use Rattle.integers.specs.Round.{nearest_of}
use Rattle.integers.proofs.BoundLaws.{overflow, within-le, carried}
use Rattle.integers.proofs.ValueLaws.{value, is, via}
use Rattle.course.proofs.OffsetLaws.{part-within}
use Rattle.course.proofs.scaled_by.Goals as goal

pub overflow_mul-m : goal.overflow_mul-m
overflow_mul-m c =
    let h : c.args.m ≤ 2147483647 = omega arith in
    search overflow depth 20 fits 5000

pub returns : goal.returns
returns c =
    let m = c.args.m in
    let d = c.args.d in
    let h : m ≤ 2147483647 = omega arith in
    let e : c.nearest.result ≡ nearest_of (pos m *ℤ d) = c.nearest.ensures.value ∙ ap nearest_of (is (search value depth 20 fits 5000)) in
    let w : Within m (nearest_of (pos m *ℤ d)) = part-within m d c.requires.1 in
    let n : Within 2147483647 c.nearest.result = subst (Within 2147483647) (sym e) (within-le h w) in
    carried (via e (search value depth 20 fits 5000)) w
