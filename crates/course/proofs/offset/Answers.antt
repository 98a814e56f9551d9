-- `offset` gives off(m, k), which lies within m. Assumes nothing.
use mathlib.Core.Path.{◌≡◌, ap, ◌∙◌}
use Prim.Native.Nat.{◌≤◌}
use native.Mathlib.Omega.{arith}
use lib.IntN.{ℤ, pos, ◌*ℤ◌}
use mir.Syntax.{w64}
use mir.Val.{to_z, of_z}
use Rattle.integers.specs.Bounds.{Within}
use Rattle.integers.specs.Round.{nearest_of}
use Rattle.integers.proofs.BoundLaws.{within-le, kept}
use Rattle.integers.proofs.ValueLaws.{value, via}
use Rattle.course.specs.declared.Vector.{Vector}
use Rattle.course.specs.Direction.{direction_of}
use Rattle.course.specs.Offset.{offset_of}
use Rattle.course.proofs.VectorLaws.{vector, carried}
use Rattle.course.proofs.OffsetLaws.{offset_near}
use Rattle.course.proofs.offset.Goals as goal

pub returns : goal.returns
unfolding offset_of
returns c =
    let m = c.args.m in
    let k = c.args.k in
    let d = c.direction-d in
    let x = c.scaled_by-north in
    let y = c.scaled_by-east in
    let h : m ≤ 2147483647 = omega arith in
    let hx : Within 2147483647 x.result = within-le h x.ensures.1 in
    let hy : Within 2147483647 y.result = within-le h y.ensures.1 in
    let dn : to_z w64 (of_z w64 d.result.north) ≡ (direction_of k).north = via (ap (λ (u : Vector). u.north) {x = d.result} {y = direction_of k} d.ensures.0) (search value depth 20 fits 5000) in
    let de : to_z w64 (of_z w64 d.result.east) ≡ (direction_of k).east = via (ap (λ (u : Vector). u.east) {x = d.result} {y = direction_of k} d.ensures.0) (search value depth 20 fits 5000) in
    let rn : to_z w64 (of_z w64 x.result) ≡ x.result = kept w64 hx tt in
    let re : to_z w64 (of_z w64 y.result) ≡ y.result = kept w64 hy tt in
    carried (vector (rn ∙ x.ensures.0 ∙ ap (λ (z : ℤ). nearest_of (pos m *ℤ z)) dn) (re ∙ y.ensures.0 ∙ ap (λ (z : ℤ). nearest_of (pos m *ℤ z)) de)) (offset_near m k)
