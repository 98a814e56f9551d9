-- `line_angle` gives b of the line law. Assumes nothing.
use mathlib.Core.Path.{◌≡◌, ap, ◌∙◌}
use Prim.Native.Nat.{ℕ, ◌*◌, ◌≤◌}
use native.Mathlib.Omega.{arith}
use lib.IntN.{pos}
use mir.Syntax.{w64}
use mir.Val.{to_z}
use Rattle.integers.proofs.BoundLaws.{bound, kept, passed_on}
use Rattle.integers.proofs.ValueLaws.{value, via}
use Rattle.course.specs.Bearing.{signed_bearing_of}
use Rattle.course.proofs.VectorLaws.{vector}
use Rattle.plane.specs.Level.{vector_length}
use Rattle.heading.specs.Heading.{line_angle}
use Rattle.heading.proofs.line_angle.Goals as goal

pub signed_bearing-requires : goal.signed_bearing-requires
signed_bearing-requires c =
    let h : 500 * c.length.result ≤ 1414213500 = omega (arith, c.length.ensures.1) in
    record { north = search bound depth 20 fits 5000; east = search bound depth 20 fits 5000 }

pub returns : goal.returns
unfolding line_angle
returns c =
    let s = c.args in
    let l = c.length in
    let x = c.across-east in
    let h : 500 * l.result ≤ 1414213500 = omega (arith, l.ensures.1) in
    let n : to_z w64 (500 * l.result) ≡ pos (500 * vector_length s.q) = via (ap (λ (m : ℕ). pos (500 * m)) l.ensures.0) (search value depth 20 fits 5000) in
    let e = kept w64 x.ensures.1 tt ∙ x.ensures.0 in
    passed_on (c.signed_bearing.ensures.value ∙ ap signed_bearing_of (vector n e), c.signed_bearing.ensures.within) tt
