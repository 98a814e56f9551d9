-- `line_heading` gives the heading on a line. Assumes nothing.
use mathlib.Core.Path.{◌≡◌, ap, ◌∙◌}
use Prim.Native.Nat.{ℕ, ◌≤◌}
use native.Mathlib.Omega.{arith}
use lib.Dec.{lit<}
use lib.IntN.{ℤ, pos, ◌-ℤ◌, ◌*ℤ◌}
use lib.Signed.{quot_z}
use Rattle.integers.specs.Wrap.{wrap_of}
use Rattle.integers.proofs.BoundLaws.{overflow}
use Rattle.integers.proofs.ValueLaws.{value, uneven, is}
use Rattle.integers.proofs.WrapLaws.{wrap-low}
use Rattle.course.specs.Bearing.{bearing_of}
use Rattle.heading.specs.Heading.{line_angle, line_heading}
use Rattle.heading.proofs.CheckedExamples.{line-examples}
use Rattle.heading.proofs.line_heading.Goals as goal

-- the bearing k, leaning by b
abbrev leaned : ℕ → ℤ → ℤ
leaned k b = pos k -ℤ quot_z (pos 768 *ℤ b) (pos 1024)

pub overflow_mul-b : goal.overflow_mul-b
overflow_mul-b c = search (overflow, uneven) depth 20 fits 5000

pub nonzero_div-b : goal.nonzero_div-b
nonzero_div-b c = (lit< tt, search (overflow, uneven) depth 20 fits 5000)

pub overflow_sub-k : goal.overflow_sub-k
overflow_sub-k c =
    let h : c.bearing-k.result ≤ 4096 = omega (arith, c.bearing-k.ensures.low) in
    search (overflow, uneven) depth 20 fits 5000

pub returns : goal.returns
unfolding line_heading
returns c =
    let s = c.args in
    let b = c.line_angle-b in
    let k = c.bearing-k in
    let h : k.result ≤ 4096 = omega (arith, k.ensures.low) in
    let e : c.wrap.result ≡ wrap_of (leaned k.result b.result) = c.wrap.ensures ∙ ap wrap_of (is (search (value, uneven) depth 20 fits 5000)) in
    let low = wrap-low (leaned (bearing_of s.q) (line_angle s.q s.d)) (e ∙ (λ i. wrap_of (leaned (k.ensures.value i) (b.ensures.0 i)))) in
    (low.0, (low.1, line-examples))
