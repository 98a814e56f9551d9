-- `minor_size` gives |a·d − b·c|. Assumes nothing.
use mathlib.Core.Path.{◌≡◌, ◌∙◌}
use native.Mathlib.Omega.{arith}
use lib.IntN.{◌*ℤ◌}
use Rattle.integers.proofs.BoundLaws.{overflow, within-mul, within-less}
use Rattle.integers.proofs.ValueLaws.{sized}
use Rattle.plane.specs.Half.{minor_size}
use Rattle.plane.proofs.minor_size.Goals as goal

pub overflow_mul-a : goal.overflow_mul-a
overflow_mul-a c = search overflow depth 20 fits 5000

pub overflow_mul-b : goal.overflow_mul-b
overflow_mul-b c = search overflow depth 20 fits 5000

pub overflow_sub-a : goal.overflow_sub-a
overflow_sub-a c = search overflow depth 20 fits 5000

pub returns : goal.returns
unfolding minor_size
returns c =
    let s = c.args in
    let h = c.requires in
    let e : c.magnitude.result ≡ minor_size s.a s.b s.c s.d = c.magnitude.ensures ∙ search sized depth 20 fits 5000 in
    let w = within-less (s.a *ℤ s.d) (s.b *ℤ s.c) (within-mul s.a s.d h.0.0 h.1.1) (within-mul s.b s.c h.0.1 h.1.0) in
    (e, omega (arith, e, w.within))
