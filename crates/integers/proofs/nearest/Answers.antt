-- `nearest` gives x / 16,384 to the nearest whole number: the magnitude is rounded, and takes the sign. Assumes nothing.
use mathlib.Core.Path.{◌≡◌, ◌∙◌, ap}
use Prim.Native.Nat.{ℕ, ◌+◌, ◌/◌, ◌≤◌}
use native.Mathlib.Omega.{arith}
use lib.IntN.{pos, neg_ℤ, nat_abs}
use lib.Signed.{nat_abs-le}
use mir.Facts.{to_z-of_z}
use Rattle.integers.proofs.BoundLaws.{overflow}
use Rattle.integers.proofs.ValueLaws.{value, via}
use Rattle.integers.proofs.Tests.{lt_yes, lt_no}
use Rattle.integers.proofs.RoundLaws.{nearest-neg, nearest-pos, halves-away}
use Rattle.integers.proofs.nearest.Goals as goal
use Rattle.integers.proofs.nearest.Goals.{After-magnitude}

size_is : (c : After-magnitude) → c.magnitude.result ≡ nat_abs c.args.x
size_is c = c.magnitude.ensures ∙ ap nat_abs (to_z-of_z c.ranges.x)

rounded-le : (c : After-magnitude) → (c.magnitude.result + 8192) / 16384 ≤ 562949953421313
rounded-le c = omega (arith, size_is c, nat_abs-le c.args.x c.ranges.x.sfits)

pub overflow_add-size : goal.overflow_add-size
overflow_add-size c = omega (arith, rounded-le c)

pub overflow_sub-result : goal.overflow_sub-result
overflow_sub-result c =
    let h = rounded-le c.before in
    search overflow depth 20 fits 5000

pub returns-then-x-lt0 : goal.returns-then-x-lt0
returns-then-x-lt0 c =
    let x = c.args.x in
    let fx = c.ranges.x in
    let h = rounded-le c.before in
    let e = nearest-neg x (lt_yes x (pos 0) (simp to_z-of_z at c.if-x-lt0.true)) in
    record { value = via (ap (λ (n : ℕ). neg_ℤ (pos ((n + 8192) / 16384))) (size_is c.before) ∙ e) (search value depth 20 fits 5000); halves_away = halves-away }

pub returns-else-x-lt0 : goal.returns-else-x-lt0
returns-else-x-lt0 c =
    let x = c.args.x in
    let fx = c.ranges.x in
    let h = rounded-le c.before in
    let e = nearest-pos x (lt_no x (pos 0) (simp to_z-of_z at c.if-x-lt0.false)) in
    record { value = via (ap (λ (n : ℕ). pos ((n + 8192) / 16384)) (size_is c.before) ∙ e) (search value depth 20 fits 5000); halves_away = halves-away }
