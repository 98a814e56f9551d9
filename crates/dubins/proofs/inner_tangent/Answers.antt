-- `inner_tangent` gives what the course of RSL or LSR is the bearing of. Assumes nothing.
use Prim.Native.Nat.{◌*◌, ◌≤◌}
use Rattle.conditions.specs.Choose.{choose}
use Rattle.integers.specs.Bounds.{Within}
use Rattle.integers.proofs.BoundLaws.{overflow}
use Rattle.integers.proofs.ValueLaws.{value, is}
use Rattle.course.specs.Vectors.{Near}
use Rattle.course.proofs.VectorLaws.{vector, carried}
use Rattle.dubins.specs.Cases.{inner_tangent}
use Rattle.dubins.proofs.PathBounds.{twice-le, inner-near}
use Rattle.dubins.proofs.inner_tangent.Goals as goal
use Rattle.dubins.proofs.inner_tangent.Goals.{Start}

-- what the search for a value goes by, at hand
by-facts : (s : Start) {A : Type 0} → (Within 1020000 s.args.v.north → Within 1020000 s.args.v.east → s.args.s ≤ 1442497 → 2 * s.args.radius ≤ 20000 → A) → A
by-facts s f = f s.requires.0.north s.requires.0.east s.requires.1.0 (twice-le s.requires.1.1)

low : (s : Start) → Near 1491746940000 (inner_tangent s.args.right s.args.radius s.args.s s.args.v)
low s = inner-near s.args.radius s.args.s s.args.v s.requires.0 s.requires.1.0 s.requires.1.1 s.args.right

pub overflow_mul-result : goal.overflow_mul-result
overflow_mul-result c = search (twice-le, overflow) depth 20 fits 5000

pub overflow_mul-result-then-right : goal.overflow_mul-result-then-right
overflow_mul-result-then-right c = search (twice-le, overflow) depth 20 fits 5000

pub overflow_sub-result : goal.overflow_sub-result
overflow_sub-result c = search (twice-le, overflow) depth 20 fits 5000

pub overflow_mul-result-then-right-2 : goal.overflow_mul-result-then-right-2
overflow_mul-result-then-right-2 c = search (twice-le, overflow) depth 20 fits 5000

pub overflow_mul-result-then-right-3 : goal.overflow_mul-result-then-right-3
overflow_mul-result-then-right-3 c = search (twice-le, overflow) depth 20 fits 5000

pub overflow_add-result : goal.overflow_add-result
overflow_add-result c = search (twice-le, overflow) depth 20 fits 5000

pub overflow_mul-result-else-right : goal.overflow_mul-result-else-right
overflow_mul-result-else-right c = search (twice-le, overflow) depth 20 fits 5000

pub overflow_mul-result-else-right-2 : goal.overflow_mul-result-else-right-2
overflow_mul-result-else-right-2 c = search (twice-le, overflow) depth 20 fits 5000

pub overflow_add-result-else-right : goal.overflow_add-result-else-right
overflow_add-result-else-right c = search (twice-le, overflow) depth 20 fits 5000

pub overflow_mul-result-else-right-3 : goal.overflow_mul-result-else-right-3
overflow_mul-result-else-right-3 c = search (twice-le, overflow) depth 20 fits 5000

pub overflow_mul-result-else-right-4 : goal.overflow_mul-result-else-right-4
overflow_mul-result-else-right-4 c = search (twice-le, overflow) depth 20 fits 5000

pub overflow_sub-result-else-right : goal.overflow_sub-result-else-right
overflow_sub-result-else-right c = search (twice-le, overflow) depth 20 fits 5000

pub returns-then-right : goal.returns-then-right
unfolding inner_tangent choose
returns-then-right c =
    by-facts c.before.before.before.before.before.before.before.before.before (λ north east length width. carried (simp c.if-right.true (vector (is (search value depth 20 fits 5000)) (is (search value depth 20 fits 5000)))) (low c.before.before.before.before.before.before.before.before.before))

pub returns-else-right : goal.returns-else-right
unfolding inner_tangent choose
returns-else-right c =
    by-facts c.before.before.before.before.before.before.before.before.before (λ north east length width. carried (simp c.if-right.false (vector (is (search value depth 20 fits 5000)) (is (search value depth 20 fits 5000)))) (low c.before.before.before.before.before.before.before.before.before))
