-- `straight` gives the straight part of a case that exists. Assumes nothing.
use mathlib.Core.Path.{◌≡◌, sym, ◌∙◌}
use Prim.Native.Nat.{ℕ, ◌≤◌}
use native.Mathlib.Nat.{mul-le-mul}
use native.Mathlib.Omega.{arith}
use Rattle.conditions.specs.Choose.{choose}
use Rattle.dubins.specs.Cases.{straight_of}
use Rattle.dubins.proofs.PathBounds.{straight-le}
use Rattle.dubins.proofs.ExistenceLaws.{inner-apart}
use Rattle.dubins.proofs.straight.Goals as goal
use Rattle.dubins.proofs.straight.Goals.{Start}

-- an equation, with the bound of what it says
sized : (s : Start) {r : ℕ} → r ≡ straight_of s.args.case s.args.radius s.args.v → (r ≡ straight_of s.args.case s.args.radius s.args.v) × (r ≤ 1442497)
sized s e = (e, omega (arith, e, straight-le s.args.case s.args.radius s.args.v s.requires.0))

pub overflow_mul-radius-else-same_side : goal.overflow_mul-radius-else-same_side
overflow_mul-radius-else-same_side c =
    omega (arith, mul-le-mul c.requires.1.0 c.requires.1.0)

pub overflow_sub-square : goal.overflow_sub-square
overflow_sub-square c =
    let e = sym c.same_side.ensures ∙ c.if-same_side.false in
    omega (arith, c.squared-square.ensures.0, inner-apart c.args.case c.args.radius c.args.v e c.requires.1.1)

pub returns-then-same_side : goal.returns-then-same_side
unfolding straight_of choose
returns-then-same_side c = sized c.before.before.before.before (simp (sym c.same_side.ensures ∙ c.if-same_side.true, c.root.ensures.value, c.squared-square.ensures.0))

pub returns-else-same_side : goal.returns-else-same_side
unfolding straight_of choose
returns-else-same_side c = sized c.before.before.before.before (simp (sym c.same_side.ensures ∙ c.if-same_side.false, c.root-else-same_side.ensures.value, c.squared-square.ensures.0))
