-- What the loop of `all_apart` keeps: no pair is equal so far exactly where all so far pass. Assumes nothing.
use mathlib.Core.Path.{◌≡◌}
use mathlib.Core.Bool.{Bool}
use Prim.Native.Nat.{ℕ, ◌-◌, ◌≤◌}
use lib.Dec.{eqb}
use Rattle.refusals.specs.Sweep.{every}
use Rattle.refusals.proofs.SweepLaws.{passing}
use Rattle.plan.specs.declared.Plan.{Plan}
use Rattle.plan.specs.Places.{plan_point}
use Rattle.plan.specs.Rules.{pair_at}
use Rattle.plan.specs.Lent.{lent_plan}
use Rattle.plan.proofs.lent.Lent.all_apart.Given as goal

abbrev pub apart : Plan → ℕ → Bool
apart p i = eqb (pair_at (plan_point p) i) 0

abbrev pub invariant-loop-i : goal.invariant-loop-i
invariant-loop-i l =
    let p = lent_plan l.self in
    (l.equal ≤ l.i) × (every (apart p) (p.head.count - 1) 1 ≡ passing (apart p) l.equal p.head.count l.i)
