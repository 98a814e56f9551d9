-- `all_easy` answers yes only of a fillet plan of which 11 and 12 refuse nothing. Assumes nothing.
use mathlib.Core.Path.{◌≡◌, subst, ap, ◌∙◌}
use Prim.Native.Nat.{ℕ, ◌+◌, ◌-◌, ◌<◌, ◌*◌, ◌/◌}
use native.Mathlib.Omega.{arith}
use Rattle.plan.specs.Places.{plan_point, no_course}
use Rattle.plan.specs.Stands.{LongAt, EasyAt}
use Rattle.plan.specs.Lent.{lent_plan}
use Rattle.plan.proofs.EasyPlanLaws.{least, easily-start, easily-next, easily-last}
use Rattle.plan.proofs.lent.Lent.all_easy.Goals as goal
use Rattle.plan.proofs.lent.Lent.all_easy.Goals.{After-easy_square-least}

-- the least length, of the plan's radius
least-is : (c : After-easy_square-least) → let p = lent_plan c.args.self.now in c.easy_square-least.result ≡ least p.head.radius p.head.count (plan_point p) no_course
least-is c = c.easy_square-least.ensures ∙ ap (λ (r : ℕ). 5 * r / 2 * (5 * r / 2)) c.from.ensures

pub loop-i-init : goal.loop-i-init
loop-i-init c =
    let p = lent_plan c.args.self.now in
    (omega (arith, c.requires.counted.least), easily-start p.head.radius p.head.count (plan_point p) no_course)

pub loop-i-preserved : goal.loop-i-preserved
loop-i-preserved c =
    let p = lent_plan c.args.self.now in
    let l = c.loop-i in
    let h : l.i + 1 < p.head.count = omega (arith, c.loop-i-test.true) in
    let e = subst (λ (m : ℕ). EasyAt m (plan_point p) l.i) (least-is (goal.at.loop-i-preserved c).After-easy_square-least) (c.easy_at.ensures c.if-not-easy_at.false) in
    (h, easily-next p.head.radius p.head.count (plan_point p) no_course l.i l.invariant.1 h e)

pub returns : goal.returns
returns c =
    let p = lent_plan c.args.self.now in
    let l = c.loop-i in
    let d : p.head.count - 1 ≡ l.i = omega (arith, c.loop-i-test.false, l.invariant.0) in
    λ t.
    let h = subst (λ (m : ℕ). LongAt m (plan_point p) l.i) (least-is (goal.at.returns c).After-easy_square-least) (subst (λ (j : ℕ). LongAt c.easy_square-least.result (plan_point p) j) d (c.long_at.ensures t)) in
    easily-last p.head.radius p.head.count (plan_point p) no_course l.i l.invariant.1 (omega (arith, d, l.invariant.0)) h
