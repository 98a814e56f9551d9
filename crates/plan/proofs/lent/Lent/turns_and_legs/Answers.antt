-- `turns_and_legs` sweeps the corners of a fillet plan for refusal 11 and then its legs for 12, in one pass. Assumes nothing.
use mathlib.Core.Path.{◌≡◌, ap, ◌∙◌}
use Prim.Native.Nat.{ℕ, ◌+◌, ◌-◌}
use native.Mathlib.Omega.{arith}
use Rattle.refusals.specs.Sweep.{passed_of, unless_found}
use Rattle.fillets.specs.Corners.{tangent_of}
use Rattle.plan.specs.Places.{plan_point, no_course}
use Rattle.plan.specs.Rules.{tangent_number, at_place}
use Rattle.plan.specs.Lent.{lent_plan}
use Rattle.plan.proofs.FilletLegLaws.{carried-start, carried-next, corner-refused, last-answer}
use Rattle.plan.proofs.lent.Lent.turns_and_legs.Goals as goal

pub loop-i-init : goal.loop-i-init
loop-i-init c =
    let p = lent_plan c.args.self.now in
    carried-start p.head.radius p.head.count (plan_point p) no_course c.level_leg_at-leg.result (omega (arith, c.requires.counted.least)) c.level_leg_at-leg.ensures

pub returns-then-turn-gt-MOST_TURN : goal.returns-then-turn-gt-MOST_TURN
returns-then-turn-gt-MOST_TURN c =
    let p = lent_plan c.args.self.now in
    let l = c.loop-i in
    corner-refused p.head.radius p.head.count (plan_point p) no_course l.i l.before c.lesser_turn-turn.result l.leg c.level_leg_at-next.result l.found l.invariant
    (omega (arith, c.loop-i-test.true)) c.level_leg_at-next.ensures c.lesser_turn-turn.ensures.0 c.if-turn-gt-MOST_TURN.true

pub loop-i-preserved : goal.loop-i-preserved
loop-i-preserved c =
    let p = lent_plan c.args.self.now in
    let l = c.loop-i in
    let at = plan_point p in
    let r : c.from-radius.result ≡ p.head.radius = c.from-radius.ensures in
    carried-next p.head.radius p.head.count at no_course l.i l.before c.lesser_turn-turn.result l.leg c.level_leg_at-next.result l.found l.invariant
    (omega (arith, c.loop-i-test.true)) c.level_leg_at-next.ensures c.lesser_turn-turn.ensures.0 c.leg_found-found.result
    (c.leg_found-found.ensures (at (l.i - 1)) (at l.i) l.invariant.level.squared
    ∙ ap (λ (R : ℕ). unless_found l.found (passed_of (at_place (tangent_number (at (l.i - 1)) (at l.i) (tangent_of R l.before + tangent_of R c.lesser_turn-turn.result)) (l.i + 1)))) r)
    c.if-turn-gt-MOST_TURN.false

pub returns : goal.returns
returns c =
    let p = lent_plan c.args.self.now in
    let l = c.loop-i in
    let at = plan_point p in
    let r : c.from-radius.result ≡ p.head.radius = c.from-radius.ensures in
    last-answer p.head.radius p.head.count at no_course l.i l.before l.leg l.found c.leg_found.result l.invariant (omega (arith, c.loop-i-test.false))
    (c.leg_found.ensures (at (l.i - 1)) (at l.i) l.invariant.level.squared
    ∙ ap (λ (R : ℕ). unless_found l.found (passed_of (at_place (tangent_number (at (l.i - 1)) (at l.i) (tangent_of R l.before + tangent_of R 0)) p.head.count))) r)
