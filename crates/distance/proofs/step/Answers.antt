-- `step` passes over a leg: its length, and in fillets the arc at its end, are added up. Assumes nothing.
use mathlib.Core.Path.{ap, ◌∙◌}
use Prim.Native.Nat.{ℕ, ◌+◌, ◌-◌}
use native.Mathlib.Omega.{arith}
use Rattle.dubins.specs.declared.Ends.{Ends}
use Rattle.dubins.specs.Choice.{shortest_of, found_length}
use Rattle.plan.specs.Lent.{lent_plan}
use Rattle.distance.proofs.PassLaws.{leg-placed, leg-aimed, rounding-radius, corner-there, lines_next, dubins-next, tangents-fit, root-most, fillets-next}
use Rattle.distance.proofs.step.Goals as goal

pub level_length-requires : goal.level_length-requires
level_length-requires c =
    (c.requires.le_i.0, leg-placed (lent_plan c.args.plan.now) c.requires.sound c.args.plan.now.long c.args.i c.requires.le_i.0 c.requires.le_i.1.inside)

pub corner_before-start-requires : goal.corner_before-start-requires
corner_before-start-requires c =
    let p = lent_plan c.args.plan.now in
    let m = c.in-Fillets.is in
    let l = c.requires.le_i.0 in
    let w = c.requires.le_i.1 in
    let long = c.args.plan.now.long in
    record {
      le_i = (l, (rounding-radius p c.requires.sound long c.args.i l w.inside m, (w.corner m).leg l));
      corner_there = corner-there p c.requires.sound long c.args.i l w.inside m;
    }

pub overflow_add-straight : goal.overflow_add-straight
overflow_add-straight c =
    let p = lent_plan c.args.plan.now in
    let w = c.requires.le_i.1 in
    let k = c.corner_before-start.ensures p.head.count w.inside in
    omega (arith, tangents-fit p c.args.i c.args.carry c.requires.le_i.0 w c.in-Fillets.is c.requires.sound _ k, root-most p c.args.i c.args.carry c.requires.le_i.0 w c.in-Fillets.is c.requires.sound _ k)

pub overflow_sub-straight : goal.overflow_sub-straight
overflow_sub-straight c =
    let p = lent_plan c.args.plan.now in
    let w = c.requires.le_i.1 in
    let k = c.corner_before-start.ensures p.head.count w.inside in
    omega (arith, tangents-fit p c.args.i c.args.carry c.requires.le_i.0 w c.in-Fillets.is c.requires.sound _ k, c.root-length.ensures.value)

pub leg_ends-requires-clause-points : goal.leg_ends-requires-clause-points
leg_ends-requires-clause-points c =
    (c.requires.le_i.0, leg-placed (lent_plan c.args.plan.now) c.requires.sound c.args.plan.now.long c.args.i c.requires.le_i.0 c.requires.le_i.1.inside)

pub leg_ends-requires-clause-courses : goal.leg_ends-requires-clause-courses
leg_ends-requires-clause-courses c =
    leg-aimed (lent_plan c.args.plan.now) c.requires.sound c.args.plan.now.long c.args.i c.requires.le_i.0 c.requires.le_i.1.inside c.in-Dubins.is

pub returns-in-Lines : goal.returns-in-Lines
returns-in-Lines c =
    lines_next (lent_plan c.args.plan.now) c.args.i c.args.carry c.requires.le_i.0 c.requires.le_i.1 c.in-Lines.is c.level_length.result c.level_length.ensures.0 c.level_length.ensures.1

pub returns-in-Fillets : goal.returns-in-Fillets
returns-in-Fillets c =
    let p = lent_plan c.args.plan.now in
    let w = c.requires.le_i.1 in
    let r = c.corner_before-start.result in
    let k = c.corner_before-start.ensures p.head.count w.inside in
    fillets-next p c.args.i c.args.carry c.requires.le_i.0 w c.in-Fillets.is c.requires.sound r k _
    (ap (λ (n : ℕ). n - (r.tangent + c.args.carry.corner.tangent)) c.root-length.ensures.value)

pub returns-in-Dubins : goal.returns-in-Dubins
returns-in-Dubins c =
    dubins-next (lent_plan c.args.plan.now) c.args.i c.args.carry c.requires.le_i.0 c.requires.le_i.1 c.in-Dubins.is c.shortest_length.result
    (c.shortest_length.ensures.0 ∙ ap (λ (x : Ends). found_length (shortest_of x)) c.leg_ends.ensures.0) (omega (arith, c.shortest_length.ensures.1))
