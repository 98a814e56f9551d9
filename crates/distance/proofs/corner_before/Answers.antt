-- `corner_before` gives the corner at the start of a leg, with its arc, its tangent length and the leg to it. Assumes nothing.
use mathlib.Core.Path.{sym, subst}
use Prim.Native.Nat.{ℕ, ◌≤◌}
use native.Mathlib.Omega.{arith}
use Rattle.plan.specs.Limits.{most_turn}
use Rattle.plan.specs.Places.{plan_point}
use Rattle.plan.specs.Lent.{lent_plan}
use Rattle.distance.proofs.PassLaws.{first-rounded, corner-turn, corner-rounded}
use Rattle.distance.proofs.corner_before.Goals as goal

pub returns-then-i-lt2 : goal.returns-then-i-lt2
returns-then-i-lt2 c n h = first-rounded _ n _ _ _ (omega (arith, c.requires.le_i.0, c.if-i-lt2.true))

pub tangent_length-tangent-requires : goal.tangent_length-tangent-requires
tangent_length-tangent-requires c =
    let at = plan_point (lent_plan c.args.plan.now) in
    let g = corner-turn at c.args.i c.level_leg_at-before.result c.args.leg c.lesser_turn-turn.result c.if-i-lt2.false c.level_leg_at-before.ensures c.requires.le_i.1.1 c.lesser_turn-turn.ensures.0 in
    (rw c.from-radius.ensures c.requires.le_i.1.0, subst (λ (n : ℕ). n ≤ most_turn) (sym g) (c.requires.corner_there c.if-i-lt2.false).turn)

pub returns : goal.returns
returns c n h =
    let p = lent_plan c.args.plan.now in
    corner-rounded p.head.radius n (plan_point p) c.args.i c.level_leg_at-before.result c.args.leg c.lesser_turn-turn.result c.if-i-lt2.false h c.level_leg_at-before.ensures c.requires.le_i.1.1
    c.lesser_turn-turn.ensures.0 _ _ (rw c.from-radius.ensures at c.arc-arc.ensures.0) c.arc-arc.ensures.1 (rw c.from-radius.ensures at c.tangent_length-tangent.ensures.value)
