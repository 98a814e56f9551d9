-- `guide` gives the guidance at an index and phase. Assumes nothing.
use mathlib.Core.Path.{◌≡◌, sym, ◌∙◌}
use Prim.Native.Nat.{◌-◌}
use native.Mathlib.Omega.{arith}
use Rattle.conditions.specs.Choose.{choose}
use Rattle.plane.specs.Area.{InArea}
use Rattle.plan.proofs.PlaceLaws.{area-at}
use Rattle.manager.specs.Step.{guide_of}
use Rattle.manager.proofs.StateLaws.{fillets-corner, leg-start, leg-end, beyond, aimed}
use Rattle.manager.proofs.GuideLaws.{dubins-everywhere}
use Rattle.manager.proofs.guide.Goals as goal
use Rattle.manager.proofs.guide.Goals.{After-point_at-b}

-- the points of the leg that is flown lie in the area
leg : (q : After-point_at-b) → InArea q.point_at-a.result × InArea q.point_at-b.result
leg q =
    let l = q.args.plan.now.long in
    (area-at q.point_at-a.ensures (leg-start _ q.requires.0 l), area-at q.point_at-b.ensures (leg-end _ q.requires.0 l))

pub point_at-a-requires : goal.point_at-a-requires
point_at-a-requires c = (leg-start _ c.requires.0 c.args.plan.now.long).there

pub point_at-b-requires : goal.point_at-b-requires
point_at-b-requires c = (leg-end _ c.requires.0 c.args.plan.now.long).there

pub last_leg_guide-requires : goal.last_leg_guide-requires
last_leg_guide-requires c = let g = leg (goal.at.last_leg_guide-requires c).After-point_at-b in (g.0, (g.1, c.requires.1))

pub returns-then-last : goal.returns-then-last
unfolding guide_of choose
returns-then-last c =
    let n = sym c.on_last_leg-last.ensures ∙ c.if-last.true in
    rw (c.in-Lines.is, n) (rw (c.point_at-a.ensures, c.point_at-b.ensures) at c.last_leg_guide.ensures)

pub point_at-requires : goal.point_at-requires
point_at-requires c = (beyond _ c.requires.0 c.args.plan.now.long (sym c.on_last_leg-last.ensures ∙ c.if-last.false)).there

pub line_guide-requires : goal.line_guide-requires
line_guide-requires c =
    let g = leg (goal.at.line_guide-requires c).After-point_at-b in
    let b = beyond _ c.requires.0 c.args.plan.now.long (sym c.on_last_leg-last.ensures ∙ c.if-last.false) in
    (g.0, (g.1, (area-at c.point_at.ensures b, c.requires.1)))

pub returns-else-last : goal.returns-else-last
unfolding guide_of choose
returns-else-last c =
    let n = sym c.on_last_leg-last.ensures ∙ c.if-last.false in
    rw (c.in-Lines.is, n) (rw (c.point_at-a.ensures, c.point_at-b.ensures, c.point_at.ensures) at c.line_guide.ensures)

pub last_leg_guide-requires-then-last-2 : goal.last_leg_guide-requires-then-last-2
last_leg_guide-requires-then-last-2 c = let g = leg (goal.at.last_leg_guide-requires-then-last-2 c).After-point_at-b in (g.0, (g.1, c.requires.1))

pub returns-then-last-2 : goal.returns-then-last-2
unfolding guide_of choose
returns-then-last-2 c =
    let n = sym c.on_last_leg-last.ensures ∙ c.if-last-2.true in
    rw (c.in-Fillets.is, n) (rw (c.point_at-a.ensures, c.point_at-b.ensures) at c.last_leg_guide-then-last-2.ensures)

pub point_at-requires-in-Fillets : goal.point_at-requires-in-Fillets
point_at-requires-in-Fillets c = (beyond _ c.requires.0 c.args.plan.now.long (sym c.on_last_leg-last.ensures ∙ c.if-last-2.false)).there

pub fillet_guide-requires : goal.fillet_guide-requires
fillet_guide-requires c =
    let g = leg (goal.at.fillet_guide-requires c).After-point_at-b in
    let n = sym c.on_last_leg-last.ensures ∙ c.if-last-2.false in
    let b = beyond _ c.requires.0 c.args.plan.now.long n in
    let corner = fillets-corner _ c.requires.0 c.in-Fillets.is n in (
      (g.0, (g.1, area-at c.point_at-in-Fillets.ensures b)),
      (rw (c.from-radius.ensures, c.point_at-a.ensures, c.point_at-b.ensures, c.point_at-in-Fillets.ensures) corner, c.requires.1),
    )

pub returns-else-last-2 : goal.returns-else-last-2
unfolding guide_of choose
returns-else-last-2 c =
    let n = sym c.on_last_leg-last.ensures ∙ c.if-last-2.false in
    rw (c.in-Fillets.is, n) (rw (c.from-radius.ensures, c.point_at-a.ensures, c.point_at-b.ensures, c.point_at-in-Fillets.ensures) at c.fillet_guide.ensures)

pub leg_ends-requires-clause-points : goal.leg_ends-requires-clause-points
leg_ends-requires-clause-points c =
    let v = c.requires.0 in
    let before : c.args.progress.index - 1 - 1 ≡ c.args.progress.index - 2 = omega (arith, v.least) in
    (omega (arith, v.least), (rw before (leg-start _ v c.args.plan.now.long), leg-end _ v c.args.plan.now.long))

pub leg_ends-requires-clause-courses : goal.leg_ends-requires-clause-courses
leg_ends-requires-clause-courses c =
    let v = c.requires.0 in
    let before : c.args.progress.index - 1 - 1 ≡ c.args.progress.index - 2 = omega (arith, v.least) in
    rw before (aimed _ v c.args.plan.now.long c.in-Dubins.is)

pub returns-in-Dubins : goal.returns-in-Dubins
returns-in-Dubins c =
    let m = c.in-Dubins.is in
    let before : c.args.progress.index - 1 - 1 ≡ c.args.progress.index - 2 = omega (arith, c.requires.0.least) in
    rw dubins-everywhere (rw (c.leg_ends.ensures.0, before) at c.path_guide.ensures)
