-- No clause: the plan that is lent, and what its places ask of one. Assumes nothing.
use Rattle.std.specs.Prelude.{ℕ}
use Rattle.plan.specs.declared.Plan.{Plan}
use Rattle.plan.specs.declared.lent.Lent.{Lent}
use Rattle.plan.specs.Places.{seen}
use Rattle.plan.specs.Stands.{There, Placed, Aiming, Counted, Fit}

abbrev pub lent_plan : Lent → Plan
lent_plan l = seen l.head l.norths.now l.easts.now l.downs.now l.courses.now

-- ---- of a plan: the numbers of a place, with a point in the area; a course at a place; what the rules may rely on
abbrev pub PointThere : Plan → ℕ → Type 0
PointThere p = There p.norths p.easts p.downs

abbrev pub PointPlaced : Plan → ℕ → Type 0
PointPlaced p = Placed p.norths p.easts p.downs

abbrev pub CourseThere : Plan → ℕ → Type 0
CourseThere p = Aiming p.courses

-- for proofs alone
abbrev pub PointsCounted : Plan → Type 0
PointsCounted p = Counted p.norths p.easts p.downs p.head.count

-- for proofs alone
abbrev pub PlanFits : Plan → Type 0
PlanFits p = Fit p.head.radius p.head.count p.norths p.easts p.downs p.courses
