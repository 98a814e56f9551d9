-- What `guide_of` gives lines and fillets on the last leg, and Dubins plans on every leg. Assumes nothing.
use mathlib.Core.Path.{◌≡◌}
use mathlib.Core.Bool.{true}
use Prim.Native.Nat.{ℕ, ◌-◌}
use Rattle.conditions.specs.Choose.{choose}
use Rattle.plane.specs.declared.Point.{Point}
use Rattle.dubins.specs.Choice.{shortest_of}
use Rattle.guidance.specs.declared.View.TheVariants.{Level, InSpace}
use Rattle.guidance.specs.Guide.{last_leg_guide}
use Rattle.plan.specs.declared.Mode.{Mode}
use Rattle.plan.specs.declared.Mode.TheVariants.{Lines, Fillets, Dubins}
use Rattle.plan.specs.declared.Plan.{Plan}
use Rattle.plan.specs.Places.{plan_point}
use Rattle.manager.specs.State.{on_last_leg}
use Rattle.manager.specs.Step.{ends_of, path_guide, guide_of}

module _ {m : Mode} (plan : Plan) (i phase : ℕ) (p : Point) where
  pub lines-last : m ≡ Lines → on_last_leg plan.head.count i ≡ true → guide_of m plan i phase p ≡ last_leg_guide InSpace (plan_point plan (i - 2)) (plan_point plan (i - 1)) p
  unfolding guide_of choose
  lines-last e t = rw (e, t)

  pub fillets-last : m ≡ Fillets → on_last_leg plan.head.count i ≡ true → guide_of m plan i phase p ≡ last_leg_guide Level (plan_point plan (i - 2)) (plan_point plan (i - 1)) p
  unfolding guide_of choose
  fillets-last e t = rw (e, t)

  pub dubins-everywhere : m ≡ Dubins → guide_of m plan i phase p ≡ path_guide (ends_of plan i) phase p (shortest_of (ends_of plan i))
  unfolding guide_of
  dubins-everywhere e = rw e
