-- No clause: what the pass from the last leg to the first relies on, and what it carries from leg to leg. For proofs alone: no contract of a public
-- function cites it. Assumes nothing.
use Rattle.std.specs.Prelude.{◌≡◌, List, ℕ, ◌+◌, ◌-◌, ◌*◌, ◌≤◌, ◌<◌}
use Rattle.buffers.specs.Splice.{splice}
use Rattle.plane.specs.declared.Point.{Point}
use Rattle.fillets.specs.Corners.{corner_turn}
use Rattle.plan.specs.declared.Mode.TheVariants.{Fillets}
use Rattle.plan.specs.declared.Plan.{Plan}
use Rattle.plan.specs.Limits.{most_turn}
use Rattle.plan.specs.Places.{plan_point}
use Rattle.plan.specs.Rules.{tangent_at}
use Rattle.plan.specs.Stands.{IsLevelLeg, Stands}
use Rattle.plan.specs.Lent.{PointPlaced}
use Rattle.distance.specs.declared.Rounding.{Rounding}
use Rattle.distance.specs.declared.Carry.{Carry}
use Rattle.distance.specs.Lengths.{total, level_length, corner_arc, plan_length}
use Rattle.distance.specs.Table.{entries_from}

-- a plan that 14 has passed: no fillet leg is shorter than its tangent lengths
pub record Sound (p : Plan) : Type 0 where
  pub stands : Stands p
  pub lengths : p.head.mode ≡ Fillets → (i : ℕ) → 1 ≤ i → i < p.head.count
      → tangent_at p.head.radius p.head.count (plan_point p) (i - 1) + tangent_at p.head.radius p.head.count (plan_point p) i ≤ level_length (plan_point p) i

-- the corner at the start of the leg that ends at place i, where it has one
pub record CornerThere (p : Plan) (i : ℕ) : Type 0 where
  pub before : PointPlaced p (i - 2)
  pub corner : PointPlaced p (i - 2 + 1)
  pub turn : corner_turn (plan_point p (i - 2)) (plan_point p (i - 1)) (plan_point p i) ≤ most_turn

-- the corner at place i of n points, and the leg to it
pub record Rounded (R n : ℕ) (at : ℕ → Point) (i : ℕ) (r : Rounding) : Type 0 where
  pub tangent : r.tangent ≡ tangent_at R n at i
  pub arc : 1 ≤ i → total (corner_arc Fillets R at) (n - 1 - i) i ≡ r.arc + total (corner_arc Fillets R at) (n - 1 - (i + 1)) (i + 1)
  pub most : r.arc ≤ 125633
  pub leg : 1 ≤ i → IsLevelLeg (at (i - 1)) (at i) r.leg

-- all that lies behind place i is added up; a leg with its corner comes to less than 3,000,000
pub record AddedUp (p : Plan) (i : ℕ) (c : Carry) : Type 0 where
  pub inside : i < p.head.count
  pub left : c.left ≡ plan_length p (i + 1)
  pub most : c.left ≤ 3000000 * (p.head.count - 1 - i)
  pub corner : p.head.mode ≡ Fillets → Rounded p.head.radius p.head.count (plan_point p) i c.corner

-- a table into which the entries from the leg that ends at place i on are told
unfoldable pub told_from : Plan → ℕ → List ℕ → List ℕ
told_from p i table = splice (i + 1) (entries_from p (p.head.count - i) (i + 1)) table
