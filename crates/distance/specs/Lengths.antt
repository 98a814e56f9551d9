-- Clauses 21.1 to 21.4: the distance to go from an index on, a sum over legs and corners, as request 2 says it. Points stand at places, which are
-- counted from 0: point i at place i − 1. Assumes nothing.
use Rattle.std.specs.Prelude.{ℕ, zero, suc, ◌+◌, ◌-◌}
use Rattle.plane.specs.declared.Point.{Point}
use Rattle.plane.specs.Level.{level_leg_of, vector_length, arc_of}
use Rattle.fillets.specs.Corners.{corner_turn}
use Rattle.dubins.specs.Choice.{shortest_of, found_length}
use Rattle.plan.specs.declared.Mode.{Mode}
use Rattle.plan.specs.declared.Mode.TheVariants.{Lines, Fillets, Dubins}
use Rattle.plan.specs.declared.Plan.{Plan}
use Rattle.plan.specs.Places.{plan_point, plan_course}
use Rattle.plan.specs.Rules.{ends_at, tangent_at}

-- ---- 21.1: a number of each place, k of them from place i on, added up
unfoldable pub total : (ℕ → ℕ) → ℕ → ℕ → ℕ
total f zero i = 0
total f (suc k) i = f i + total f k (i + 1)

-- ---- the leg that ends at place i
-- 21.2: in north and east
unfoldable pub level_length : (ℕ → Point) → ℕ → ℕ
level_length at i = vector_length (level_leg_of (at (i - 1)) (at i))

-- 21.2; 21.3: less the tangent length at each of its own ends; 21.4: by the shortest case
unfoldable pub leg_length : Mode → ℕ → ℕ → (ℕ → Point) → (ℕ → ℕ) → ℕ → ℕ
leg_length Lines R n at course i = level_length at i
leg_length Fillets R n at course i = level_length at i - tangent_at R n at (i - 1) - tangent_at R n at i
leg_length Dubins R n at course i = found_length (shortest_of (ends_at R at course (i - 1) i))

-- ---- 21.3: the arc of the corner at place i, which fillets alone have
unfoldable pub corner_arc : Mode → ℕ → (ℕ → Point) → ℕ → ℕ
corner_arc Lines R at i = 0
corner_arc Fillets R at i = arc_of R (corner_turn (at (i - 1)) (at i) (at (i + 1)))
corner_arc Dubins R at i = 0

-- ---- 21.1: of n points, the legs that end at place i or behind it, and the corners from place i on; the last point is none
unfoldable pub length_from : Mode → ℕ → ℕ → (ℕ → Point) → (ℕ → ℕ) → ℕ → ℕ
length_from mode R n at course i = total (leg_length mode R n at course) (n - i) i + total (corner_arc mode R at) (n - 1 - i) i

-- of a plan, from the leg that ends at place i on
abbrev pub plan_length : Plan → ℕ → ℕ
plan_length p i = length_from p.head.mode p.head.radius p.head.count (plan_point p) (plan_course p) i

-- 21.1: entry i of the table
unfoldable pub entry_of : Plan → ℕ → ℕ
entry_of p i = plan_length p (i - 1)
