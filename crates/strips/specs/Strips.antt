-- Clauses 20.1 to 20.4: strips, the three rules that each keeps, and what a strip plan is, as request 1 says it. Over the points and courses of a
-- plan by their places, which are counted from 0. Assumes nothing.
use Rattle.std.specs.Prelude.{◌≡◌, ℕ, ◌-◌, ◌*◌, ◌/◌, ◌%◌, ◌≤◌, ◌<◌, pos, ◌-ℤ◌}
use Rattle.integers.specs.Wrap.{wrap_of}
use Rattle.course.specs.declared.Vector.{Vector}
use Rattle.course.specs.Bearing.{bearing_of}
use Rattle.plane.specs.declared.Point.{Point}
use Rattle.plane.specs.Level.{level_leg_of}
use Rattle.plan.specs.declared.Mode.TheVariants.{Dubins}
use Rattle.plan.specs.declared.Plan.{Plan}
use Rattle.plan.specs.Places.{plan_point, plan_course}

-- ---- 20.1: strip j, from 1, has the points 2j − 1 and 2j
abbrev pub first_place : ℕ → ℕ
first_place j = 2 * j - 2

abbrev pub last_place : ℕ → ℕ
last_place j = 2 * j - 1

-- how many strips so many points are
abbrev pub strips_in : ℕ → ℕ
strips_in n = n / 2

-- the leg of a strip in north and east
abbrev pub strip_leg : (ℕ → Point) → ℕ → Vector
strip_leg at j = level_leg_of (at (first_place j)) (at (last_place j))

-- ---- 20.2: the rules
-- two courses that differ by 2048, modulo 4096
abbrev pub Opposed : ℕ → ℕ → Type 0
Opposed χ ψ = wrap_of (pos χ -ℤ pos ψ) ≡ 2048

-- what the rule of a number asks of strip j. Strip 1 has none before it.
pub record Keeps (rule : ℕ) (at : ℕ → Point) (course : ℕ → ℕ) (j : ℕ) : Type 0 where
  -- its two courses are equal
  pub equal : rule ≡ 1 → course (first_place j) ≡ course (last_place j)
  -- they equal the bearing of its leg
  pub along : rule ≡ 2 → (course (first_place j) ≡ bearing_of (strip_leg at j)) × (course (last_place j) ≡ bearing_of (strip_leg at j))
  -- they differ by 2048 from those of the strip before
  pub against : rule ≡ 3 → 2 ≤ j
      → Opposed (course (first_place j)) (course (first_place (j - 1))) × Opposed (course (last_place j)) (course (last_place (j - 1)))

-- ---- 20.3: a Dubins plan with an even number of points, each of whose strips keeps each rule
pub record Paired (p : Plan) : Type 0 where
  pub mode : p.head.mode ≡ Dubins
  pub even : p.head.count % 2 ≡ 0

pub record StripPlan (p : Plan) : Type 0 where
  pub paired : Paired p
  pub kept : (j : ℕ) → 1 ≤ j → j ≤ strips_in p.head.count → (rule : ℕ) → Keeps rule (plan_point p) (plan_course p) j

-- ---- 20.4: strip j of n points is at fault by a rule. No earlier strip is, and no earlier rule of that strip is broken.
pub record FirstFault (at : ℕ → Point) (course : ℕ → ℕ) (n j rule : ℕ) : Type 0 where
  pub strip : (1 ≤ j) × (j ≤ strips_in n)
  pub named : (1 ≤ rule) × (rule ≤ 3)
  pub broken : Keeps rule at course j → ⊥
  pub rules : (earlier : ℕ) → earlier < rule → Keeps earlier at course j
  pub strips : (i : ℕ) → 1 ≤ i → i < j → (any : ℕ) → Keeps any at course i
