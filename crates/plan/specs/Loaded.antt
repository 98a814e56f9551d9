-- Clause 4.11: the plan that a file's lists make, and what a reader knows of them once 8 to 12 and 17 have passed. Assumes nothing.
use Rattle.std.specs.Prelude.{◌≡◌, true, List, ◌⊎◌, ℕ, ◌≤◌, ◌<◌, length, pos}
use Rattle.refusals.specs.Outcome.{is_good}
use Rattle.plane.specs.declared.Point.{Point}
use Rattle.plane.specs.Area.{InArea}
use Rattle.plan.specs.declared.Plan.{Plan}
use Rattle.plan.specs.Limits.{most_points, least_radius, most_radius, full_circle}
use Rattle.plan.specs.Places.{points_at, courses_at, padded}
use Rattle.plan.specs.Rules.{mode_of, rules_on}

-- a radius of 0 stands for none; the courses are those of the first points
abbrev pub plan_of : ℕ → ℕ → List Point → List ℕ → Plan
plan_of serial R ps cs =
    record {
      head = record { serial = serial; mode = mode_of R (length cs); radius = R; count = length ps };
      norths = padded (λ (p : Point). p.north) most_points (pos 0) ps;
      easts = padded (λ (p : Point). p.east) most_points (pos 0) ps;
      downs = padded (λ (p : Point). p.down) most_points (pos 0) ps;
      courses = padded pos most_points (pos 0) cs;
    }

pub record Loadable (serial R : ℕ) (ps : List Point) (cs : List ℕ) : Type 0 where
  pub numbered : serial ≡ 0 → ⊥
  pub radius : (R ≡ 0) ⊎ ((least_radius ≤ R) × (R ≤ most_radius))
  pub ranged : (i : ℕ) → i < length ps → InArea (points_at ps i)
  pub aimed : (i : ℕ) → i < length cs → courses_at cs i < full_circle
  pub rules : is_good (rules_on (mode_of R (length cs)) R (length cs) (length ps) (points_at ps) (courses_at cs)) ≡ true
