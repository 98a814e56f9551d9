-- No clause: what is asked of numbers that are lent as a plan's: a number for every place. Assumes nothing.
use Rattle.std.specs.Prelude.{◌≤◌, List, ℤ, length}
use Rattle.plan.specs.Limits.{most_points}

-- all places are there
pub record Long (norths easts downs courses : List ℤ) : Type 0 where
  pub north : most_points ≤ length norths
  pub east : most_points ≤ length easts
  pub down : most_points ≤ length downs
  pub course : most_points ≤ length courses
