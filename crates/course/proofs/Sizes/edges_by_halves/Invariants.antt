-- What the loops of `edges_by_halves` keep, and what falls with each round. Assumes nothing.
use Prim.Native.Nat.{ℕ, ◌-◌, ◌*◌, ◌<◌, ◌≤◌}
use Rattle.course.specs.Bearing.{edge_north, edge_east}
use Rattle.course.proofs.Sizes.edges_by_halves.Given as goal

pub record Inv (a b low high : ℕ) : Type 0 where
  pub order : low < high
  pub most : high ≤ 1025
  pub from : 1 ≤ low → edge_east low * a ≤ edge_north low * b
  pub upto : high ≤ 1024 → edge_north high * b < edge_east high * a

abbrev pub invariant-loop-low : goal.invariant-loop-low
invariant-loop-low l = Inv l.self.north l.self.east l.low l.high

abbrev pub decreases-loop-low : goal.decreases-loop-low
decreases-loop-low l = l.high - l.low
