-- `shortest_length` tries RSR and LSL, then RSL and LSR, and keeps the least length, which is that of any order. Assumes nothing.
use Rattle.std.proofs.Common.{Option}
use mathlib.Core.Path.{subst}
use native.Mathlib.Omega.{arith}
use Rattle.dubins.specs.declared.Ends.{Ends}
use Rattle.dubins.specs.declared.Path.{Path}
use Rattle.dubins.specs.Choice.{shortest_of}
use Rattle.dubins.specs.Ways.{Measures}
use Rattle.dubins.proofs.ShortestLaws.{shortest-all, measures-found, measures-none}
use Rattle.dubins.proofs.OrderLaws.{outer-first}
use Rattle.dubins.proofs.shortest_length.Goals as goal
use Rattle.dubins.proofs.shortest_length.Goals.{After-better_length-best}

-- all four cases were tried
tried : (c : After-better_length-best) → Measures (shortest_of c.args.ends) c.better_length-best.result
tried c =
    let ends = c.new-sides.result.ends in
    let best = c.better_length-best.result in
    let all : Measures (shortest_of ends) best =
    subst (λ (f : Option Path). Measures f best) (shortest-all ends) (outer-first ends _ (c.better_length-best.ensures _ (c.better_length-rsl.ensures _ c.outer_length.ensures))) in
    subst (λ (x : Ends). Measures (shortest_of x) best) c.new-sides.ensures all

pub returns-then-best-lt-NO_LENGTH : goal.returns-then-best-lt-NO_LENGTH
returns-then-best-lt-NO_LENGTH c = let h = c.if-best-lt-NO_LENGTH.true in (measures-found _ _ (tried c.before) h, omega (arith, h))

pub returns-else-best-lt-NO_LENGTH : goal.returns-else-best-lt-NO_LENGTH
returns-else-best-lt-NO_LENGTH c = (measures-none _ _ (tried c.before) c.if-best-lt-NO_LENGTH.false, omega arith)
