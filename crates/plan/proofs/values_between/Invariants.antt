-- What the loop of `values_between` keeps: none is over so far exactly where all so far lie between the limits. Assumes nothing.
use mathlib.Core.Path.{◌≡◌}
use mathlib.Core.Bool.{Bool}
use mathlib.Core.List.{List}
use Prim.Native.Nat.{ℕ, ◌-◌, ◌≤◌}
use lib.IntN.{ℤ}
use Rattle.refusals.specs.Sweep.{every}
use Rattle.refusals.proofs.SweepLaws.{passing}
use Rattle.plan.specs.Limits.{signed_between}
use Rattle.plan.specs.Places.{number_at}
use Rattle.plan.proofs.values_between.Given as goal

abbrev pub fits : List ℤ → ℕ → ℕ → ℕ → Bool
fits values low high i = signed_between low high (number_at values i)

abbrev pub invariant-loop-i : goal.invariant-loop-i
invariant-loop-i l = (l.over ≤ l.i) × (every (fits l.values l.low l.high) (l.to - l.from) l.from ≡ passing (fits l.values l.low l.high) l.over l.to l.i)
