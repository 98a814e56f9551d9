-- What the loop of `sweep` keeps: the places before the one reached have passed, by whatever numbers the checks have answered. Assumes nothing.
use Rattle.std.proofs.Common.{◌≡◌, Option, ℕ, ◌-◌, ◌≤◌, ◌<◌}
use Rattle.refusals.specs.Sweep.{sweep, noted}
use Rattle.refusals.proofs.sweep.Given as goal

abbrev pub invariant-loop-place : goal.invariant-loop-place
invariant-loop-place g l =
    let start = l.fn.places.start in
    let end = l.fn.places.end in
    let next = l.place-iterator.start in
    (start ≤ next)
    × ((l.place-iterator.end ≡ end)
    × ((f : ℕ → ℕ) → ((i : ℕ) (r : Option ℕ) → start ≤ i → i < end → goal.F-post g l.number_at i r → r ≡ noted (f i)) → sweep f (end - start) start ≡ sweep f (end - next) next))
