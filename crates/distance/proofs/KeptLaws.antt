-- A run keeps the plan and its soundness, and so the table. Assumes nothing.
use mathlib.Core.Path.{◌≡◌, refl, sym, ap, ◌∙◌, subst}
use mathlib.Core.Bool.{true}
use mathlib.Core.List.{List, [], ◌∷◌}
use Prim.Native.Nat.{ℕ, ◌+◌, ◌<◌}
use lib.Dec.{leb}
use lib.ListN.{length, get_or}
use Rattle.refusals.specs.Numbers.{no_state, no_room}
use Rattle.refusals.specs.Outcome.{Outcome, good, check}
use Rattle.refusals.proofs.OutcomeLaws.{check-true}
use Rattle.plan.specs.declared.Plan.{Plan}
use Rattle.manager.specs.declared.State.{State}
use Rattle.manager.specs.State.{valid_of}
use Rattle.manager.proofs.FliesLaws.{flies}
use Rattle.wpl.proofs.StartLaws.{starts}
use Rattle.flight.specs.Run.{Named, step_by, run}
use Rattle.flight.specs.Flight.{last_of}
use Rattle.distance.specs.Table.{entries_of, distances_of, table_of, AtIndex}
use Rattle.distance.specs.Kept.{TableKept, ToldAtTheLoad}

plan-kept : (s : State) (xs : List Named) → (last_of s (run s xs)).plan ≡ s.plan
unfolding run last_of
plan-kept s [] = refl
plan-kept s (x ∷ xs) = plan-kept (step_by s x).state xs ∙ (flies s x.serial x.fix).keeps

valid-kept : (s : State) → valid_of s ≡ true → (xs : List Named) → valid_of (last_of s (run s xs)) ≡ true
unfolding run last_of
valid-kept s v [] = v
valid-kept s v (x ∷ xs) = valid-kept (step_by s x).state ((flies s x.serial x.fix).onward v) xs

table-flown : (s : State) → valid_of s ≡ true → (xs : List Named) (room : ℕ) → distances_of (last_of s (run s xs)) room ≡ distances_of s room
unfolding distances_of
table-flown s v xs room =
    let e = valid-kept s v xs ∙ sym v in
    let p = plan-kept s xs in
    λ j. check (e j) no_state (check (leb ((p j).head.count + 1) room) no_room (good (entries_of (p j))))

pub table_kept : TableKept
table_kept = record { loaded = λ r f s h. table-flown s ((starts r f).valid s h); flown = table-flown }

-- by what is promised of the table and of the distance alone
pub told-at-the-load : TableKept → AtIndex → ToldAtTheLoad
told-at-the-load kept at-index r f s h table room fixes =
    let t = last_of s (run s fixes) in
    let e = plan-kept s fixes in
    let v = valid-kept s ((starts r f).valid s h) fixes in
    at-index t table (subst (λ (p : Plan). p.head.count < length table) (sym e) room)
    ∙ check-true (valid_of t) no_state _ v
    ∙ ap (λ (o : Outcome (List ℕ)). good (get_or (table_of o table) t.progress.index 0)) (kept.loaded r f s h fixes (length table))
