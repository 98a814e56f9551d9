-- A plan that stands can be flown from its start, and the empty state is refused. Assumes nothing.
use mathlib.Core.Path.{◌≡◌, refl}
use mathlib.Core.Bool.{true}
use Prim.Native.Nat.{ℕ}
use native.Mathlib.Omega.{arith}
use borrow.Author.Tests.{le-leb}
use Rattle.conditions.specs.Choose.{choose}
use Rattle.conditions.proofs.Bools.{both_true}
use Rattle.refusals.specs.Numbers.{no_state}
use Rattle.units.specs.declared.Fix.{Fix}
use Rattle.plan.specs.declared.Plan.{Plan}
use Rattle.plan.specs.Stands.{stands_of}
use Rattle.plan.proofs.StandLaws.{stands-means}
use Rattle.manager.specs.State.{empty_state, start_of, last_index, index_fits, phase_fits, end_fits, placed_of, valid_of}
use Rattle.manager.specs.Step.{refuse_of, step_of}
pub use Rattle.manager.proofs.EmptyLaws.{empty-invalid}
use Rattle.manager.proofs.StateLaws.{last-is, phase-one}
use Rattle.manager.proofs.StepLaws.{step-14}

-- index 2 is a point of every plan that stands, and every mode has phase 1 there
pub started-valid : (p : Plan) → stands_of p ≡ true → valid_of (start_of p) ≡ true
unfolding valid_of placed_of index_fits phase_fits end_fits choose
started-valid p h =
    let m = (stands-means p h).least in
    both_true _ _ h
    (both_true _ _ (both_true _ _ (le-leb 2 2 (omega arith)) (le-leb 2 (last_index p.head.count) (omega (arith, last-is p.head.count))))
    (both_true _ _ (both_true _ _ (le-leb 1 1 (omega arith)) (le-leb 1 _ (phase-one p.head.mode p.head.count 2))) refl))

pub empty-refused : (serial : ℕ) (fix : Fix) → step_of empty_state serial fix ≡ refuse_of empty_state no_state
empty-refused serial fix = step-14 empty_state serial fix empty-invalid
