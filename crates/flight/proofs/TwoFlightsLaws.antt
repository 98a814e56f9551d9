-- Two calls of `fly`, from `demand`. Assumes nothing.
use mathlib.Core.Path.{◌≡◌, refl, sym, ap, ◌∙◌}
use mathlib.Core.Bool.{true, false}
use mathlib.Core.List.{List}
use Prim.Native.Nat.{ℕ}
use native.Mathlib.Omega.{arith}
use lib.Dec.{eqb}
use lib.ListN.{length}
use lib.Ieee.{Float}
use borrow.Author.Tests.{eq-eqb}
use Rattle.conditions.proofs.Bools.{by_bool, clash}
use Rattle.refusals.specs.Outcome.{Outcome, good, refused, is_good, refusal_of}
use Rattle.refusals.proofs.OutcomeLaws.{Proper, proper-check, check-true, check-means}
use Rattle.manager.specs.declared.State.{State}
use Rattle.manager.specs.State.{empty_state}
use Rattle.records.specs.Kinds.{holds_newer}
use Rattle.wpl.specs.Load.{records_of, load_of}
use Rattle.wpl.proofs.LoadLaws.{load-proper}
use Rattle.refusals.specs.Numbers.{misfit}
use Rattle.flight.specs.declared.Flown.{Flown}
use Rattle.flight.specs.Run.{Named}
use Rattle.flight.specs.Demand.{IsOlder}
use Rattle.flight.specs.Flight.{named_of, fits_of, begin_of, flown_by, flown_of, answers_after, commands_after}
use Rattle.flight.specs.TwoFlights.{TwoFlights, flown_with}
use Rattle.flight.proofs.DemandLaws.{demand}

-- a flight that is not refused started from a state
started : (o : Outcome State) (xs : List Named) → Proper o → (flown_by empty_state o xs).refusal ≡ 0 → (s : State) × (o ≡ good s)
unfolding flown_by is_good refusal_of
started (good s) xs p h = (s, refl)
started (refused n q) xs p h = clash (eqb n 0) (eq-eqb n 0 h) (sym p)

module _ (f serials : List ℕ) (fixes : List Float) (answers : List ℕ) (commands : List Float) (r : ℕ) (older : IsOlder r)
    (flies : (flown_with f serials fixes answers commands 3).refusal ≡ 0) where
  from-three : (s : State) × ((fits_of (length serials) (length fixes) (length answers) (length commands) ≡ true) × (load_of 3 f ≡ good s))
  unfolding flown_of begin_of
  from-three =
      let x = started _ (named_of serials fixes) (proper-check _ misfit _ refl (load-proper 3 f)) flies in
      (x.0, check-means _ misfit _ x.0 x.1)

  -- past the lists' lengths the load decides
  by-load : flown_with f serials fixes answers commands r ≡ flown_by empty_state (load_of r f) (named_of serials fixes)
  unfolding flown_of begin_of
  by-load = ap (λ (o : Outcome State). flown_by empty_state o (named_of serials fixes)) (check-true _ misfit _ from-three.1.0)

  same_load : holds_newer r (records_of f) ≡ false → load_of r f ≡ load_of 3 f
  same_load h = demand.otherwise f from-three.0 from-three.1.1 r older h ∙ sym from-three.1.1

  newer-refused : holds_newer r (records_of f) ≡ true → (flown_with f serials fixes answers commands r).refusal ≡ 7
  unfolding flown_by
  newer-refused h =
      let x = (demand.refuses f from-three.0 from-three.1.1 r older).1 h in
      ap (λ (y : Flown). y.refusal) by-load ∙ ap (λ (o : Outcome State). (flown_by empty_state o (named_of serials fixes)).refusal) x.1

  flown-alike : holds_newer r (records_of f) ≡ false → flown_with f serials fixes answers commands r ≡ flown_with f serials fixes answers commands 3
  flown-alike h = ap (λ (o : Outcome State). flown_of empty_state o serials fixes answers commands) (same_load h)

  refused-newer : (flown_with f serials fixes answers commands r).refusal ≡ 7 → holds_newer r (records_of f) ≡ true
  refused-newer e =
      by_bool (holds_newer r (records_of f)) (λ t. t)
      (λ t. let z : 7 ≡ 0 = sym e ∙ ap (λ (y : Flown). y.refusal) (flown-alike t) ∙ flies in absurd (omega arith))

  pub two-flights : TwoFlights f serials fixes answers commands r
  two-flights =
      record {
        refuses = (refused-newer, newer-refused);
        flown = flown-alike;
        answered = λ h. ap (λ (o : Outcome State). answers_after o serials fixes answers commands) (same_load h);
        commanded = λ h. ap (λ (o : Outcome State). commands_after o serials fixes answers commands) (same_load h);
      }
