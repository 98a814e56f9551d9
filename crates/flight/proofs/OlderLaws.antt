-- A reader of version one or two over a file that version three loads: it refuses 7 exactly where the file holds a radius or course that it
-- lacks, and loads any other to the same state. Assumes nothing.
use mathlib.Core.Path.{◌≡◌, sym, ◌∙◌}
use mathlib.Core.Logic.{inl, inr}
use mathlib.Core.Bool.{true, false}
use mathlib.Core.List.{List}
use Prim.Native.Nat.{ℕ, ◌≤◌}
use native.Mathlib.Omega.{arith}
use Rattle.conditions.specs.Between.{between}
use Rattle.conditions.proofs.Bools.{by_bool}
use Rattle.conditions.proofs.BetweenLaws.{between-test}
use Rattle.refusals.specs.Outcome.{good, and_then}
use Rattle.refusals.proofs.OutcomeLaws.{never-good}
use Rattle.manager.specs.declared.State.{State}
use Rattle.records.specs.Versions.{newest}
use Rattle.records.specs.Kinds.{no_parts, holds_newer}
use Rattle.records.specs.Gather.{header_length}
use Rattle.records.proofs.VersionLaws.{older-refuses, older-takes}
use Rattle.wpl.specs.Header.{version_of}
use Rattle.wpl.specs.Load.{records_of, parts_of, body_of}
use Rattle.flight.specs.Demand.{IsOlder, Loads, RefusesAsTooNew}
use Rattle.wpl.proofs.LoadStepLaws.{Steps, load-body, load-steps, steps-load}

-- ---- versions one and two are versions
module _ (r : ℕ) where
  older-least : IsOlder r → 1 ≤ r
  older-least (inl e) = omega arith
  older-least (inr e) = omega arith

  older-most : IsOlder r → r ≤ newest
  older-most (inl e) = omega arith
  older-most (inr e) = omega arith

  older-served : IsOlder r → between 1 newest r ≡ true
  older-served o = between-test 1 newest r (older-least o) (older-most o)

module _ (f : List ℕ) (s : State) (loads : Loads 3 f s) (r : ℕ) (older : IsOlder r) where
  newest-steps : Steps newest f s
  newest-steps = load-steps newest f s loads

  -- ---- with a radius or course that it lacks
  pub too-new : holds_newer r (records_of f) ≡ true → RefusesAsTooNew r f
  unfolding body_of parts_of and_then
  too-new h =
      let x = newest-steps in
      let g = older-refuses r (version_of f) (older-least r older) (older-most r older) (records_of f) header_length no_parts x.taken x.gathered h in
      (g.0, load-body r f (older-served r older) x.header ∙ rw g.1)

  -- ---- without
  pub otherwise-loads : holds_newer r (records_of f) ≡ false → Loads r f s
  unfolding parts_of
  otherwise-loads h =
      let x = newest-steps in
      steps-load r f s
      (record {
        served = older-served r older;
        header = x.header;
        taken = x.taken;
        gathered = older-takes r (version_of f) (older-least r older) (older-most r older) (records_of f) header_length no_parts x.taken x.gathered h;
        settled = x.settled;
        settles = x.settles;
        finishes = x.finishes;
      })

  -- ---- so that the refusal says what the file holds, and a load gives version three's state
  pub only-newer : RefusesAsTooNew r f → holds_newer r (records_of f) ≡ true
  only-newer x = by_bool (holds_newer r (records_of f)) (λ t. t) (λ t. never-good (sym x.1 ∙ otherwise-loads t))

  pub same-state : (t : State) → Loads r f t → t ≡ s
  same-state t h =
      by_bool (holds_newer r (records_of f)) (λ n. never-good (sym (too-new n).1 ∙ h))
      (λ n. let e : good t ≡ good s = sym h ∙ otherwise-loads n in cc)
