-- A flight of any mode can be finished, and stays so: `Finishes` holds of every state and fix. Assumes nothing.
use mathlib.Core.Path.{◌≡◌, refl, sym, ap, ◌∙◌}
use mathlib.Core.Bool.{Bool, true, false}
use Prim.Native.Nat.{ℕ, ◌-◌, ◌<◌}
use native.Mathlib.Omega.{arith}
use lib.Dec.{eqb}
use borrow.Author.Tests.{eqb-true, le-ltb}
use Rattle.std.specs.Prelude.{Some}
use Rattle.conditions.specs.Choose.{choose}
use Rattle.conditions.proofs.ChooseLaws.{choose-true}
use Rattle.conditions.proofs.Bools.{by_bool, both_first, both-second}
use Rattle.plane.specs.declared.Point.{Point}
use Rattle.units.specs.declared.Fix.{Fix}
use Rattle.units.specs.Position.{position_of}
use Rattle.std.proofs.Common.{Option}
use Rattle.dubins.specs.declared.Path.{Path}
use Rattle.dubins.specs.Choice.{shortest_of}
use Rattle.guidance.specs.declared.View.{View}
use Rattle.guidance.specs.declared.View.TheVariants.{Level, InSpace}
use Rattle.guidance.specs.Guide.{leg_guide, last_leg_guide, circle_guide, dubins_guide}
use Rattle.guidance.proofs.EndLaws.{ended-there, phase-5-there}
use Rattle.plan.specs.declared.Mode.{Mode}
use Rattle.plan.specs.declared.Mode.TheVariants.{Lines, Fillets, Dubins}
use Rattle.plan.specs.declared.Plan.{Plan}
use Rattle.plan.specs.Places.{plan_point}
use Rattle.manager.specs.declared.Progress.{Progress}
use Rattle.manager.specs.declared.State.{State}
use Rattle.manager.specs.declared.Stepped.{Stepped}
use Rattle.manager.specs.State.{on_last_leg, last_phase, at_end, end_fits, valid_of, Valid}
use Rattle.manager.specs.Step.{ends_of, path_guide, guide_here, next_of, refuse_of, moved_of, step_of}
use Rattle.manager.specs.Finish.{last_point, Finishes}
use Rattle.manager.proofs.StateLaws.{end_fits_lem, valid-placed, valid-means, last-is, on-last, dubins-phase, valid-path}
use Rattle.manager.proofs.GuideLaws.{lines-last, fillets-last, dubins-everywhere}
use Rattle.manager.proofs.StepLaws.{Goes, stays, moves, step-14, step-15, step-moved, step-goes}

-- ---- at the end
module _ (mode : Mode) (n : ℕ) (p : Progress) (e : at_end mode n p ≡ true) where
  end-leg : on_last_leg n p.index ≡ true
  unfolding at_end
  end-leg = both_first _ _ e

  end-phase : p.phase ≡ last_phase mode n p.index
  unfolding at_end
  end-phase = eqb-true _ _ (both-second _ _ e)

  -- a fix that ends the phase there sets finished and moves nothing
  next-there : next_of mode n p true ≡ record { index = p.index; phase = p.phase; finished = true }
  unfolding next_of choose
  next-there = rw (le-ltb p.phase (last_phase mode n p.index) (omega (arith, end-phase)), end-leg)

  next-stays : p.finished ≡ true → (passed : Bool) → next_of mode n p passed ≡ p
  unfolding next_of choose
  next-stays f true = next-there ∙ (λ i. record { index = p.index; phase = p.phase; finished = sym f i })
  next-stays f false = refl

-- the last leg ends at the last point
end-point : (plan : Plan) (i : ℕ) → on_last_leg plan.head.count i ≡ true → last_point plan ≡ plan_point plan (i - 1)
end-point plan i leg = ap (λ (k : ℕ). plan_point plan (k - 1)) (last-is plan.head.count ∙ sym (on-last plan.head.count i leg))

-- ---- a position at the end of the leg that is flown ends its last phase, in each mode
leg-passed : (view : View) (a b : Point) → (last_leg_guide view a b b).passed ≡ true
unfolding last_leg_guide leg_guide
leg-passed view a b = ended-there view a b

path-passed : (s : State) (v : Valid s) → s.plan.head.mode ≡ Dubins
    → (path_guide (ends_of s.plan s.progress.index) 5 (plan_point s.plan (s.progress.index - 1)) (shortest_of (ends_of s.plan s.progress.index))).passed ≡ true
unfolding path_guide dubins_guide circle_guide choose
path-passed s v e =
    let ends = ends_of s.plan s.progress.index in
    let found = valid-path s v e in
    ap (λ (f : Option Path). (path_guide ends 5 ends.end f).passed) found.1 ∙ phase-5-there ends.end ends.arrive

by_mode : {A : Type 0} (m : Mode) → (m ≡ Lines → A) → (m ≡ Fillets → A) → (m ≡ Dubins → A) → A
by_mode Lines l f d = l refl
by_mode Fillets l f d = f refl
by_mode Dubins l f d = d refl

abbrev ending : State → Bool
ending s = at_end s.plan.head.mode s.plan.head.count s.progress

module _ (s : State) (h : valid_of s ≡ true) (e : ending s ≡ true) where
  abbrev i : ℕ
  i = s.progress.index

  abbrev start : Point
  start = plan_point s.plan (i - 2)

  abbrev end : Point
  end = plan_point s.plan (i - 1)

  leg : on_last_leg s.plan.head.count i ≡ true
  leg = end-leg _ _ _ e

  passed-there : (guide_here s end).passed ≡ true
  passed-there =
      let last = leg in
      by_mode s.plan.head.mode (λ m. rw lines-last (leg-passed InSpace start end)) (λ m. rw fillets-last (leg-passed Level start end))
      (λ m.
      let five : s.progress.phase ≡ 5 = end-phase _ _ _ e ∙ rw (m, dubins-phase) in
      rw (dubins-everywhere, five) (path-passed s (valid-means s h) m))

  finished-there : (moved_of s (last_point s.plan)).state.progress.finished ≡ true
  unfolding moved_of
  finished-there = rw (end-point s.plan i leg, passed-there, next-there)

-- ---- an accepted fix moves a valid state
refused-not : (s : State) (number : ℕ) → 0 < number → (refuse_of s number).answer.refusal ≡ 0 → ⊥
unfolding refuse_of
refused-not s number n z = omega arith

module _ (s : State) (serial : ℕ) (fix : Fix) where
  abbrev step : Stepped
  step = step_of s serial fix

  accepted : (p : Point) → position_of fix ≡ Some p → step.answer.refusal ≡ 0 → (valid_of s ≡ true) × (step ≡ moved_of s p)
  accepted p at z =
      by_bool (valid_of s)
      (λ v.
      by_bool (eqb serial s.plan.head.serial) (λ n. (v, step-moved s serial fix v n p at))
      (λ n. absurd (refused-not s 15 (omega arith) (rw step-15 at z))))
      (λ v. absurd (refused-not s 14 (omega arith) (rw step-14 at z)))

  sets : ending s ≡ true → position_of fix ≡ Some (last_point s.plan) → step.answer.refusal ≡ 0 → step.state.progress.finished ≡ true
  sets e at z =
      let a = accepted (last_point s.plan) at z in
      rw a.1 (finished-there s a.0 e)

-- ---- finished stays
finished-end : (s : State) → valid_of s ≡ true → s.progress.finished ≡ true → ending s ≡ true
unfolding end_fits
finished-end s h f = rw choose-true at (end_fits_lem _ _ _ (valid-placed s h))

goes-stays : {s t : State} → Goes s t → valid_of s ≡ true → s.progress.finished ≡ true → t ≡ s
goes-stays stays h f = refl
goes-stays {s} (moves passed) h f = λ i. record { plan = s.plan; progress = next-stays _ _ _ (finished-end s h f) f passed i }

step_stays : (s : State) (serial : ℕ) (fix : Fix) → s.progress.finished ≡ true → (step_of s serial fix).state ≡ s
unfolding refuse_of
step_stays s serial fix f =
    by_bool (valid_of s) (λ h. goes-stays (step-goes s serial fix) h f) (λ h. rw step-14)

pub finishes : (s : State) (serial : ℕ) (fix : Fix) → Finishes s fix (step_of s serial fix)
finishes s serial fix = record { sets = sets s serial fix; stays = step_stays s serial fix }
