-- `farnkuppel_distance` answers the distance of the state that the words hold, or 14; nothing where a slice is too short. Assumes nothing.
use mathlib.Core.Path.{sym, ap, ◌∙◌}
use mathlib.Core.List.{[], ◌∷◌}
use Prim.Native.Nat.{ℕ, ◌≤◌}
use lib.ListN.{length}
use Rattle.buffers.specs.Splice.{over}
use Rattle.c_state.specs.Stored.{state_length, taken_of}
use Rattle.refusals.specs.Outcome.{Outcome, refusal_of}
use Rattle.autopilot.specs.Distances.{distance_in, distance_words}
use Rattle.c_state.proofs.TakenLaws.{pair-means}
use Rattle.autopilot.proofs.DistanceLaws.{distance-unfit, distance-fit, left-is, none-left}
use Rattle.autopilot.proofs.farnkuppel_distance.Goals as goal
use Rattle.autopilot.proofs.farnkuppel_distance.Goals.{Else-not-fits}

-- the slices have their lengths
long : (e : Else-not-fits) → (state_length ≤ length e.args.state.now) × (3 ≤ length e.args.answer.now)
long e = pair-means _ _ _ (sym e.fits.ensures ∙ e.if-not-fits.false)

pub returns-then-not-fits : goal.returns-then-not-fits
returns-then-not-fits c =
    let l = distance-unfit _ (distance_in (taken_of c.args.state.now)) c.args.answer.now (sym c.fits.ensures ∙ c.if-not-fits.true) in
    record { value = l.0; answer_after = l.1 }

pub distance_at-requires : goal.distance_at-requires
distance_at-requires c = (long c).0

pub put-requires : goal.put-requires
put-requires c = (long (goal.at.put-requires c).Else-not-fits).1

pub returns-in-Ok : goal.returns-in-Ok
unfolding refusal_of
returns-in-Ok c =
    let o = left-is _ _ (sym c.distance_at.ensures ∙ c.in-Ok.is) in
    let l = distance-fit _ (distance_in (taken_of c.args.state.now)) c.args.answer.now (sym c.fits.ensures ∙ c.if-not-fits.false) _
    (c.put.ensures.part_after ∙ ap (λ (x : Outcome ℕ). over (distance_words x) c.args.answer.now) (sym o)) in
    record { value = ap (λ (x : Outcome ℕ). (refusal_of x).number) (sym o) ∙ l.0; answer_after = l.1 }

pub put-requires-in-Err : goal.put-requires-in-Err
put-requires-in-Err c = (long (goal.at.put-requires-in-Err c).Else-not-fits).1

pub returns-in-Err : goal.returns-in-Err
unfolding refusal_of
returns-in-Err c =
    let o = none-left _ _ (sym c.distance_at.ensures ∙ c.in-Err.is) in
    let l = distance-fit _ (distance_in (taken_of c.args.state.now)) c.args.answer.now (sym c.fits.ensures ∙ c.if-not-fits.false) _
    (c.put-in-Err.ensures.part_after ∙ (λ t. over (c.from-number.ensures t ∷ c.word.ensures t ∷ 0 ∷ []) c.args.answer.now) ∙ ap (λ (x : Outcome ℕ). over (distance_words x) c.args.answer.now) (sym o)) in
    record { value = c.from-number.ensures ∙ ap (λ (x : Outcome ℕ). (refusal_of x).number) (sym o) ∙ l.0; answer_after = l.1 }
