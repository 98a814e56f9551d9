-- `farnkuppel_distances` writes the table of the state that the words hold, or nothing where they hold none, or a slice is too short. Assumes
-- nothing.
use mathlib.Core.Path.{sym, ap, ◌∙◌}
use mathlib.Core.List.{[], ◌∷◌}
use Prim.Native.Nat.{ℕ, ◌≤◌}
use lib.ListN.{length}
use Rattle.buffers.specs.Splice.{over}
use Rattle.c_answer.specs.Words.{word_of}
use Rattle.c_state.specs.Stored.{state_length}
use Rattle.c_state.proofs.TakenLaws.{pair-means}
use Rattle.autopilot.proofs.Anchors.{distance-example}
use Rattle.autopilot.proofs.DistanceLaws.{table-unfit, table-fit, shown-none, shown-refusal, tables-stay}
use Rattle.autopilot.proofs.farnkuppel_distances.Goals as goal
use Rattle.autopilot.proofs.farnkuppel_distances.Goals.{Else-not-fits}

-- the slices have their lengths
long : (e : Else-not-fits) → (state_length ≤ length e.args.state.now) × (2 ≤ length e.args.answer.now)
long e = pair-means _ _ _ (sym e.fits.ensures ∙ e.if-not-fits.false)

pub returns-then-not-fits : goal.returns-then-not-fits
returns-then-not-fits c =
    let l = table-unfit _ _ _ _ (sym c.fits.ensures ∙ c.if-not-fits.true) in
    record { value = l.result; table_after = l.written; answer_after = l.answered; untouched = l.kept; tables_stay = (tables-stay, distance-example) }

pub distances_at-requires : goal.distances_at-requires
distances_at-requires c = (long (goal.at.distances_at-requires c).Else-not-fits).0

pub put-requires : goal.put-requires
put-requires c = (long (goal.at.put-requires c).Else-not-fits).1

pub returns-in-Ok : goal.returns-in-Ok
unfolding word_of
returns-in-Ok c =
    let r = sym (shown-none _ _ (sym c.distances_at.ensures.value ∙ c.in-Ok.is)) in
    let l = table-fit _ _ _ _ (sym c.fits.ensures ∙ c.if-not-fits.false) (record { number = 0; place = 0 }) _ _ r c.distances_at.ensures.table_after c.put.ensures.part_after in
    record { value = l.result; table_after = l.written; answer_after = l.answered; untouched = l.kept; tables_stay = (tables-stay, distance-example) }

pub put-requires-in-Err : goal.put-requires-in-Err
put-requires-in-Err c = (long (goal.at.put-requires-in-Err c).Else-not-fits).1

pub returns-in-Err : goal.returns-in-Err
returns-in-Err c =
    let r = sym (shown-refusal _ _ (sym c.distances_at.ensures.value ∙ c.in-Err.is)) in
    let found = c.in-Err.found in
    let l = table-fit _ _ _ _ (sym c.fits.ensures ∙ c.if-not-fits.false) found _ _ r c.distances_at.ensures.table_after
    (c.put-in-Err.ensures.part_after ∙ (λ t. over (c.from-number.ensures t ∷ c.word.ensures t ∷ []) c.args.answer.now)) in
    rw c.from-number.ensures (record { value = l.result; table_after = l.written; answer_after = l.answered; untouched = l.kept; tables_stay = (tables-stay, distance-example) })
