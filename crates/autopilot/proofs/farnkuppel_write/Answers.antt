-- `farnkuppel_write` writes the plan that the words hold, or nothing where they hold none or a slice is too short. Assumes nothing.
use mathlib.Core.Path.{refl, sym, ap, ◌∙◌}
use mathlib.Core.List.{List, [], ◌∷◌}
use Prim.Native.Nat.{ℕ, ◌≤◌}
use lib.ListN.{length}
use Rattle.refusals.specs.Outcome.{Outcome}
use Rattle.buffers.specs.Splice.{over}
use Rattle.c_answer.specs.Words.{word_of}
use Rattle.c_state.specs.Stored.{state_length}
use Rattle.c_state.proofs.TakenLaws.{pair-means, held, not-held}
use Rattle.wpl.specs.Write.{written_of, buffer_of}
use Rattle.autopilot.proofs.CallLaws.{write-unfit, write-fit, write-none, from-none, from-state}
use Rattle.autopilot.proofs.farnkuppel_write.Goals as goal
use Rattle.autopilot.proofs.farnkuppel_write.Goals.{Else-not-fits}

-- the slices have their lengths
long : (e : Else-not-fits) → (state_length ≤ length e.args.state.now) × (3 ≤ length e.args.answer.now)
long e = pair-means _ _ _ (sym e.fits.ensures ∙ e.if-not-fits.false)

pub returns-then-not-fits : goal.returns-then-not-fits
returns-then-not-fits c =
    let l = write-unfit _ _ _ _ (sym c.fits.ensures ∙ c.if-not-fits.true) in
    record { value = l.result; file_after = l.written; answer_after = l.answered; untouched = l.kept }

pub holds_state-requires : goal.holds_state-requires
holds_state-requires c = (long c).0

pub put-requires : goal.put-requires
put-requires c = (long (goal.at.put-requires c).Else-not-fits).1

pub returns-then-not-holds_state : goal.returns-then-not-holds_state
returns-then-not-holds_state c =
    let k = not-held _ (sym c.holds_state.ensures.value ∙ c.if-not-holds_state.true) in
    let l = write-none _ _ _ _ (sym c.fits.ensures ∙ c.if-not-fits.false) _ _ (from-none _ _ _ k) refl c.put.ensures.part_after in
    record { value = l.result; file_after = l.written; answer_after = l.answered; untouched = l.kept }

pub write_at-written-requires : goal.write_at-written-requires
write_at-written-requires c =
    ((long (goal.at.write_at-written-requires c).Else-not-fits).0, sym c.holds_state.ensures.value ∙ c.if-not-holds_state.false)

pub put-requires-2 : goal.put-requires-2
put-requires-2 c = (long (goal.at.put-requires-2 c).Else-not-fits).1

pub returns : goal.returns
returns c =
    let o = from-state _ _ _ _ (held _ (sym c.holds_state.ensures.value ∙ c.if-not-holds_state.false)) in
    let x = c.write_at-written.result in
    let l = write-fit _ _ _ _ (sym c.fits.ensures ∙ c.if-not-fits.false) x _ _ (c.write_at-written.ensures.value ∙ ap written_of o)
    (c.write_at-written.ensures.file_after ∙ ap (λ (q : Outcome (List ℕ)). buffer_of q c.args.file.now) o)
    (c.put-2.ensures.part_after
    ∙ ap (λ (n : ℕ). over (x.refusal ∷ n ∷ c.word-2.result ∷ []) c.args.answer.now) c.word.ensures
    ∙ ap (λ (n : ℕ). over (x.refusal ∷ word_of x.place ∷ n ∷ []) c.args.answer.now) c.word-2.ensures) in
    record { value = l.result; file_after = l.written; answer_after = l.answered; untouched = l.kept }
