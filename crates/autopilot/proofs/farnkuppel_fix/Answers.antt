-- `farnkuppel_fix` decides over the words as they lie, and puts index, phase and finished. Assumes nothing.
use mathlib.Core.Path.{◌≡◌, sym, ◌∙◌}
use mathlib.Core.Bool.{true}
use Prim.Native.Nat.{◌≤◌}
use lib.ListN.{length}
use borrow.Author.Rules.{rules}
use Rattle.c_state.specs.Stored.{state_length, pair_fits}
use Rattle.c_state.proofs.TakenLaws.{pair-means}
use Rattle.autopilot.proofs.HeldLaws.{calls-run}
use Rattle.autopilot.proofs.Anchors.{in-numbers, lengths}
use Rattle.autopilot.proofs.FixLaws.{pair-short, command-short, fix-fits, fix-unfit, fix-refused, fix-taken}
use Rattle.autopilot.proofs.farnkuppel_fix.Goals as goal
use Rattle.autopilot.proofs.farnkuppel_fix.Goals.{Else-not-fits}

-- what the tests have shown
fitting : (c : Else-not-fits)
    → let s = c.args in pair_fits (length s.state.now) (length s.answer.now) 8 ≡ true
fitting c = sym c.fits.ensures ∙ c.if-not-fits.false

long : (c : Else-not-fits) → let s = c.args in (state_length ≤ length s.state.now) × (8 ≤ length s.answer.now)
long c = pair-means _ _ _ (fitting c)

pub returns-then-not-fits : goal.returns-then-not-fits
returns-then-not-fits c =
    let l = fix-unfit _ _ _ _ _ _ (pair-short _ _ _ (sym c.fits.ensures ∙ c.if-not-fits.true)) in
    record { value = l.result; state_after = l.words; answer_after = l.answered; command_after = l.commanded; fix_holds = l.holds; calls_run = (calls-run, (in-numbers, lengths)) }

pub returns-then-command-lt-COMMAND : goal.returns-then-command-lt-COMMAND
returns-then-command-lt-COMMAND c =
    let l = fix-unfit _ _ _ _ _ _ (command-short _ _ _ c.if-command-lt-COMMAND.true) in
    record { value = l.result; state_after = l.words; answer_after = l.answered; command_after = l.commanded; fix_holds = l.holds; calls_run = (calls-run, (in-numbers, lengths)) }

pub holds_state-requires : goal.holds_state-requires
holds_state-requires c = (long (goal.at.holds_state-requires c).Else-not-fits).0

pub refuse-requires : goal.refuse-requires
refuse-requires c =
    ((long (goal.at.refuse-requires c).Else-not-fits).0, ((long (goal.at.refuse-requires c).Else-not-fits).1, c.if-command-lt-COMMAND.false))

pub returns-then-not-holds_state : goal.returns-then-not-holds_state
returns-then-not-holds_state c =
    let f = fix-fits _ _ _ (fitting (goal.at.returns-then-not-holds_state c).Else-not-fits) c.if-command-lt-COMMAND.false in
    let n = sym c.holds_state.ensures.value ∙ c.if-not-holds_state.true in
    let l = fix-refused _ _ _ _ _ _ f _ _ n c.refuse.ensures.answer_after c.refuse.ensures.command_after in
    record { value = l.result; state_after = l.words; answer_after = l.answered; command_after = l.commanded; fix_holds = l.holds; calls_run = (calls-run, (in-numbers, lengths)) }

pub decide_at-decided-requires : goal.decide_at-decided-requires
decide_at-decided-requires c =
    ((long (goal.at.decide_at-decided-requires c).Else-not-fits).0, sym c.holds_state.ensures.value ∙ c.if-not-holds_state.false)

pub put_answer-requires : goal.put_answer-requires
put_answer-requires c = (long (goal.at.put_answer-requires c).Else-not-fits).1

pub put_progress-requires : goal.put_progress-requires
put_progress-requires c = let e = (long (goal.at.put_progress-requires c).Else-not-fits).0 in search rules

pub returns : goal.returns
returns c =
    let f = fix-fits _ _ _ (fitting (goal.at.returns c).Else-not-fits) c.if-command-lt-COMMAND.false in
    let n = sym c.holds_state.ensures.value ∙ c.if-not-holds_state.false in
    let l = fix-taken _ _ _ _ _ _ f _ _ _ _ c.decide_at-decided.ensures.are_words.0 c.decide_at-decided.ensures.are_words.1 (long (goal.at.returns c).Else-not-fits).0 n c.decide_at-decided.ensures.result_value c.put_progress.ensures
    c.put_answer.ensures.part_after c.put_command.ensures.part_after in
    record { value = l.result; state_after = l.words; answer_after = l.answered; command_after = l.commanded; fix_holds = l.holds; calls_run = (calls-run, (in-numbers, lengths)) }
