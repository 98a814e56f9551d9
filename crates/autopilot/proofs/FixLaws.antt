-- A fix by its tests: lent slices that are too short, words that hold no state, and the rest. The words hold the next state; on a refusal they are
-- what they were.
-- Assumes nothing.
use mathlib.Core.Path.{◌≡◌, refl, sym, ap, subst, ◌∙◌}
use mathlib.Core.Bool.{Bool, true, false}
use mathlib.Core.List.{List}
use Prim.Native.Nat.{ℕ, ◌≤◌, ◌<◌}
use lib.IntN.{ℤ}
use lib.ListN.{length}
use lib.Ieee.{Float}
use borrow.Author.Tests.{le-leb, lt-leb}
use Rattle.conditions.proofs.ChooseLaws.{choose-true, choose-false}
use Rattle.conditions.proofs.Bools.{clash, both_true, both-off-second, both-off}
use Rattle.refusals.specs.Numbers.{misfit, no_state}
use Rattle.refusals.specs.Outcome.{good}
use Rattle.refusals.proofs.OutcomeLaws.{never-good}
use Rattle.buffers.specs.Splice.{over, splice}
use Rattle.units.specs.declared.Fix.{Fix}
use Rattle.guidance.specs.declared.Command.TheVariants.{Nothing}
use Rattle.plan.specs.declared.Plan.{Plan}
use Rattle.manager.specs.declared.State.{State}
use Rattle.manager.specs.declared.Progress.{Progress}
use Rattle.manager.specs.declared.Decided.{Decided}
use Rattle.manager.specs.declared.Stepped.{Stepped}
use Rattle.manager.specs.State.{with_progress}
use Rattle.manager.specs.Step.{stepped_by, step_of}
use Rattle.manager.proofs.StepLaws.{step-refused}
use Rattle.c_answer.specs.Words.{answer_words, command_numbers}
use Rattle.c_state.specs.Stored.{serial_place, index_place, norths_place, easts_place, downs_place, courses_place, state_length, progress_words, state_words, head_at, progress_at, part, plan_at, state_at, holds_state, taken_of, pair_fits, AreWords, Storable}
use Rattle.c_state.proofs.TakenLaws.{held, not-held}
use Rattle.c_state.proofs.StoredLaws.{put_back, progress-is, held-storable}
use Rattle.autopilot.specs.Calls.{fix_fits, refused_words, fix_words, fix_numbers, fix_number, fix_next, fix_result, fix_state, fix_answer, fix_command}
use Rattle.autopilot.specs.Held.{Hold, FixHolds}
use Rattle.autopilot.proofs.HeldLaws.{hold-over, step-storable}

-- ---- lengths
module _ (state : List ℤ) (answer : List ℕ) (command : List Float) where
  pub pair-short : pair_fits (length state) (length answer) 8 ≡ false → fix_fits state answer command ≡ false
  unfolding fix_fits
  pair-short h = both-off _ _ h

  pub command-short : length command < 6 → fix_fits state answer command ≡ false
  unfolding fix_fits
  command-short h = both-off-second _ _ (lt-leb 6 (length command) h)

  pub fix-fits : pair_fits (length state) (length answer) 8 ≡ true → 6 ≤ length command → fix_fits state answer command ≡ true
  unfolding fix_fits
  fix-fits h k = both_true _ _ h (le-leb 6 (length command) k)

-- ---- what words hold
module _ (ws : List ℤ) where
  -- what is decided of the parts that are lent
  pub decided-there : (serial : ℕ) (fix : Fix) {plan : Plan} {p : Progress} {d : Decided} → plan ≡ plan_at ws → p ≡ progress_at ws
      → stepped_by plan d ≡ step_of (with_progress plan p) serial fix → stepped_by (plan_at ws) d ≡ step_of (state_at ws) serial fix
  decided-there serial fix {d = d} e f k =
      ap (λ (plan : Plan). stepped_by plan d) (sym e) ∙ k ∙ (λ t. step_of (with_progress (e t) (f t)) serial fix)

-- ---- fix
module _ (b : Bool) (ws : List ℤ) (serial : ℕ) (fix : Fix) (answer : List ℕ) (command : List Float) where
  pub record Fixes (n : ℕ) (next : List ℤ) (an : List ℕ) (cn : List Float) : Type 0 where
    pub result : n ≡ fix_result b ws serial fix
    pub words : next ≡ fix_state b ws serial fix
    pub answered : an ≡ fix_answer b ws serial fix answer
    pub commanded : cn ≡ fix_command b ws serial fix command
    pub holds : FixHolds b serial fix ws next n

  pub fix-unfit : b ≡ false → Fixes misfit ws answer command
  unfolding fix_result fix_state fix_answer fix_command
  fix-unfit h =
      record {
        result = sym (choose-false _ _ _ h);
        words = sym (choose-false _ _ _ h);
        answered = sym (choose-false _ _ _ h);
        commanded = sym (choose-false _ _ _ h);
        holds = record { next = λ t. clash b t h; untouched = λ _. refl };
      }

  module _ (h : b ≡ true) where
    by-words : (n : ℕ) (next : List ℤ) (an : List ℕ) (cn : List Float) → n ≡ fix_number (taken_of ws) serial fix
        → next ≡ fix_next (taken_of ws) ws serial fix → an ≡ over (fix_words (taken_of ws) ws serial fix) answer
        → cn ≡ over (fix_numbers (taken_of ws) serial fix) command → FixHolds b serial fix ws next n → Fixes n next an cn
    unfolding fix_result fix_state fix_answer fix_command
    by-words n next an cn p q r s f =
        record {
          result = p ∙ sym (choose-true _ _ _ h);
          words = q ∙ sym (choose-true _ _ _ h);
          answered = r ∙ sym (choose-true _ _ _ h);
          commanded = s ∙ sym (choose-true _ _ _ h);
          holds = f;
        }

    pub fix-refused : (an : List ℕ) (cn : List Float) → holds_state ws ≡ false → an ≡ over (refused_words no_state 0 ws) answer
        → cn ≡ over (command_numbers Nothing) command → Fixes no_state ws an cn
    unfolding fix_number fix_next fix_words fix_numbers
    fix-refused an cn k a c =
        let e = not-held ws k in
        by-words no_state ws an cn (rw e) (rw e) (rw e a) (rw e c)
        (record { next = λ _ s g. never-good (sym e ∙ g); untouched = λ _. refl })

    taken_next : (s : State) → taken_of ws ≡ good (state_at ws) → taken_of ws ≡ good s → Storable (state_at ws)
        → {next : List ℤ} → next ≡ over (state_words (step_of (state_at ws) serial fix).state) ws → Hold next (step_of s serial fix).state
    taken_next s g f kept {next} n =
        let e : state_at ws ≡ s = let z : good (state_at ws) ≡ good s = sym g ∙ f in cc in
        subst (λ (x : State). Hold next (step_of x serial fix).state) e
        (subst (λ (l : List ℤ). Hold l (step_of (state_at ws) serial fix).state) (sym n)
        (hold-over (step_of (state_at ws) serial fix).state ws (step-storable (state_at ws) serial fix kept)))

    -- index, phase and finished alone are written, since a step keeps the plan
    pub fix-taken : (d : Decided) (next : List ℤ) (an : List ℕ) (cn : List Float) → AreWords serial_place index_place ws
        → AreWords index_place norths_place ws → state_length ≤ length ws → holds_state ws ≡ true → stepped_by (plan_at ws) d ≡ step_of (state_at ws) serial fix → next ≡ splice index_place (progress_words d.progress) ws
        → an ≡ over (answer_words d.answer) answer → cn ≡ over (command_numbers d.answer.command) command → Fixes d.answer.refusal next an cn
    unfolding fix_number fix_next fix_words fix_numbers
    fix-taken d next an cn first second long k e w a c =
        let g = held ws k in
        let n = w ∙ progress-is ws long k first d.progress ∙ ap (λ (x : Stepped). over (state_words x.state) ws) e in
        by-words _ next an cn (rw g (ap (λ (x : Stepped). x.answer.refusal) e))
        (rw g n)
        (rw g (a ∙ ap (λ (x : Stepped). over (answer_words x.answer) answer) e))
        (rw g (c ∙ ap (λ (x : Stepped). over (command_numbers x.answer.command) command) e))
        (record {
          next = λ _ s f. taken_next s g f (held-storable ws long k first second) n;
          untouched =
              λ z.
              let same = step-refused (state_at ws) serial fix (λ y. z (ap (λ (x : Stepped). x.answer.refusal) e ∙ y)) in
              n ∙ ap (λ (s : State). over (state_words s) ws) same ∙ put_back ws long k first second;
        })
