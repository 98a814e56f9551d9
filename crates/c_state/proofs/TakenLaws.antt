-- What is taken from lent words: whether they hold a state, the state in their blocks, and whether they and an answer are long enough. Assumes
-- nothing.
use mathlib.Core.Path.{◌≡◌}
use mathlib.Core.Bool.{true, false}
use mathlib.Core.List.{List}
use Prim.Native.Nat.{ℕ, ◌≤◌}
use lib.IntN.{ℤ}
use borrow.Author.Tests.{leb-true}
use Rattle.conditions.proofs.Bools.{both_first, both-second}
use Rattle.refusals.specs.Numbers.{no_state}
use Rattle.refusals.specs.Outcome.{good, refused}
use Rattle.refusals.proofs.OutcomeLaws.{check-true, check-false}
use Rattle.plan.specs.declared.Plan.{Plan}
use Rattle.manager.specs.declared.Progress.{Progress}
use Rattle.manager.specs.State.{with_progress}
use Rattle.c_state.specs.Stored.{state_length, progress_at, plan_at, state_at, holds_state, taken_of, pair_fits}

pub pair-means : (s a least : ℕ) → pair_fits s a least ≡ true → (state_length ≤ s) × (least ≤ a)
unfolding pair_fits
pair-means s a least h = (leb-true state_length s (both_first _ _ h), leb-true least a (both-second _ _ h))

module _ (ws : List ℤ) where
  pub held : holds_state ws ≡ true → taken_of ws ≡ good (state_at ws)
  unfolding taken_of
  held h = check-true _ no_state _ h

  pub not-held : holds_state ws ≡ false → taken_of ws ≡ refused no_state 0
  unfolding taken_of
  not-held h = check-false _ no_state _ h

  pub state-there : {plan : Plan} {p : Progress} → plan ≡ plan_at ws → p ≡ progress_at ws → with_progress plan p ≡ state_at ws
  state-there e f = λ t. with_progress (e t) (f t)
