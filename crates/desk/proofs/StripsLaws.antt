-- The strips of words: by the state that they hold, or none. Assumes nothing.
use mathlib.Core.Path.{◌≡◌, sym, ap, ◌∙◌}
use mathlib.Core.Bool.{true, false}
use mathlib.Core.List.{List}
use Prim.Native.Nat.{ℕ}
use lib.IntN.{ℤ}
use Rattle.std.proofs.Common.{Result}
use Rattle.conditions.specs.Choose.{choose}
use Rattle.conditions.proofs.Bools.{by_bool}
use Rattle.refusals.specs.Numbers.{no_state}
use Rattle.strips.specs.declared.Fault.{Fault}
use Rattle.strips.specs.Check.{refused_check, check_of, checked_as, numbered, no_strip, strip_row}
use Rattle.strips.proofs.CheckLaws.{told}
use Rattle.c_state.specs.Stored.{state_at, holds_state, taken_of}
use Rattle.c_state.proofs.TakenLaws.{held, not-held}
use Rattle.desk.specs.Calls.{check_in, strip_row_in}

module _ (ws : List ℤ) where
  pub check-held : holds_state ws ≡ true → check_in (taken_of ws) ≡ check_of (state_at ws)
  unfolding check_in
  check-held h = rw (held ws h)

  pub check-unheld : holds_state ws ≡ false → check_in (taken_of ws) ≡ refused_check no_state 0 0
  unfolding check_in
  check-unheld h = rw (not-held ws h)

  pub row-held : (number : ℕ) → holds_state ws ≡ true → strip_row_in (taken_of ws) number ≡ strip_row (state_at ws) number
  unfolding strip_row_in
  row-held number h = rw (held ws h)

  pub row-unheld : (number : ℕ) → holds_state ws ≡ false → strip_row_in (taken_of ws) number ≡ no_strip
  unfolding strip_row_in
  row-unheld number h = rw (not-held ws h)

  -- an answer says all numbers of the check
  pub told_in : {r : Result ℕ Fault} → r ≡ checked_as (check_in (taken_of ws)) → numbered r ≡ check_in (taken_of ws)
  unfolding checked_as choose
  told_in e =
      by_bool (holds_state ws)
      (λ h. let k = check-held h in told (state_at ws) (e ∙ ap checked_as k) ∙ sym k)
      (λ h. let k = check-unheld h in ap numbered (e ∙ ap checked_as k) ∙ sym k)
