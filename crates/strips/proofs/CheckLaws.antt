-- The check by its tests: what it answers where 14, the mode or the number of points refuses it, and what by the strips; and
-- that an answer of functions says all its numbers. Assumes nothing.
use mathlib.Core.Path.{◌≡◌, refl, ap, ◌∙◌}
use mathlib.Core.Bool.{Bool, true, false}
use Prim.Native.Nat.{ℕ}
use native.Mathlib.Omega.{arith}
use borrow.Author.Tests.{ne_eqb}
use Rattle.std.proofs.Common.{Result, Ok, Err}
use Rattle.std.specs.Result.{is_ok}
use Rattle.conditions.specs.Choose.{choose}
use Rattle.conditions.proofs.Bools.{clash}
use Rattle.conditions.proofs.ChooseLaws.{choose-true, choose-false}
use Rattle.refusals.specs.declared.Refusal.{Refusal}
use Rattle.refusals.specs.Numbers.{no_state, not_strips}
use Rattle.refusals.specs.Outcome.{Outcome, good, refused}
use Rattle.refusals.specs.Sweep.{Done, passed_of}
use Rattle.plan.specs.Places.{plan_point, plan_course}
use Rattle.manager.specs.declared.State.{State}
use Rattle.manager.specs.State.{valid_of}
use Rattle.strips.specs.declared.Fault.{Fault}
use Rattle.strips.specs.Strips.{strips_in}
use Rattle.strips.specs.Check.{Checked, fault_of, refused_check, paired_of, fault_check, plan_check, check_of, checked_as, numbered}

module _ (s : State) where
  pub check-unsound : valid_of s ≡ false → check_of s ≡ refused_check no_state 0 0
  unfolding check_of
  check-unsound v = choose-false _ _ _ v

  pub check-unpaired : valid_of s ≡ true → paired_of s.plan.head.mode s.plan.head.count ≡ false → check_of s ≡ refused_check not_strips 0 0
  unfolding check_of plan_check
  check-unpaired v p = choose-true _ _ _ v ∙ choose-false _ _ _ p

  pub check-paired : valid_of s ≡ true → paired_of s.plan.head.mode s.plan.head.count ≡ true
      → check_of s ≡ fault_check s.plan.head.count (fault_of (plan_point s.plan) (plan_course s.plan) s.plan.head.count)
  unfolding check_of plan_check
  check-paired v p = choose-true _ _ _ v ∙ choose-true _ _ _ p

-- ---- by what the strips have found, as the sweep of them answers it
abbrev pub refused_with : Fault → Result ℕ Fault
refused_with f = Err f

abbrev first_of : Result Unit Refusal → Refusal
first_of (Ok u) = record { number = 0; place = 0 }
first_of (Err r) = r

abbrev pub broken_by : Refusal → Fault
broken_by r = record { refusal = not_strips; place = r.place; rule = r.number }

pub fault-none : (n : ℕ) (o : Outcome Done) → is_ok (passed_of o) ≡ true → Ok (strips_in n) ≡ checked_as (fault_check n o)
unfolding passed_of fault_check checked_as choose
fault-none n (good d) h = refl
fault-none n (refused rule strip) h = clash false h refl

pub fault-found : (n : ℕ) (o : Outcome Done) {r : Refusal} → Err r ≡ passed_of o → refused_with (broken_by r) ≡ checked_as (fault_check n o)
unfolding passed_of fault_check checked_as choose
fault-found n (good d) e = clash false (ap is_ok e) refl
fault-found n (refused rule strip) e = ap (λ (r : Refusal). refused_with (broken_by r)) (ap first_of e)

-- ---- an answer says all numbers of the check
abbrev Kept : Checked → Type 0
Kept c = numbered (checked_as c) ≡ c

kept-either : (b : Bool) (c d : Checked) → Kept c → Kept d → Kept (choose b c d)
unfolding choose
kept-either true c d h k = h
kept-either false c d h k = k

kept-found : (n : ℕ) (o : Outcome Done) → Kept (fault_check n o)
unfolding fault_check checked_as choose
kept-found n (good d) = refl
kept-found n (refused rule strip) = refl

kept-refused : (number place rule : ℕ) → (number ≡ 0 → ⊥) → Kept (refused_check number place rule)
unfolding checked_as choose
kept-refused number place rule h = rw (ne_eqb number 0 h)

kept : (s : State) → Kept (check_of s)
unfolding check_of plan_check
kept s =
    let n : not_strips ≡ 0 → ⊥ = λ e. omega (arith, e) in
    let m : no_state ≡ 0 → ⊥ = λ e. omega (arith, e) in
    kept-either _ _ _ (kept-either _ _ _ (kept-found _ _) (kept-refused not_strips 0 0 n)) (kept-refused no_state 0 0 m)

pub told : (s : State) {r : Result ℕ Fault} → r ≡ checked_as (check_of s) → numbered r ≡ check_of s
told s e = ap numbered e ∙ kept s
