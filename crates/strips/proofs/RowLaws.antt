-- Where the check counts strips, their places are there; and the row of a strip by its number. Assumes nothing.
use mathlib.Core.Path.{◌≡◌, ap}
use mathlib.Core.Bool.{true}
use Prim.Native.Nat.{ℕ, ◌≤◌, ◌<◌}
use native.Mathlib.Omega.{arith}
use lib.Dec.{ltb}
use borrow.Author.Tests.{ltb-true, ltb-false}
use Rattle.conditions.proofs.Bools.{by_bool}
use Rattle.conditions.proofs.ChooseLaws.{choose-true, choose-false}
use Rattle.conditions.proofs.BetweenLaws.{between-test, between-under, between-over}
use Rattle.refusals.specs.Outcome.{Outcome, good, refused}
use Rattle.refusals.specs.Sweep.{Done}
use Rattle.plan.specs.Places.{plan_point, plan_course}
use Rattle.plan.specs.Long.{Long}
use Rattle.manager.specs.declared.State.{State}
use Rattle.manager.specs.State.{valid_of}
use Rattle.manager.proofs.StateLaws.{valid-means}
use Rattle.strips.specs.Strips.{strips_in}
use Rattle.strips.specs.Check.{Checked, paired_of, fault_check, check_of, strip_of, no_strip, strip_row, PlanStripThere}
use Rattle.strips.proofs.CheckLaws.{check-unsound, check-unpaired, check-paired}
use Rattle.strips.proofs.ThereLaws.{strips-there}

-- what a check that counts strips has seen
pub record Counts (s : State) : Type 0 where
  pub sound : valid_of s ≡ true
  pub paired : paired_of s.plan.head.mode s.plan.head.count ≡ true
  pub most : (check_of s).strips ≤ strips_in s.plan.head.count

counted : (n : ℕ) (o : Outcome Done) → (fault_check n o).strips ≤ strips_in n
unfolding fault_check
counted n (good d) = omega arith
counted n (refused rule strip) = omega arith

module _ (s : State) where
  pub counts : 0 < (check_of s).strips → Counts s
  counts h =
      by_bool (valid_of s)
      (λ v.
      by_bool (paired_of s.plan.head.mode s.plan.head.count)
      (λ p. record { sound = v; paired = p; most = rw (check-paired s v p) (counted _ _) })
      (λ p. absurd (omega (arith, h, ap (λ (x : Checked). x.strips) (check-unpaired s v p)))))
      (λ v. absurd (omega (arith, h, ap (λ (x : Checked). x.strips) (check-unsound s v))))

  module _ {r : Checked} {j : ℕ} where
    pub row-there : Long s.plan.norths s.plan.easts s.plan.downs s.plan.courses → r ≡ check_of s → 1 ≤ j → j ≤ r.strips
        → PlanStripThere s.plan j
    row-there l e a b =
        let m = ap (λ (x : Checked). x.strips) e in
        let c = counts (omega (arith, a, b, m)) in
        strips-there s (valid-means s c.sound) l c.paired j a (omega (arith, b, m, c.most))

    pub row_of : r ≡ check_of s → 1 ≤ j → j ≤ r.strips → strip_row s j ≡ strip_of (plan_point s.plan) (plan_course s.plan) j
    unfolding strip_row
    row_of e a b = choose-true _ _ _ (between-test _ _ _ a (omega (arith, b, ap (λ (x : Checked). x.strips) e)))

    pub row-past : r ≡ check_of s → r.strips < j → strip_row s j ≡ no_strip
    unfolding strip_row
    row-past e b = choose-false _ _ _ (between-over _ _ _ (omega (arith, b, ap (λ (x : Checked). x.strips) e)))

  pub row-none : (j : ℕ) → j < 1 → strip_row s j ≡ no_strip
  unfolding strip_row
  row-none j a = choose-false _ _ _ (between-under _ _ _ a)

  pub row-refused : (j : ℕ) {r : Checked} → r ≡ check_of s → r.strips ≡ 0 → strip_row s j ≡ no_strip
  row-refused j e z = by_bool (ltb j 1) (λ t. row-none j (ltb-true j 1 t)) (λ t. row-past e (omega (arith, z, ltb-false j 1 t)))
