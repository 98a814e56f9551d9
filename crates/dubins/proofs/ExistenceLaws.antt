-- When a case exists: RSR and LSL exactly when v is not (0, 0), RSL and LSR exactly when v·v is at least 4R². Assumes nothing.
use mathlib.Core.Path.{◌≡◌, sym, ap, ◌∙◌}
use mathlib.Core.Bool.{true, false}
use Prim.Native.Nat.{ℕ, ◌*◌, ◌≤◌}
use native.Mathlib.Nat.{lt_of_not-le}
use native.Mathlib.Omega.{arith}
use lib.Dec.{leb, ltb}
use borrow.Author.Tests.{ltb-true, lt-ltb, leb-true, le-leb}
use Rattle.conditions.proofs.ChooseLaws.{choose-true, choose-false}
use Rattle.course.specs.declared.Vector.{Vector}
use Rattle.course.specs.Vectors.{plain}
use Rattle.plane.specs.Level.{square_of}
use Rattle.plane.proofs.LevelLaws.{square-sum, square-zero}
use Rattle.dubins.specs.declared.Case.{Case}
use Rattle.dubins.specs.Cases.{same_side, tangent_exists}

module _ (case : Case) (R : ℕ) (v : Vector) where
  pub outer-test : same_side case ≡ true → tangent_exists case R v ≡ ltb 0 (square_of v)
  unfolding tangent_exists
  outer-test h = choose-true (same_side case) (ltb 0 (square_of v)) (leb (4 * R * R) (square_of v)) h

  pub inner-test : same_side case ≡ false → tangent_exists case R v ≡ leb (4 * R * R) (square_of v)
  unfolding tangent_exists
  inner-test h = choose-false (same_side case) (ltb 0 (square_of v)) (leb (4 * R * R) (square_of v)) h

  -- RSR and LSL
  pub outer-exists : same_side case ≡ true → (v ≡ plain 0 0 → ⊥) → tangent_exists case R v ≡ true
  outer-exists h n = outer-test h ∙ lt-ltb 0 (square_of v) (lt_of_not-le (λ k. n (square-zero v (omega arith))))

  pub outer-apart : same_side case ≡ true → tangent_exists case R v ≡ true → v ≡ plain 0 0 → ⊥
  outer-apart h e z = omega (arith, ltb-true 0 (square_of v) (sym (outer-test h) ∙ e), ap square_of z, square-sum (plain 0 0))

  -- RSL and LSR
  pub inner-exists : same_side case ≡ false → 4 * R * R ≤ square_of v → tangent_exists case R v ≡ true
  inner-exists h k = inner-test h ∙ le-leb (4 * R * R) (square_of v) k

  pub inner-apart : same_side case ≡ false → tangent_exists case R v ≡ true → 4 * R * R ≤ square_of v
  inner-apart h e = leb-true (4 * R * R) (square_of v) (sym (inner-test h) ∙ e)
