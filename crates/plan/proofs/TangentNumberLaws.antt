-- A turn of 0 has no tangent length, and an easy one at most 5/4 of the radius. Refusal 12 of a leg from its squared length. Assumes nothing.
use mathlib.Core.Path.{◌≡◌, sym, ap, ◌∙◌}
use mathlib.Core.Bool.{Bool}
use Prim.Native.Nat.{ℕ, ◌+◌, ◌*◌, ◌-◌, ◌/◌, ◌%◌, ◌≤◌, ◌<◌}
use native.Mathlib.Nat.{mul-le-mul, mul-zero, zero-div, div-lt_iff_lt-mul}
use native.Mathlib.Omega.{arith}
use native.Mathlib.Decide.{dec_lt}
use lib.Dec.{T, leb, leb→le}
use lib.IntN.{ℤ, pos, nat_abs, ◌+ℤ◌}
use borrow.Author.Tests.{le-leb, lt-leb}
use Rattle.conditions.proofs.ChooseLaws.{choose-true, choose-false}
use Rattle.integers.proofs.RootLaws.{root-least}
use Rattle.integers.proofs.Ring.{lit, neg, add, same}
use Rattle.course.specs.Table.{series, scaled_sine, sine_of}
use Rattle.course.specs.Direction.{direction_of}
use Rattle.course.proofs.TableLaws.{all, at, sine-0, sine-most}
use Rattle.course.proofs.DirectionLaws.{direction-here, turned-0, turned-1}
use Rattle.plane.specs.declared.Point.{Point}
use Rattle.plane.specs.Level.{level_leg_of, square_of, vector_length}
use Rattle.fillets.specs.Corners.{easy_turn, tangent_of}
use Rattle.fillets.proofs.TangentLaws.{magnitudes}
use Rattle.plan.specs.Rules.{tangent_number}

-- ---- the tangent length of an easy turn: 4·S ≤ 5·(16,384 + C). Past a right angle by one test, of j = τ − 1,024.
test : ℕ → Bool
test j = leb (4 * sine_of (1024 - j) + 5 * sine_of j) (5 * 16384)

passed : T (all test 145)
unfolding all test series scaled_sine sine_of
passed = tt

Easy : ℤ → ℤ → Type 0
Easy C S = 4 * nat_abs S ≤ 5 * nat_abs (pos 16384 +ℤ C)

easy-dec : (τ : ℕ) → τ ≤ easy_turn → Dec (τ < 1024) → Easy (direction_of τ).north (direction_of τ).east
unfolding test Easy
easy-dec τ h (yes p) =
    let j = τ % 1024 in
    let l : sine_of j ≤ 16384 = sine-most j (omega arith) in
    rw (direction-here τ ∙ turned-0 (τ / 1024) (pos (sine_of (1024 - j))) (pos (sine_of j)) (omega arith)) (omega arith)
easy-dec τ h (no p) =
    let j = τ % 1024 in
    let c = sine_of (1024 - j) in
    let s = sine_of j in
    let l : s ≤ 16384 = sine-most j (omega arith) in
    let t : 4 * c + 5 * s ≤ 5 * 16384 = leb→le (4 * c + 5 * s) (5 * 16384) (at test 145 passed j (omega arith)) in
    let e = same (add (lit 16384) (neg (lit s))) (lit (16384 - s)) (omega arith) in
    rw (direction-here τ ∙ turned-1 (τ / 1024) (pos c) (pos s) (omega arith), e) (omega arith)

pub tangent-easy : (R τ : ℕ) → τ ≤ easy_turn → 4 * tangent_of R τ ≤ 5 * R
unfolding tangent_of Easy
tangent-easy R τ h =
    let m : 1247 ≤ nat_abs (pos 16384 +ℤ (direction_of τ).north) = (magnitudes τ (omega arith)).base in
    let S = nat_abs (direction_of τ).east in
    let B = nat_abs (pos 16384 +ℤ (direction_of τ).north) in
    let q = 5 * R / 4 in
    let r : R ≤ R = omega arith in
    let s : 5 * R + 1 ≤ 4 * (q + 1) = omega arith in
    let b : B ≤ B = omega arith in
    let k : R * S < (q + 1) * B = omega (arith, mul-le-mul r (easy-dec τ h (dec_lt τ 1024)), mul-le-mul s b, m) in
    omega (arith, (div-lt_iff_lt-mul {k = B} {x = R * S} {y = q + 1} (omega (arith, m))).1 k)

pub tangent-none : (R : ℕ) → tangent_of R 0 ≡ 0
unfolding tangent_of
tangent-none R =
    let d = direction-here 0 ∙ turned-0 (0 / 1024) (pos (sine_of (1024 - 0 % 1024))) (pos (sine_of (0 % 1024))) (omega arith) in
    rw (d, sine-0, mul-zero R) (zero-div (nat_abs (pos 16384 +ℤ pos (sine_of (1024 - 0 % 1024)))))

-- ---- 12 from the squared length of a leg
module _ (a b : Point) (squared tangents : ℕ) (e : squared ≡ square_of (level_leg_of a b)) where
  tested : leb tangents (vector_length (level_leg_of a b)) ≡ leb (tangents * tangents) squared
  unfolding vector_length
  tested = root-least (square_of (level_leg_of a b)) tangents ∙ ap (leb (tangents * tangents)) (sym e)

  pub leg-passes : tangents * tangents ≤ squared → 0 ≡ tangent_number a b tangents
  unfolding tangent_number
  leg-passes h = sym (choose-true (leb tangents (vector_length (level_leg_of a b))) 0 12 (tested ∙ le-leb (tangents * tangents) squared h))

  pub leg-short : squared < tangents * tangents → 12 ≡ tangent_number a b tangents
  unfolding tangent_number
  leg-short h = sym (choose-false (leb tangents (vector_length (level_leg_of a b))) 0 12 (tested ∙ lt-leb (tangents * tangents) squared h))

-- and so without its tangent lengths, where both turns are easy
pub easy-passes : (a b : Point) (squared R t u : ℕ) → squared ≡ square_of (level_leg_of a b) → t ≤ easy_turn → u ≤ easy_turn → 5 * R / 2 * (5 * R / 2) ≤ squared
    → 0 ≡ tangent_number a b (tangent_of R t + tangent_of R u)
easy-passes a b squared R t u e h k l =
    let tangents = tangent_of R t + tangent_of R u in
    let m : tangents ≤ 5 * R / 2 = omega (arith, tangent-easy R t h, tangent-easy R u k) in
    leg-passes a b squared tangents e (omega (arith, mul-le-mul m m, l))
