-- Of a turn up to 1,792, with (C, S) = D(τ): S ≥ 0, 16,384 + C ≥ 1,247, the tangent length is the floor of 11.2, and of a radius up to 10,000 at
-- most 50,280. By one test over the quarter in which C is negative. Assumes nothing.
use mathlib.Core.Path.{◌≡◌, refl, sym, ap, ◌∙◌}
use mathlib.Core.Bool.{Bool, ◌&&◌}
use Prim.Native.Nat.{ℕ, ◌+◌, ◌*◌, ◌-◌, ◌/◌, ◌%◌, ◌≤◌, ◌<◌}
use native.Mathlib.Nat.{le_antisymm, mul-le-mul_right, div-mul-le_self, div-lt_iff_lt-mul}
use native.Mathlib.Omega.{arith}
use native.Mathlib.Decide.{dec_lt}
use lib.Dec.{T, leb, leb→le}
use lib.IntN.{ℤ, pos, nat_abs, ◌+ℤ◌}
use Rattle.integers.proofs.Ring.{lit, neg, add, same, le, le_of, lt, lt_of}
use Rattle.course.specs.Table.{series, scaled_sine, sine_of}
use Rattle.course.specs.Direction.{quarter, turned, direction_of}
use Rattle.course.proofs.TableLaws.{all, at, and_left, and_right, sine-most}
use Rattle.course.proofs.DirectionLaws.{direction-here, turned-0, turned-1}
use Rattle.fillets.specs.Corners.{tangent_of, IsTangent}

pub steepest : tangent_of 10000 1792 ≡ 50280
unfolding series scaled_sine sine_of quarter turned direction_of tangent_of
steepest = refl

-- ---- the test, of j = τ − 1,024: 16,384 − S[j] is large enough, for the division and for the bound
fits : ℕ → ℕ → Bool
fits x y = leb (x + 1247) 16384 && leb (10000 * y + 50281 * x) (50281 * 16384 - 1)

test : ℕ → Bool
test j = fits (sine_of j) (sine_of (1024 - j))

passed : T (all test 769)
unfolding all test fits series scaled_sine sine_of
passed = tt

-- ---- what the formula needs of C and S
record Parts (C S : ℤ) (sine base : ℕ) : Type 0 where
  sine-is : S ≡ pos sine
  base-is : pos 16384 +ℤ C ≡ pos base
  least : 1247 ≤ base
  most : sine ≤ 16384
  short : 10000 * sine < 50281 * base

record Split (C S : ℤ) : Type 0 where
  sine : ℕ
  base : ℕ
  parts : Parts C S sine base

split-dec : (τ : ℕ) → τ ≤ 1792 → Dec (τ < 1024) → Split (direction_of τ).north (direction_of τ).east
unfolding test fits
split-dec τ h (yes p) =
    let j = τ % 1024 in
    let c = sine_of (1024 - j) in
    let s = sine_of j in
    let l : s ≤ 16384 = sine-most j (omega arith) in
    rw (direction-here τ ∙ turned-0 (τ / 1024) (pos c) (pos s) (omega arith))
    (record { sine = s; base = 16384 + c; parts = record { sine-is = refl; base-is = refl; least = omega arith; most = l; short = omega arith } })
split-dec τ h (no p) =
    let j = τ % 1024 in
    let c = sine_of (1024 - j) in
    let s = sine_of j in
    let l : c ≤ 16384 = sine-most (1024 - j) (omega arith) in
    let t = at test 769 passed j (omega arith) in
    let a : s + 1247 ≤ 16384 = leb→le (s + 1247) 16384 (and_left (leb (s + 1247) 16384) (leb (10000 * c + 50281 * s) (50281 * 16384 - 1)) t) in
    let b : 10000 * c + 50281 * s ≤ 50281 * 16384 - 1 = leb→le (10000 * c + 50281 * s) (50281 * 16384 - 1) (and_right (leb (s + 1247) 16384) (leb (10000 * c + 50281 * s) (50281 * 16384 - 1)) t) in
    rw (direction-here τ ∙ turned-1 (τ / 1024) (pos c) (pos s) (omega arith))
    (record {
      sine = c;
      base = 16384 - s;
      parts =
          record {
            sine-is = refl;
            base-is = same (add (lit 16384) (neg (lit s))) (lit (16384 - s)) (omega arith);
            least = omega arith;
            most = l;
            short = omega arith;
          };
    })

split : (τ : ℕ) → τ ≤ 1792 → Split (direction_of τ).north (direction_of τ).east
split τ h = split-dec τ h (dec_lt τ 1024)

-- ---- the laws
-- T by its two sides, where S and the base are naturals
whole : (R sine base : ℕ) → 0 < base → (R * sine / base * base ≤ R * sine) × (R * sine < (R * sine / base + 1) * base)
whole R s b h = (div-mul-le_self (R * s) b, (div-lt_iff_lt-mul {k = b} {x = R * s} {y = R * s / b + 1} h).0 (omega arith))

pub is-tangent : (R τ : ℕ) → τ ≤ 1792 → IsTangent R τ (tangent_of R τ)
unfolding tangent_of
is-tangent R τ h =
    let s = (split τ h).sine in
    let b = (split τ h).base in
    let p = (split τ h).parts in
    let w = whole R s b (omega (arith, p.least)) in
    record {
      sine = rw p.sine-is (le (lit 0) (lit s) (omega arith));
      base = rw p.base-is (lt (lit 0) (lit b) (omega (arith, p.least)));
      low = rw (p.sine-is, p.base-is) (le (lit (R * s / b * b)) (lit (R * s)) (omega (arith, w.0)));
      high = rw (p.sine-is, p.base-is) (lt (lit (R * s)) (lit ((R * s / b + 1) * b)) (omega (arith, w.1)));
    }

-- no other T has both sides
sides : (b t T n : ℕ) → t * b ≤ n → n < (T + 1) * b → Dec (T < t) → t ≤ T
sides b t T n h k (yes p) = absurd (omega (arith, mul-le-mul_right b p))
sides b t T n h k (no p) = omega arith

pub tangent-only : (R τ t : ℕ) → τ ≤ 1792 → IsTangent R τ t → t ≡ tangent_of R τ
unfolding tangent_of
tangent-only R τ t h i =
    let s = (split τ h).sine in
    let b = (split τ h).base in
    let p = (split τ h).parts in
    let w = whole R s b (omega (arith, p.least)) in
    let l = le_of (lit (t * b)) (lit (R * s)) (rw (p.sine-is, p.base-is) at i.low) in
    let u = lt_of (lit (R * s)) (lit ((t + 1) * b)) (rw (p.sine-is, p.base-is) at i.high) in
    le_antisymm (sides b t (R * s / b) (R * s) (omega (arith, l)) w.1 (dec_lt (R * s / b) t)) (sides b (R * s / b) t (R * s) w.0 (omega (arith, u)) (dec_lt t (R * s / b)))
    ∙ sym (λ j. R * nat_abs (p.sine-is j) / nat_abs (p.base-is j))

-- in the terms of the code: the magnitudes of S and of 16,384 + C
pub record Magnitudes (C S : ℤ) : Type 0 where
  pub sine : nat_abs S ≤ 16384
  pub base : 1247 ≤ nat_abs (pos 16384 +ℤ C)
  pub short : 10000 * nat_abs S < 50281 * nat_abs (pos 16384 +ℤ C)

pub magnitudes : (τ : ℕ) → τ ≤ 1792 → Magnitudes (direction_of τ).north (direction_of τ).east
magnitudes τ h =
    let p = (split τ h).parts in
    let e = ap nat_abs p.sine-is in
    let b = ap nat_abs p.base-is in
    record { sine = omega arith; base = omega arith; short = omega arith }

pub tangent-le : (R τ : ℕ) → R ≤ 10000 → τ ≤ 1792 → tangent_of R τ ≤ 50280
unfolding tangent_of
tangent-le R τ h k =
    let m = magnitudes τ k in
    let S = nat_abs (direction_of τ).east in
    let B = nat_abs (pos 16384 +ℤ (direction_of τ).north) in
    omega (arith, (div-lt_iff_lt-mul {k = B} {x = R * S} {y = 50281} (omega arith)).1 (omega (arith, mul-le-mul_right S h)))
