-- The rules of the course table, by one test that is computed over all of it, and that its entries are sines. Assumes nothing.
use mathlib.Core.Path.{◌≡◌, refl, subst}
use mathlib.Core.Bool.{Bool, true, false, ◌&&◌}
use Prim.Native.Nat.{ℕ, zero, suc, ◌+◌, ◌*◌, ◌-◌, ◌≤◌, ◌<◌}
use native.Mathlib.Omega.{arith}
use native.Mathlib.Nat.{le_trans, le_refl, add-zero}
use native.Mathlib.Decide.{dec_lt}
use lib.Dec.{T, leb, leb→le}
use Rattle.course.specs.Table.{unit, arc, series, scaled_sine, sine_of, odd, arctan, machin, reach, AreSines}
use Rattle.course.specs.Direction.{NeverFalls}

pub and_left : (a b : Bool) → T (a && b) → T a
and_left true b t = tt
and_left false b t = t

pub and_right : (a b : Bool) → T (a && b) → T b
and_right true b t = t
and_right false b t = absurd t

-- ---- a test at every number below n
unfoldable pub all : (ℕ → Bool) → ℕ → Bool
all f zero = true
all f (suc n) = f n && all f n

at-dec : (f : ℕ → Bool) (n k : ℕ) → T (f n) → (k < n → T (f k)) → Dec (k < n) → k < suc n → T (f k)
at-dec f n k h g (yes p) l = g p
at-dec f n k h g (no p) l = subst (λ (m : ℕ). T (f m)) (omega arith) h

pub at : (f : ℕ → Bool) (n : ℕ) → T (all f n) → (k : ℕ) → k < n → T (f k)
unfolding all
at f zero t k h = absurd (omega arith)
at f (suc n) t k h = at-dec f n k (and_left (f n) (all f n) t) (at f n (and_right (f n) (all f n) t) k) (dec_lt k n) h

-- ---- the test: of x = S[k], x' = S[k+1], y = S[1024−k] and y' = S[1023−k]
fits : ℕ → ℕ → ℕ → ℕ → Bool
fits x x' y y' =
    leb x x'
    && (leb (268435456 - 23171) (x * x + y * y)
    && (leb (x * x + y * y) (268435456 + 23171)
    && (leb (x * y' + 388000) (y * x')
    && leb (y * x') (x * y' + 435500))))

test : ℕ → Bool
test k = fits (sine_of k) (sine_of (suc k)) (sine_of (1024 - k)) (sine_of (1023 - k))

passed : T (all test 1024)
unfolding all test fits series scaled_sine sine_of
passed = tt

pub record Rule (x x' y y' : ℕ) : Type 0 where
  pub rises : x ≤ x'
  pub long : 268435456 - 23171 ≤ x * x + y * y
  pub short : x * x + y * y ≤ 268435456 + 23171
  pub apart : x * y' + 388000 ≤ y * x'
  pub close : y * x' ≤ x * y' + 435500

rule-of : (x x' y y' : ℕ) → T (fits x x' y y') → Rule x x' y y'
unfolding fits
rule-of x x' y y' t =
    let a = leb x x' in
    let b = leb (268435456 - 23171) (x * x + y * y) in
    let c = leb (x * x + y * y) (268435456 + 23171) in
    let d = leb (x * y' + 388000) (y * x') in
    let e = leb (y * x') (x * y' + 435500) in
    let t1 = and_right a (b && (c && (d && e))) t in
    let t2 = and_right b (c && (d && e)) t1 in
    let t3 = and_right c (d && e) t2 in
    record {
      rises = leb→le x x' (and_left a (b && (c && (d && e))) t);
      long = leb→le (268435456 - 23171) (x * x + y * y) (and_left b (c && (d && e)) t1);
      short = leb→le (x * x + y * y) (268435456 + 23171) (and_left c (d && e) t2);
      apart = leb→le (x * y' + 388000) (y * x') (and_left d e t3);
      close = leb→le (y * x') (x * y' + 435500) (and_right d e t3);
    }

pub table-rule : (k : ℕ) → k < 1024 → Rule (sine_of k) (sine_of (suc k)) (sine_of (1024 - k)) (sine_of (1023 - k))
unfolding test
table-rule k h = rule-of (sine_of k) (sine_of (suc k)) (sine_of (1024 - k)) (sine_of (1023 - k)) (at test 1024 passed k h)

-- ---- S never falls, over any distance
pub rises : NeverFalls
rises k h = (table-rule k h).rises

rise-by : (i d : ℕ) → i + d ≤ 1024 → sine_of i ≤ sine_of (i + d)
rise-by i zero h = rw add-zero (le_refl (sine_of i))
rise-by i (suc d) h =
    subst (λ (m : ℕ). sine_of i ≤ sine_of m) (omega arith)
    (le_trans (rise-by i d (omega arith)) (rises (i + d) (omega arith)))

pub never-falls : (i j : ℕ) → i ≤ j → j ≤ 1024 → sine_of i ≤ sine_of j
never-falls i j h k = subst (λ (m : ℕ). sine_of i ≤ sine_of m) (omega arith) (rise-by i (j - i) (omega arith))

-- ---- entries that are used by name
pub sine-0 : sine_of 0 ≡ 0
unfolding series scaled_sine sine_of
sine-0 = refl

pub sine-1 : sine_of 1 ≡ 25
unfolding series scaled_sine sine_of
sine-1 = refl

pub sine-512 : sine_of 512 ≡ 11585
unfolding series scaled_sine sine_of
sine-512 = refl

pub sine-1024 : sine_of 1024 ≡ 16384
unfolding series scaled_sine sine_of
sine-1024 = refl

pub sine-most : (k : ℕ) → k ≤ 1024 → sine_of k ≤ 16384
sine-most k h = omega (arith, never-falls k 1024 h (omega arith), sine-1024)

-- ---- no value comes within 1/8192 of a half, and the arc is Machin's
clear : ℕ → ℕ → Bool
clear s z = leb (s * (unit * unit)) (z + reach) && leb z (s * (unit * unit) + reach)

clear-test : ℕ → Bool
clear-test k = clear (sine_of k) (scaled_sine (k * arc))

all-clear : T (all clear-test 1025)
unfolding all clear-test clear series scaled_sine sine_of
all-clear = tt

module _ (k : ℕ) (h : k ≤ 1024) where
  passes : T (clear (sine_of k) (scaled_sine (k * arc)))
  unfolding clear-test
  passes = at clear-test 1025 all-clear k (omega arith)

  above : sine_of k * (unit * unit) ≤ scaled_sine (k * arc) + reach
  unfolding clear
  above =
      let s = sine_of k * (unit * unit) in
      let z = scaled_sine (k * arc) in
      leb→le s (z + reach) (and_left (leb s (z + reach)) (leb z (s + reach)) passes)

  below : scaled_sine (k * arc) ≤ sine_of k * (unit * unit) + reach
  unfolding clear
  below =
      let s = sine_of k * (unit * unit) in
      let z = scaled_sine (k * arc) in
      leb→le z (s + reach) (and_right (leb s (z + reach)) (leb z (s + reach)) passes)

pub are-sines : AreSines
unfolding odd arctan machin
are-sines = record { arc_most = leb→le arc (machin + 1) tt; arc_least = leb→le machin (arc + 1) tt; above = above; below = below }
