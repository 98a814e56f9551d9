-- Where a vector (a, b) of the first quarter, a > 0, has reached t edges, unit t holds it and no other does; and so when both are turned
-- by quarters. Only the laws of the edges are used. Assumes nothing.
use mathlib.Core.Path.{◌≡◌, refl, sym, ap, ◌∙◌, subst}
use mathlib.Core.Logic.{◌⊎◌, ⊎_elim}
use Prim.Native.Nat.{ℕ, zero, suc, ◌+◌, ◌*◌, ◌-◌, ◌≤◌, ◌<◌}
use native.Mathlib.Nat.{mul-le-mul_right, mul-le-mul_left, mul-pos}
use native.Mathlib.Omega.{arith}
use native.Mathlib.Decide.{dec_lt}
use lib.IntN.{ℤ, pos, ◌-ℤ◌}
use lib.Signed.{◌≤ℤ◌, ◌<ℤ◌}
use Rattle.integers.proofs.Ring.{lit, sub, neg, mul, same, diff-nonneg, diff-negative, nonneg-diff, negative-diff}
use Rattle.course.specs.declared.Vector.{Vector}
use Rattle.course.specs.Vectors.{plain, cross}
use Rattle.course.specs.Direction.{quarter, turned}
use Rattle.course.specs.Bearing.{edge_of, edge_north, edge_east, Reached, IsBearing}
use Rattle.course.proofs.DirectionLaws.{four_quarters, cross-turned}
use Rattle.course.proofs.EdgeLaws.{edge-quarter, edge-first, edge-rises, edge-falls, east-positive, north-positive}

-- ---- edges go round
pub edge-turned : (q k : ℕ) → edge_of (k + 1024 * q) ≡ turned q (edge_of k)
unfolding turned
edge-turned zero k = ap edge_of {x = k + 1024 * 0} {y = k} (omega arith)
edge-turned (suc q) k =
    ap edge_of {x = k + 1024 * suc q} {y = k + 1024 * q + 1024} (omega arith) ∙ edge-quarter (k + 1024 * q) ∙ ap quarter (edge-turned q k)

edge-round : (k : ℕ) → edge_of (k + 4096) ≡ edge_of k
unfolding turned
edge-round k = edge-turned 4 k ∙ four_quarters (edge_of k)

-- k is i turned by q quarters, round once at most
abbrev pub Shifted : ℕ → ℕ → ℕ → Type 0
Shifted q k i = (i + 1024 * q ≡ k) ⊎ (i + 1024 * q ≡ k + 4096)

edge-shifted : (q k i : ℕ) → Shifted q k i → edge_of k ≡ turned q (edge_of i)
edge-shifted q k i s =
    ⊎_elim (λ (h : i + 1024 * q ≡ k). sym (ap edge_of h) ∙ edge-turned q i)
    (λ (h : i + 1024 * q ≡ k + 4096). sym (edge-round k) ∙ sym (ap edge_of h) ∙ edge-turned q i) s

cross-shifted : (q k i : ℕ) (w : Vector) → Shifted q k i → cross (edge_of k) (turned q w) ≡ cross (edge_of i) w
cross-shifted q k i w s = ap (λ u. cross u (turned q w)) (edge-shifted q k i s) ∙ cross-turned q (edge_of i) w

-- ---- the cross product with a vector of the first quarter, as a difference of naturals, by the quarter of the edge (n, e)
module _ (n e a b : ℕ) where
  cross-0 : cross (plain n e) (plain a b) ≡ pos (n * b) -ℤ pos (e * a)
  unfolding cross
  cross-0 = refl

  cross-1 : cross (quarter (plain n e)) (plain a b) ≡ pos 0 -ℤ pos (e * b + n * a)
  unfolding cross quarter
  cross-1 = same (sub (mul (neg (lit e)) (lit b)) (mul (lit n) (lit a))) (sub (lit 0) (lit (e * b + n * a))) (omega arith)

  cross-2 : cross (quarter (quarter (plain n e))) (plain a b) ≡ pos (e * a) -ℤ pos (n * b)
  unfolding cross quarter
  cross-2 = same (sub (mul (neg (lit n)) (lit b)) (mul (neg (lit e)) (lit a))) (sub (lit (e * a)) (lit (n * b))) (omega arith)

  cross-3 : cross (quarter (quarter (quarter (plain n e)))) (plain a b) ≡ pos (e * b + n * a) -ℤ pos 0
  unfolding cross quarter
  cross-3 = same (sub (mul (neg (neg (lit e))) (lit b)) (mul (neg (lit n)) (lit a))) (sub (lit (e * b + n * a)) (lit 0)) (omega arith)

-- the edge m of the first quarter, m = 1..1024
edge-plain : (m : ℕ) → 0 < m → m ≤ 1024 → edge_of m ≡ plain (edge_north m) (edge_east m)
edge-plain zero h k = absurd (omega arith)
edge-plain (suc i) h k = edge-first i (omega arith)

module _ (a b : ℕ) where
  abbrev at : ℕ → ℤ
  at i = cross (edge_of i) (plain a b)

  sign-0 : (m : ℕ) → 0 < m → m ≤ 1024 → at m ≡ pos (edge_north m * b) -ℤ pos (edge_east m * a)
  sign-0 m h k = ap (λ u. cross u (plain a b)) (edge-plain m h k) ∙ cross-0 (edge_north m) (edge_east m) a b

  sign-1 : (m : ℕ) → 0 < m → m ≤ 1024 → at (m + 1024) ≡ pos 0 -ℤ pos (edge_east m * b + edge_north m * a)
  sign-1 m h k = ap (λ u. cross u (plain a b)) (edge-quarter m ∙ ap quarter (edge-plain m h k)) ∙ cross-1 (edge_north m) (edge_east m) a b

  sign-2 : (m : ℕ) → 0 < m → m ≤ 1024 → at (m + 2048) ≡ pos (edge_east m * a) -ℤ pos (edge_north m * b)
  unfolding turned
  sign-2 m h k = ap (λ u. cross u (plain a b)) (edge-turned 2 m ∙ ap (turned 2) (edge-plain m h k)) ∙ cross-2 (edge_north m) (edge_east m) a b

  sign-3 : (m : ℕ) → 0 < m → m ≤ 1024 → at (m + 3072) ≡ pos (edge_east m * b + edge_north m * a) -ℤ pos 0
  unfolding turned
  sign-3 m h k = ap (λ u. cross u (plain a b)) (edge-turned 3 m ∙ ap (turned 3) (edge-plain m h k)) ∙ cross-3 (edge_north m) (edge_east m) a b

  -- edge 0 is edge 4096
  sign-nought : at 0 ≡ pos (edge_east 1024 * b + edge_north 1024 * a) -ℤ pos 0
  sign-nought = ap (λ u. cross u (plain a b)) (sym (edge-round 0)) ∙ sign-3 1024 (omega arith) (omega arith)

  -- the sign at an edge is an order of naturals
  order : (i m x y : ℕ) → i ≡ m → at m ≡ pos x -ℤ pos y → pos 0 ≤ℤ at i → y ≤ x
  order i m x y e s h = nonneg-diff x y (subst (λ (z : ℤ). pos 0 ≤ℤ z) (ap at e ∙ s) h)

  strict : (i m x y : ℕ) → i ≡ m → at m ≡ pos x -ℤ pos y → at i <ℤ pos 0 → x < y
  strict i m x y e s h = negative-diff x y (subst (λ (z : ℤ). z <ℤ pos 0) (ap at e ∙ s) h)

  -- an edge that is passed does not come after one that is not: in the first quarter, and the other way round in the third
  clash : (m n : ℕ) → 0 < m → m ≤ n → n ≤ 1024 → edge_north m * b < edge_east m * a → edge_east n * a ≤ edge_north n * b → ⊥
  clash m n l h k p r = omega (arith, mul-le-mul_right a (edge-rises m n l h k), mul-le-mul_right b (edge-falls m n l h k))

  clash' : (m n : ℕ) → 0 < m → m ≤ n → n ≤ 1024 → edge_north m * b ≤ edge_east m * a → edge_east n * a < edge_north n * b → ⊥
  clash' m n l h k p r = omega (arith, mul-le-mul_right a (edge-rises m n l h k), mul-le-mul_right b (edge-falls m n l h k))

  module _ (ha : 0 < a) (t : ℕ) (z : Reached a b t) where
    -- unit t holds (a, b)
    from-dec : Dec (0 < t) → pos 0 ≤ℤ at t
    from-dec (yes p) = subst (λ (z : ℤ). pos 0 ≤ℤ z) (sym (sign-0 t p z.most)) (diff-nonneg (edge_north t * b) (edge_east t * a) (z.from p))
    from-dec (no p) =
        subst (λ (z : ℤ). pos 0 ≤ℤ z) (sym (ap at {x = t} {y = 0} (omega arith) ∙ sign-nought))
        (diff-nonneg (edge_east 1024 * b + edge_north 1024 * a) 0 (omega arith))

    upto-dec : Dec (t < 1024) → at (suc t) <ℤ pos 0
    upto-dec (yes p) =
        subst (λ (z : ℤ). z <ℤ pos 0) (sym (sign-0 (suc t) (omega arith) p))
        (diff-negative (edge_north (suc t) * b) (edge_east (suc t) * a) (z.upto p))
    upto-dec (no p) =
        let m : t ≤ 1024 = z.most in
        subst (λ (z : ℤ). z <ℤ pos 0) (sym (ap at {x = suc t} {y = 1025} (omega arith) ∙ sign-1 1 (omega arith) (omega arith)))
        (diff-negative 0 (edge_east 1 * b + edge_north 1 * a) (omega (arith, mul-pos (north-positive 1 (omega arith) (omega arith)) ha)))

    -- and no other unit i does, by the quarter that i lies in
    module _ (i : ℕ) (from : pos 0 ≤ℤ at i) (upto : at (suc i) <ℤ pos 0) where
      only-nought : i ≡ 0 → Dec (0 < t) → i ≡ t
      only-nought e (yes p) =
          absurd (clash 1 t (omega arith) p z.most
          (strict (suc i) 1 (edge_north 1 * b) (edge_east 1 * a) (omega arith) (sign-0 1 (omega arith) (omega arith)) upto) (z.from p))
      only-nought e (no p) = omega arith

      only-first : 0 < i → i ≤ 1024 → Dec (t < i) → Dec (i < t) → i ≡ t
      only-first l h (yes p) d =
          absurd (clash (suc t) i (omega arith) p h (z.upto (omega arith)) (order i i (edge_north i * b) (edge_east i * a) refl (sign-0 i l h) from))
      only-first l h (no p) (yes q) =
          let m : t ≤ 1024 = z.most in
          absurd (clash (suc i) t (omega arith) q m
          (strict (suc i) (suc i) (edge_north (suc i) * b) (edge_east (suc i) * a) refl (sign-0 (suc i) (omega arith) (omega arith)) upto) (z.from (omega arith)))
      only-first l h (no p) (no q) = omega arith

      -- i = m + 1024
      not-second : (m : ℕ) → 0 < m → m ≤ 1024 → i ≡ m + 1024 → Dec (m < 1024) → ⊥
      not-second m l h e (yes p) =
          let o : edge_east m * b + edge_north m * a ≤ 0 = order i (m + 1024) 0 (edge_east m * b + edge_north m * a) e (sign-1 m l h) from in
          omega (arith, mul-pos (north-positive m l p) ha)
      not-second m l h e (no p) =
          let o : edge_east m * b + edge_north m * a ≤ 0 = order i (m + 1024) 0 (edge_east m * b + edge_north m * a) e (sign-1 m l h) from in
          let s : edge_east 1 * a < edge_north 1 * b = strict (suc i) 2049 (edge_east 1 * a) (edge_north 1 * b) (omega arith) (sign-2 1 (omega arith) (omega arith)) upto in
          at-end m l h o s (dec_lt 0 b)
        where
          at-end : (m : ℕ) → 0 < m → m ≤ 1024 → edge_east m * b + edge_north m * a ≤ 0 → edge_east 1 * a < edge_north 1 * b → Dec (0 < b) → ⊥
          at-end m l h o s (yes q) = omega (arith, mul-pos (east-positive m l h) q)
          at-end m l h o s (no q) = omega (arith, mul-le-mul_left {m = b} {n = 0} (edge_north 1) (omega arith))

      -- i = m + 2048
      not_third : (m : ℕ) → 0 < m → m ≤ 1024 → i ≡ m + 2048 → Dec (m < 1024) → ⊥
      not_third m l h e (yes p) =
          clash' m (suc m) l (omega arith) p (order i (m + 2048) (edge_east m * a) (edge_north m * b) e (sign-2 m l h) from)
          (strict (suc i) (suc m + 2048) (edge_east (suc m) * a) (edge_north (suc m) * b) (omega arith) (sign-2 (suc m) (omega arith) p) upto)
      not_third m l h e (no p) =
          let s : edge_east 1 * b + edge_north 1 * a < 0 = strict (suc i) 3073 (edge_east 1 * b + edge_north 1 * a) 0 (omega arith) (sign-3 1 (omega arith) (omega arith)) upto in
          omega arith

      -- i = m + 3072, and the next edge is in the same quarter
      not-fourth : (m : ℕ) → 0 < m → m < 1024 → i ≡ m + 3072 → ⊥
      not-fourth m l h e =
          let s : edge_east (suc m) * b + edge_north (suc m) * a < 0 = strict (suc i) (suc m + 3072) (edge_east (suc m) * b + edge_north (suc m) * a) 0 (omega arith) (sign-3 (suc m) (omega arith) h) upto in
          omega arith

      by-quarter : i < 4096 → Dec (0 < i) → Dec (i < 1025) → Dec (i < 2049) → Dec (i < 3073) → i ≡ t
      by-quarter h (no p) d1 d2 d3 = only-nought (omega arith) (dec_lt 0 t)
      by-quarter h (yes p) (yes q) d2 d3 = only-first p (omega arith) (dec_lt t i) (dec_lt i t)
      by-quarter h (yes p) (no q) (yes r) d3 = absurd (not-second (i - 1024) (omega arith) (omega arith) (omega arith) (dec_lt (i - 1024) 1024))
      by-quarter h (yes p) (no q) (no r) (yes s) = absurd (not_third (i - 2048) (omega arith) (omega arith) (omega arith) (dec_lt (i - 2048) 1024))
      by-quarter h (yes p) (no q) (no r) (no s) = absurd (not-fourth (i - 3072) (omega arith) (omega arith) (omega arith))

      only : i < 4096 → i ≡ t
      only h = by-quarter h (dec_lt 0 i) (dec_lt i 1025) (dec_lt i 2049) (dec_lt i 3073)

    -- ---- and so at any quarter q
    pub sector-is : (q k : ℕ) → k < 4096 → Shifted q k t → Shifted q (suc k) (suc t) → IsBearing (turned q (plain a b)) k
    sector-is q k h s s' =
        record {
          round = h;
          from = subst (λ (z : ℤ). pos 0 ≤ℤ z) (sym (cross-shifted q k t (plain a b) s)) (from-dec (dec_lt 0 t));
          upto = subst (λ (z : ℤ). z <ℤ pos 0) (sym (cross-shifted q (suc k) (suc t) (plain a b) s')) (upto-dec (dec_lt t 1024));
        }

    pub sector-only : (q k i : ℕ) → i < 4096 → Shifted q k i → Shifted q (suc k) (suc i) → IsBearing (turned q (plain a b)) k → i ≡ t
    sector-only q k i h s s' r =
        only i
        (subst (λ (z : ℤ). pos 0 ≤ℤ z) (cross-shifted q k i (plain a b) s) r.from)
        (subst (λ (z : ℤ). z <ℤ pos 0) (cross-shifted q (suc k) (suc i) (plain a b) s') r.upto) h
