-- Where b lies to the right of a and 5·a·b + cross(a, b) is positive, as it is up to 101 degrees, b bears at most 1,168 units more than a. All that
-- is known of the edges is one computed test. Assumes nothing.
use mathlib.Core.Path.{◌≡◌, refl, sym, ap, ◌∙◌, subst}
use mathlib.Core.Bool.{Bool, ◌&&◌}
use Prim.Native.Nat.{ℕ, zero, suc, ◌+◌, ◌*◌, ◌/◌, ◌%◌, ◌<◌}
use native.Mathlib.Omega.{arith}
use lib.Dec.{T}
use lib.IntN.{ℤ, pos, negsuc, neg_ℤ, nat_abs, ◌-ℤ◌, ◌*ℤ◌}
use lib.Signed.{lt_z, le_z, lt_z_yes, le_z_yes, ◌≤ℤ◌, ◌<ℤ◌, <ℤ_irrefl}
use Rattle.integers.proofs.Magnitudes.{square}
use Rattle.integers.proofs.Ring.{v, lit, sub, neg, mul, same, same_of, le, le_of, lt, lt_of, lt-le}
use Rattle.course.specs.declared.Vector.{Vector}
use Rattle.course.specs.Table.{series, scaled_sine, sine_of}
use Rattle.course.specs.Vectors.{plain, cross}
use Rattle.course.specs.Direction.{quarter, turned, direction_of}
use Rattle.course.specs.Bearing.{edge_of, bearing_of}
use Rattle.course.proofs.VectorLaws.{vector}
use Rattle.course.proofs.TableLaws.{all, at, and_left, and_right}
use Rattle.course.proofs.DirectionLaws.{cross-turned}
use Rattle.course.proofs.SectorLaws.{edge-turned}
use Rattle.course.proofs.BearingLaws.{bearing-is}
use Rattle.course.proofs.BetweenLaws.{Past, between}
use Rattle.course.proofs.SpanLaws.{Spanned, span_right, span_left}

-- ---- v turned by 101 degrees: five times its quarter turn less v. So cross(b, beyond a) = 5·a·b + cross(a, b).
unfoldable pub beyond : Vector → Vector
beyond u = record { north = neg_ℤ (pos 5 *ℤ u.east) -ℤ u.north; east = pos 5 *ℤ u.north -ℤ u.east }

beyond-quarter : (u : Vector) → beyond (quarter u) ≡ quarter (beyond u)
unfolding beyond quarter
beyond-quarter u =
    let n = v u.north in
    let e = v u.east in
    vector (same (sub (neg (mul (lit 5) n)) (neg e)) (neg (sub (mul (lit 5) n) e)) (omega arith))
    (same (sub (mul (lit 5) (neg e)) n) (sub (neg (mul (lit 5) e)) n) (omega arith))

beyond-turned : (q : ℕ) (u : Vector) → beyond (turned q u) ≡ turned q (beyond u)
unfolding turned
beyond-turned zero u = refl
beyond-turned (suc q) u = beyond-quarter (turned q u) ∙ ap quarter (beyond-turned q u)

-- it keeps which side a vector lies on
beyond-cross : (u w : Vector) → cross (beyond u) (beyond w) ≡ pos 26 *ℤ cross u w
unfolding beyond cross
beyond-cross u w =
    let a = v u.north in
    let b = v u.east in
    let c = v w.north in
    let d = v w.east in
    same (sub (mul (sub (neg (mul (lit 5) b)) a) (sub (mul (lit 5) c) d)) (mul (sub (mul (lit 5) a) b) (sub (neg (mul (lit 5) d)) c)))
    (mul (lit 26) (sub (mul a d) (mul b c))) (omega arith)

-- ---- the test: of the edges u and w of a unit, and of the edge d that lies 1,169 units past u
right : Vector → Vector → Vector → Bool
right g u w = le_z (pos 0) (cross g u) && le_z (pos 0) (cross g w)

left : Vector → Vector → Vector → Bool
left g u w = lt_z (cross g u) (pos 0) && le_z (cross g w) (pos 0)

apart : Vector → Vector → Vector → Bool
apart u w d = lt_z (pos 0) (cross u w) && (right u (beyond u) (beyond w) && (left d u w && left d (beyond u) (beyond w)))

test : ℕ → Bool
test k = apart (edge_of k) (edge_of (suc k)) (edge_of (k + 1169))

passed : T (all test 1024)
unfolding all test apart right left beyond cross edge_of direction_of turned quarter series scaled_sine sine_of
passed = tt

-- and so in every quarter
module _ (q : ℕ) where
  side-turned : (g u : Vector) → cross (turned q g) (beyond (turned q u)) ≡ cross g (beyond u)
  side-turned g u = ap (cross (turned q g)) (beyond-turned q u) ∙ cross-turned q g (beyond u)

  apart-turned : (u w d : Vector) → apart (turned q u) (turned q w) (turned q d) ≡ apart u w d
  unfolding apart right left
  apart-turned u w d =
      λ i. lt_z (pos 0) (cross-turned q u w i)
      && ((le_z (pos 0) (side-turned u u i) && le_z (pos 0) (side-turned u w i))
      && ((lt_z (cross-turned q d u i) (pos 0) && le_z (cross-turned q d w i) (pos 0)) && (lt_z (side-turned d u i) (pos 0) && le_z (side-turned d w i) (pos 0))))

module _ (k : ℕ) where
  edge_here : (j m : ℕ) → m ≡ j + 1024 * (k / 1024) → edge_of m ≡ turned (k / 1024) (edge_of j)
  edge_here j m e = ap edge_of e ∙ edge-turned (k / 1024) j

  same_test : test k ≡ test (k % 1024)
  unfolding test
  same_test =
      (λ i. apart (edge_here (k % 1024) k (omega arith) i) (edge_here (suc (k % 1024)) (suc k) (omega arith) i) (edge_here (k % 1024 + 1169) (k + 1169) (omega arith) i))
      ∙ apart-turned (k / 1024) (edge_of (k % 1024)) (edge_of (suc (k % 1024))) (edge_of (k % 1024 + 1169))

  every-unit : T (test k)
  every-unit = subst T (sym same_test) (at test 1024 passed (k % 1024) (omega arith))

-- ---- what a test says
right_of_lem : (g u w : Vector) → T (right g u w) → (pos 0 ≤ℤ cross g u) × (pos 0 ≤ℤ cross g w)
unfolding right
right_of_lem g u w t =
    let a = le_z (pos 0) (cross g u) in
    let b = le_z (pos 0) (cross g w) in
    (le_z_yes (and_left a b t), le_z_yes (and_right a b t))

left-of : (g u w : Vector) → T (left g u w) → (cross g u <ℤ pos 0) × (cross g w ≤ℤ pos 0)
unfolding left
left-of g u w t =
    let a = lt_z (cross g u) (pos 0) in
    let b = le_z (cross g w) (pos 0) in
    (lt_z_yes (and_left a b t), le_z_yes (and_right a b t))

record Apart (u w d : Vector) : Type 0 where
  wide : pos 0 <ℤ cross u w
  ahead : (pos 0 ≤ℤ cross u (beyond u)) × (pos 0 ≤ℤ cross u (beyond w))
  behind : (cross d u <ℤ pos 0) × (cross d w ≤ℤ pos 0)
  past : (cross d (beyond u) <ℤ pos 0) × (cross d (beyond w) ≤ℤ pos 0)

apart_of : (u w d : Vector) → T (apart u w d) → Apart u w d
unfolding apart
apart_of u w d t =
    let a = lt_z (pos 0) (cross u w) in
    let b = right u (beyond u) (beyond w) in
    let c = left d u w in
    let e = left d (beyond u) (beyond w) in
    let r = and_right a (b && (c && e)) t in
    let s = and_right b (c && e) r in
    record {
      wide = lt_z_yes (and_left a (b && (c && e)) t);
      ahead = right_of_lem u (beyond u) (beyond w) (and_left b (c && e) r);
      behind = left-of d u w (and_left c e s);
      past = left-of d (beyond u) (beyond w) (and_right c e s);
    }

-- ---- the law
turned-back : (u w : Vector) → cross w u <ℤ pos 0 → pos 0 <ℤ cross u w
unfolding cross
turned-back u w h =
    let a = v u.north in
    let b = v u.east in
    let c = v w.north in
    let d = v w.east in
    lt (lit 0) (sub (mul a d) (mul b c)) (omega (arith, lt_of (sub (mul c b) (mul d a)) (lit 0) h))

multiple : (z : ℤ) → pos 0 <ℤ z → pos 0 <ℤ (pos 26 *ℤ z)
multiple z h = lt (lit 0) (mul (lit 26) (v z)) (omega (arith, lt_of (lit 0) (v z) h))

multiple-nought : (z : ℤ) → pos 0 ≤ℤ z → pos 0 ≤ℤ (pos 26 *ℤ z)
multiple-nought z h = le (lit 0) (mul (lit 26) (v z)) (omega (arith, le_of (lit 0) (v z) h))

beyond-spanned : (u w x : Vector) → Spanned u w x → Spanned (beyond u) (beyond w) (beyond x)
beyond-spanned u w x s =
    record {
      whole = rw (beyond-cross u w) (multiple (cross u w) s.whole);
      first = rw (beyond-cross x w) (multiple (cross x w) s.first);
      second = rw (beyond-cross u x) (multiple-nought (cross u x) s.second);
    }

some-length : (n e : ℤ) → (◌≡◌ {A = Vector} (record { north = n; east = e }) (plain 0 0) → ⊥) → 0 < nat_abs n * nat_abs n + nat_abs e * nat_abs e
some-length (pos zero) (pos zero) h = absurd (h refl)
some-length (pos zero) (pos (suc e)) h = omega arith
some-length (pos zero) (negsuc e) h = omega arith
some-length (pos (suc n)) e h = omega arith
some-length (negsuc n) e h = omega arith

beyond-right : (a : Vector) → (a ≡ plain 0 0 → ⊥) → pos 0 <ℤ cross a (beyond a)
unfolding cross beyond
beyond-right a h =
    let n = v a.north in
    let e = v a.east in
    let m = nat_abs a.north in
    let k = nat_abs a.east in
    lt (lit 0) (sub (mul n (sub (mul (lit 5) n) e)) (mul e (sub (neg (mul (lit 5) e)) n)))
    (omega (arith, some-length a.north a.east h, same_of (mul n n) (lit (m * m)) (square a.north), same_of (mul e e) (lit (k * k)) (square a.east)))

module _ (a b : Vector) (side : pos 0 ≤ℤ cross a b) (short : pos 0 <ℤ cross b (beyond a)) where
  some : a ≡ plain 0 0 → ⊥
  unfolding cross beyond
  some e =
      <ℤ_irrefl (subst (λ (z : ℤ). pos 0 <ℤ z) (same (sub (mul (v b.north) (lit 0)) (mul (v b.east) (lit 0))) (lit 0) (omega arith))
      (subst (λ (u : Vector). pos 0 <ℤ cross b (beyond u)) e short))

  pub at-most-easy : Past b (bearing_of a) 1169
  unfolding test
  at-most-easy =
      let k = bearing_of a in
      let u = edge_of k in
      let w = edge_of (suc k) in
      let d = edge_of (k + 1169) in
      let p = apart_of u w d (every-unit k) in
      let h = bearing-is a some in
      let unit : Spanned u w a = record { whole = p.wide; first = turned-back a w h.upto; second = h.from } in
      let on = beyond-spanned u w a unit in
      let turn : Spanned a (beyond a) b = record { whole = beyond-right a some; first = short; second = side } in
      between b k 1169
      (span_right a (beyond a) b u turn h.from (span_right (beyond u) (beyond w) (beyond a) u on p.ahead.0 p.ahead.1))
      (span_left a (beyond a) b d turn (span_left u w a d unit p.behind.0 p.behind.1)
      (lt-le (span_left (beyond u) (beyond w) (beyond a) d on p.past.0 p.past.1)))
