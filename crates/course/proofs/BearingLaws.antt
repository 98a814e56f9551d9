-- bearing_of v is the one k with IsBearing v k, for every v but (0, 0), where it is 0. Assumes nothing.
use mathlib.Core.Path.{◌≡◌, refl, sym, ap, ◌∙◌, subst}
use mathlib.Core.Logic.{inl, inr, ⊎_elim}
use mathlib.Core.Bool.{Bool, true, false, ◌&&◌}
use Prim.Native.Nat.{ℕ, zero, suc, ◌+◌, ◌*◌, ◌-◌, ◌%◌, ◌^◌, ◌≤◌, ◌<◌}
use native.Mathlib.Omega.{arith}
use native.Mathlib.Decide.{dec_lt}
use lib.Dec.{T, leb, ltb, leb→le, le→leb}
use lib.IntN.{ℤ, pos, negsuc, ◌-ℤ◌}
use lib.Signed.{◌<ℤ◌, <ℤ_irrefl}
use borrow.Author.Tests.{lt-ltb, le-ltb}
use Rattle.conditions.specs.Choose.{choose}
use Rattle.conditions.proofs.ChooseLaws.{choose-true, choose-false}
use Rattle.integers.specs.Bounds.{Within}
use Rattle.integers.proofs.Ring.{v, lit, sub, mul, same, le, le_of, lt, within-range}
use Rattle.course.specs.declared.Vector.{Vector}
use Rattle.course.specs.Vectors.{plain, cross}
use Rattle.course.specs.Direction.{quarter, turned, direction_of}
use Rattle.course.specs.Bearing.{edge_of, edge_north, edge_east, Reached, IsBearing, reaches, climb, bearing_in, bearing_by, bearing_of, signed_course, signed_bearing_of, IsSigned, Bears}
use Rattle.course.proofs.TableLaws.{and_left, and_right}
use Rattle.course.proofs.DirectionLaws.{table-facts}
use Rattle.course.proofs.SectorLaws.{Shifted, sector-is, sector-only}

-- ---- the climb stops at a number that passes, and the next one does not
record Climbed (f : ℕ → Bool) (r : ℕ) : Type 0 where
  from : 1 ≤ r → T (f r)
  upto : T (f (suc r)) → ⊥

by-test : (f : ℕ → Bool) (x y : ℕ) (t : Bool) → (T t → Climbed f x) → ((T t → ⊥) → Climbed f y) → Climbed f (choose t x y)
unfolding choose
by-test f x y true g h = g tt
by-test f x y false g h = h (λ z. z)

climbed : (f : ℕ → Bool) (k t : ℕ) → (1 ≤ t → T (f t)) → (T (f (t + 2 ^ k)) → ⊥) → Climbed f (climb f k t)
unfolding climb
climbed f zero t h u = record { from = h; upto = λ x. u (subst (λ (m : ℕ). T (f m)) {x = suc t} {y = t + 1} (omega arith) x) }
climbed f (suc k) t h u =
    by-test f (climb f k (t + 2 ^ k)) (climb f k t) (f (t + 2 ^ k))
    (λ x. climbed f k (t + 2 ^ k) (λ y. x) (λ z. u (subst (λ (m : ℕ). T (f m)) {x = t + 2 ^ k + 2 ^ k} {y = t + 2 ^ suc k} (omega arith) z)))
    (λ x. climbed f k t h x)

and_both : (s t : Bool) → T s → T t → T (s && t)
and_both true t x y = y
and_both false t x y = absurd x

module _ (a b : ℕ) where
  last : ℕ
  last = climb (reaches a b) 11 0

  passes : (j : ℕ) → T (reaches a b j) → (j ≤ 1024) × (edge_east j * a ≤ edge_north j * b)
  unfolding reaches
  passes j t =
      let e = edge_east j * a in
      let n = edge_north j * b in
      (leb→le j 1024 (and_left (leb j 1024) (leb e n) t), leb→le e n (and_right (leb j 1024) (leb e n) t))

  stops : Climbed (reaches a b) last
  unfolding last
  stops = climbed (reaches a b) 11 0 (λ h. absurd (omega arith)) (λ t. omega (arith, (passes 2048 t).0))

  most-dec : Dec (0 < last) → last ≤ 1024
  most-dec (yes p) = (passes last (stops.from p)).0
  most-dec (no p) = omega arith

  upto-dec : last < 1024 → Dec (edge_north (suc last) * b < edge_east (suc last) * a) → edge_north (suc last) * b < edge_east (suc last) * a
  unfolding reaches
  upto-dec h (yes p) = p
  upto-dec h (no p) =
      let e = edge_east (suc last) * a in
      let n = edge_north (suc last) * b in
      absurd (stops.upto (and_both (leb (suc last) 1024) (leb e n) (le→leb (suc last) 1024 h) (le→leb e n (omega arith))))

  reached : Reached a b last
  reached =
      record {
        most = most-dec (dec_lt 0 last);
        from = λ h. (passes last (stops.from h)).1;
        upto = λ h. upto-dec h (dec_lt (edge_north (suc last) * b) (edge_east (suc last) * a));
      }

-- ---- the bearing of (a, b) turned by q quarters, from how many edges it has reached
-- k in the first quarter's terms
record Unshifted (q k : ℕ) : Type 0 where
  i : ℕ
  low : i < 4096
  this : Shifted q k i
  next : Shifted q (suc k) (suc i)

unshifted : (q k : ℕ) → q < 4 → k < 4096 → Dec (k < 1024 * q) → Unshifted q k
unshifted q k h l (yes p) = record { i = k + 4096 - 1024 * q; low = omega arith; this = inr (omega arith); next = inr (omega arith) }
unshifted q k h l (no p) = record { i = k - 1024 * q; low = omega arith; this = inl (omega arith); next = inl (omega arith) }

module _ (a b t q : ℕ) (ha : 0 < a) (z : Reached a b t) (hq : q < 4) where
  here : Dec (t + 1024 * q < 4096) → Shifted q ((1024 * q + t) % 4096) t × Shifted q (suc ((1024 * q + t) % 4096)) (suc t)
  here (yes p) = (inl (omega arith), inl (omega arith))
  here (no p) = let m : t ≤ 1024 = z.most in (inr (omega arith), inr (omega arith))

  quarter-is : IsBearing (turned q (plain a b)) ((1024 * q + t) % 4096)
  quarter-is =
      let s = here (dec_lt (t + 1024 * q) 4096) in
      sector-is a b ha t z q ((1024 * q + t) % 4096) (omega arith) s.0 s.1

  same-unit : (m i : ℕ) → m < 4096 → i ≡ t → Shifted q m i → m ≡ (1024 * q + t) % 4096
  same-unit m i h e s =
      let l : t ≤ 1024 = z.most in
      ⊎_elim (λ (x : i + 1024 * q ≡ m). omega arith) (λ (x : i + 1024 * q ≡ m + 4096). omega arith) s

  quarter-only : (m : ℕ) → IsBearing (turned q (plain a b)) m → m ≡ (1024 * q + t) % 4096
  quarter-only m r =
      let i = unshifted q m hq r.round (dec_lt m (1024 * q)) in
      same-unit m i.i r.round (sector-only a b ha t z q m i.i i.low i.this i.next r) i.this

-- ---- (0, 0) has no bearing
cross-nought : (u : Vector) → cross u (plain 0 0) ≡ pos 0
unfolding cross
cross-nought u = same (sub (mul (v u.north) (lit 0)) (mul (v u.east) (lit 0))) (lit 0) (omega arith)

not-nought : (w : Vector) (k : ℕ) → IsBearing w k → w ≡ plain 0 0 → ⊥
not-nought w k r e =
    <ℤ_irrefl (subst (λ (z : ℤ). z <ℤ pos 0) (cross-nought (edge_of (suc k))) (subst (λ (u : Vector). cross (edge_of (suc k)) u <ℤ pos 0) e r.upto))

-- ---- any other vector is a quarter turn of (a, b), a > 0, and its bearing is worked out from there
record Turned (w : Vector) : Type 0 where
  q : ℕ
  a : ℕ
  b : ℕ
  few : q < 4
  some : 0 < a
  same : turned q (plain a b) ≡ w
  value : bearing_in q a b ≡ bearing_of w

split : (n e : ℤ) → (◌≡◌ {A = Vector} (record { north = n; east = e }) (plain 0 0) → ⊥) → Turned (record { north = n; east = e })
unfolding turned quarter bearing_of bearing_by
split (pos zero) (pos zero) h = absurd (h refl)
split (pos zero) (pos (suc e)) h = record { q = 1; a = suc e; b = 0; few = omega arith; some = omega arith; same = refl; value = refl }
split (pos (suc n)) (pos e) h = record { q = 0; a = suc n; b = e; few = omega arith; some = omega arith; same = refl; value = refl }
split (pos zero) (negsuc e) h = record { q = 3; a = suc e; b = 0; few = omega arith; some = omega arith; same = refl; value = refl }
split (pos (suc n)) (negsuc e) h = record { q = 3; a = suc e; b = suc n; few = omega arith; some = omega arith; same = refl; value = refl }
split (negsuc n) (pos zero) h = record { q = 2; a = suc n; b = 0; few = omega arith; some = omega arith; same = refl; value = refl }
split (negsuc n) (pos (suc e)) h = record { q = 1; a = suc e; b = suc n; few = omega arith; some = omega arith; same = refl; value = refl }
split (negsuc n) (negsuc e) h = record { q = 2; a = suc n; b = suc e; few = omega arith; some = omega arith; same = refl; value = refl }

-- ---- the laws
pub bearing-is : (w : Vector) → (w ≡ plain 0 0 → ⊥) → IsBearing w (bearing_of w)
unfolding bearing_in last
bearing-is w h =
    let s = split w.north w.east h in
    let a = s.a in
    let b = s.b in
    subst (IsBearing w) s.value
    (subst (λ (u : Vector). IsBearing u (bearing_in s.q a b)) s.same (quarter-is a b (last a b) s.q s.some (reached a b) s.few))

pub bearing-only : (w : Vector) (k : ℕ) → IsBearing w k → k ≡ bearing_of w
unfolding bearing_in last
bearing-only w k r =
    let s = split w.north w.east (not-nought w k r) in
    let a = s.a in
    let b = s.b in
    quarter-only a b (last a b) s.q s.some (reached a b) s.few k (subst (λ (u : Vector). IsBearing u k) (sym s.same) r) ∙ s.value

-- D(k) lies on the edge of its own unit, and the next edge lies past it
direction-is : (k : ℕ) → k < 4096 → IsBearing (direction_of k) k
unfolding edge_of cross
direction-is k h =
    let u = direction_of k in
    let w = direction_of (suc k) in
    let turn = sub (mul (v u.north) (v w.east)) (mul (v u.east) (v w.north)) in
    record {
      round = h;
      from = le (lit 0) (sub (mul (v u.north) (v u.east)) (mul (v u.east) (v u.north))) (omega arith);
      upto = lt (sub (mul (v w.north) (v u.east)) (mul (v w.east) (v u.north))) (lit 0) (omega (arith, le_of (lit 388000) turn (table-facts.apart k)));
    }

direction-bears : (k : ℕ) → k < 4096 → bearing_of (direction_of k) ≡ k
direction-bears k h = sym (bearing-only (direction_of k) k (direction-is k h))

pub bearing-nought : bearing_of (plain 0 0) ≡ 0
unfolding bearing_of bearing_by
bearing-nought = refl

in-low : (q a b : ℕ) → bearing_in q a b < 4096
unfolding bearing_in
in-low q a b = omega arith

by-low : (n e : ℤ) → bearing_by n e < 4096
unfolding bearing_by
by-low (pos zero) (pos zero) = omega arith
by-low (pos zero) (pos (suc e)) = in-low 1 (suc e) 0
by-low (pos (suc n)) (pos e) = in-low 0 (suc n) e
by-low (pos zero) (negsuc e) = in-low 3 (suc e) 0
by-low (pos (suc n)) (negsuc e) = in-low 3 (suc e) (suc n)
by-low (negsuc n) (pos zero) = in-low 2 (suc n) 0
by-low (negsuc n) (pos (suc e)) = in-low 1 (suc e) (suc n)
by-low (negsuc n) (negsuc e) = in-low 2 (suc n) (suc e)

pub bearing-low : (w : Vector) → bearing_of w < 4096
unfolding bearing_of
bearing-low w = by-low w.north w.east

pub bears : (w : Vector) (r : ℕ) → r ≡ bearing_of w → Bears w r
bears w r e =
    record {
      value = e;
      low = subst (λ (k : ℕ). k < 4096) (sym e) (bearing-low w);
      holds = λ h. subst (λ (k : ℕ). IsBearing w k) (sym e) (bearing-is w h);
      only = λ k b. bearing-only w k b ∙ sym e;
      nought = λ h. e ∙ ap bearing_of h ∙ bearing-nought;
      own = λ k l h. e ∙ ap bearing_of h ∙ direction-bears k l;
    }

-- what the code works out
pub bearing-turned : (a b t q : ℕ) → 0 < a → Reached a b t → q < 4 → bearing_of (turned q (plain a b)) ≡ (1024 * q + t) % 4096
bearing-turned a b t q ha z hq = sym (bearing-only (turned q (plain a b)) ((1024 * q + t) % 4096) (quarter-is a b t q ha z hq))

-- ---- the signed bearing lies in −2048..2047
pub signed_low : (k : ℕ) → k < 2048 → signed_course k ≡ pos k
unfolding signed_course
signed_low k h = choose-true (ltb k 2048) (pos k) (pos k -ℤ pos 4096) (lt-ltb k 2048 h)

pub signed_high : (k : ℕ) → 2048 ≤ k → signed_course k ≡ pos k -ℤ pos 4096
unfolding signed_course
signed_high k h = choose-false (ltb k 2048) (pos k) (pos k -ℤ pos 4096) (le-ltb k 2048 h)

range-dec : (k : ℕ) → k < 4096 → Dec (k < 2048) → IsSigned (signed_course k)
range-dec k h (yes p) = rw (signed_low k p) (record { least = le (v (negsuc 2047)) (lit k) (omega arith); most = le (lit k) (lit 2047) (omega arith) })
range-dec k h (no p) =
    rw (signed_high k (omega arith)) (record { least = le (v (negsuc 2047)) (sub (lit k) (lit 4096)) (omega arith); most = le (sub (lit k) (lit 4096)) (lit 2047) (omega arith) })

pub signed_range : (w : Vector) → IsSigned (signed_bearing_of w)
signed_range w = range-dec (bearing_of w) (bearing-low w) (dec_lt (bearing_of w) 2048)

-- a number in that range has that bound
pub signed-within : (z : ℤ) → IsSigned z → Within 2048 z
signed-within z h = within-range 2048 z h.least (le (v z) (lit 2048) (omega (arith, le_of (v z) (lit 2047) h.most)))

-- the range of what an equation says
pub signed-carried : {r : ℤ} (w : Vector) → r ≡ signed_bearing_of w → IsSigned r
signed-carried w e = subst IsSigned (sym e) (signed_range w)

pub near-carried : {r : ℤ} (w : Vector) → r ≡ signed_bearing_of w → Within 2048 r
near-carried w e = signed-within _ (signed-carried w e)
