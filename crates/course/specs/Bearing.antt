-- Clauses 2.6, 2.7: bearing and signed bearing. Assumes nothing.
use Rattle.std.specs.Prelude.{◌≡◌, Bool, ◌&&◌, ℕ, zero, suc, ◌+◌, ◌-◌, ◌*◌, ◌%◌, ◌^◌, ◌≤◌, ◌<◌, leb, ltb, ℤ, pos, negsuc, ◌-ℤ◌, ◌≤ℤ◌, ◌<ℤ◌}
use Rattle.conditions.specs.Choose.{choose}
use Rattle.course.specs.declared.Vector.{Vector}
use Rattle.course.specs.Table.{sine_of}
use Rattle.course.specs.Vectors.{plain, cross}
use Rattle.course.specs.Direction.{direction_of}

-- the edge of unit k: where the vectors of bearing k begin. The next edge ends them.
unfoldable pub edge_of : ℕ → Vector
edge_of k = direction_of k

-- 2.6: v has reached the edge of unit k and not that of the unit after it; after 4095 comes 0. What a reader has to believe; `bearing` promises
-- it of its answer, and that no other k is one.
pub record IsBearing (v : Vector) (k : ℕ) : Type 0 where
  pub round : k < 4096
  pub from : pos 0 ≤ℤ cross (edge_of k) v
  pub upto : cross (edge_of (suc k)) v <ℤ pos 0

-- ---- the bearing as a number that computes

-- the edges of the first quarter, j = 1..1024, in naturals
unfoldable pub edge_north : ℕ → ℕ
edge_north j = sine_of (1024 - j)

unfoldable pub edge_east : ℕ → ℕ
edge_east j = sine_of j

-- whether (a, b) has reached edge j of the first quarter
unfoldable pub reaches : ℕ → ℕ → ℕ → Bool
reaches a b j = leb j 1024 && leb (edge_east j * a) (edge_north j * b)

-- from t up to the last number that passes, by k binary digits
unfoldable pub climb : (ℕ → Bool) → ℕ → ℕ → ℕ
climb f zero t = t
climb f (suc k) t = choose (f (t + 2 ^ k)) (climb f k (t + 2 ^ k)) (climb f k t)

-- the bearing of (a, b) turned by q quarters
unfoldable pub bearing_in : ℕ → ℕ → ℕ → ℕ
bearing_in q a b = (1024 * q + climb (reaches a b) 11 0) % 4096

unfoldable pub bearing_by : ℤ → ℤ → ℕ
bearing_by (pos zero) (pos zero) = 0
bearing_by (pos zero) (pos (suc e)) = bearing_in 1 (suc e) 0
bearing_by (pos (suc n)) (pos e) = bearing_in 0 (suc n) e
bearing_by (pos zero) (negsuc e) = bearing_in 3 (suc e) 0
bearing_by (pos (suc n)) (negsuc e) = bearing_in 3 (suc e) (suc n)
bearing_by (negsuc n) (pos zero) = bearing_in 2 (suc n) 0
bearing_by (negsuc n) (pos (suc e)) = bearing_in 1 (suc e) (suc n)
bearing_by (negsuc n) (negsuc e) = bearing_in 2 (suc n) (suc e)

-- the bearing of v, and 0 of (0, 0)
unfoldable pub bearing_of : Vector → ℕ
bearing_of v = bearing_by v.north v.east

-- 2.7: from −2048 to 2047
pub record IsSigned (z : ℤ) : Type 0 where
  pub least : negsuc 2047 ≤ℤ z
  pub most : z ≤ℤ pos 2047

unfoldable pub signed_course : ℕ → ℤ
signed_course k = choose (ltb k 2048) (pos k) (pos k -ℤ pos 4096)

abbrev pub signed_bearing_of : Vector → ℤ
signed_bearing_of v = signed_course (bearing_of v)

-- ---- what the functions promise

-- for proofs alone: t is how many of the first quarter's edges (a, b) has reached
pub record Reached (a b t : ℕ) : Type 0 where
  pub most : t ≤ 1024
  pub from : 1 ≤ t → edge_east t * a ≤ edge_north t * b
  pub upto : t < 1024 → edge_north (suc t) * b < edge_east (suc t) * a

-- r is the bearing of v: the value of bearing_of, and the only number that meets 2.6. D(k) itself bears k.
pub record Bears (v : Vector) (r : ℕ) : Type 0 where
  pub value : r ≡ bearing_of v
  pub low : r < 4096
  pub holds : (v ≡ plain 0 0 → ⊥) → IsBearing v r
  pub only : (k : ℕ) → IsBearing v k → k ≡ r
  pub nought : v ≡ plain 0 0 → r ≡ 0
  pub own : (k : ℕ) → k < 4096 → v ≡ direction_of k → r ≡ k
