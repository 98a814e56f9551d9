-- Equations and orders of ℤ by `omega`. A number z is p − m for two naturals, and `Rep z p m` says so. The rules give p and m of a sum, a
-- difference and a product, so that an equation or an order of ℤ becomes one of ℕ, which `omega` proves, products of variables included:
--   cross-swap a b c d = same (sub (mul (v a) (v d)) (mul (v b) (v c))) (neg (sub (mul (v b) (v c)) (mul (v a) (v d)))) (omega arith)
-- `omega` takes at most 64 monomials. Assumes nothing.
use mathlib.Core.Path.{◌≡◌, refl, ap}
use mathlib.Core.Bool.{Bool, true, false, cond}
use Prim.Native.Nat.{ℕ, zero, suc, ◌+◌, ◌-◌, ◌*◌, ◌≤◌, ◌<◌}
use native.Mathlib.Omega.{arith}
use lib.Dec.{ltb, leb→le, le→leb, ltb→lt, lt→ltb}
use lib.IntN.{ℤ, pos, negsuc, neg_ℤ, sub_ℕ, ◌+ℤ◌, ◌-ℤ◌, ◌*ℤ◌}
use lib.Signed.{◌≤ℤ◌, ◌<ℤ◌}
use borrow.Author.Tests.{ltb-true, ltb-false}
use Rattle.integers.specs.Bounds.{Within}

abbrev pub up : ℤ → ℕ
up (pos n) = n
up (negsuc n) = 0

abbrev pub down : ℤ → ℕ
down (pos n) = 0
down (negsuc n) = suc n

pub record Rep (z : ℤ) (p m : ℕ) : Type 0 where
  pub balance : p + down z ≡ m + up z

-- ---- the shape of an expression: a variable, a literal, a sum, a negation, a difference, a product
pub v : (z : ℤ) → Rep z (up z) (down z)
v z = record { balance = omega arith }

pub lit : (n : ℕ) → Rep (pos n) n 0
lit n = record { balance = omega arith }

sub-balance : (a b : ℕ) → a + down (sub_ℕ a b) ≡ b + up (sub_ℕ a b)
sub-balance a b = when (ltb a b) refl
  where
    when : (t : Bool) → ltb a b ≡ t → a + down (cond t (negsuc (b - suc a)) (pos (a - b))) ≡ b + up (cond t (negsuc (b - suc a)) (pos (a - b)))
    when true e = omega (arith, ltb-true a b e)
    when false e = omega (arith, ltb-false a b e)

add-balance : (y z : ℤ) → up y + up z + down (y +ℤ z) ≡ down y + down z + up (y +ℤ z)
add-balance (pos a) (pos b) = omega arith
add-balance (pos a) (negsuc b) = omega (arith, sub-balance a (suc b))
add-balance (negsuc a) (pos b) = omega (arith, sub-balance b (suc a))
add-balance (negsuc a) (negsuc b) = omega arith

pub add : {y z : ℤ} {p m q n : ℕ} → Rep y p m → Rep z q n → Rep (y +ℤ z) (p + q) (m + n)
add {y} {z} h k = record { balance = omega (arith, add-balance y z, h.balance, k.balance) }

neg-up : (z : ℤ) → up (neg_ℤ z) ≡ down z
neg-up (pos zero) = refl
neg-up (pos (suc n)) = refl
neg-up (negsuc n) = refl

neg-down : (z : ℤ) → down (neg_ℤ z) ≡ up z
neg-down (pos zero) = refl
neg-down (pos (suc n)) = refl
neg-down (negsuc n) = refl

pub neg : {z : ℤ} {p m : ℕ} → Rep z p m → Rep (neg_ℤ z) m p
neg {z} h = record { balance = omega (arith, neg-up z, neg-down z, h.balance) }

pub sub : {y z : ℤ} {p m q n : ℕ} → Rep y p m → Rep z q n → Rep (y -ℤ z) (p + n) (m + q)
sub h k = add h (neg k)

neg-parts : (n : ℕ) → (up (neg_ℤ (pos n)) ≡ 0) × (down (neg_ℤ (pos n)) ≡ n)
neg-parts n = (neg-up (pos n), neg-down (pos n))

mul-balance : (y z : ℤ) → up y * up z + down y * down z + down (y *ℤ z) ≡ up y * down z + down y * up z + up (y *ℤ z)
mul-balance (pos a) (pos b) = omega arith
mul-balance (pos a) (negsuc b) = omega (arith, neg-parts (a * suc b))
mul-balance (negsuc a) (pos b) = omega (arith, neg-parts (suc a * b))
mul-balance (negsuc a) (negsuc b) = omega arith

-- p and m are up z and down z, or both more by one number
excess : (z : ℤ) (p m : ℕ) → p + down z ≡ m + up z → (k : ℕ) × ((p ≡ up z + k) × (m ≡ down z + k))
excess (pos a) p m e = (m, (omega arith, omega arith))
excess (negsuc a) p m e = (p, (omega arith, omega arith))

shifted : (a b c d u w j k : ℕ) → a * c + b * d + u ≡ a * d + b * c + w
    → (a + j) * (c + k) + (b + j) * (d + k) + u ≡ (a + j) * (d + k) + (b + j) * (c + k) + w
shifted a b c d u w j k e = omega arith

moved : (a b c d u w j k p m q n : ℕ) → p ≡ a + j → m ≡ b + j → q ≡ c + k → n ≡ d + k → a * c + b * d + u ≡ a * d + b * c + w
    → p * q + m * n + u ≡ p * n + m * q + w
moved a b c d u w j k p m q n e₁ e₂ e₃ e₄ e = rw (e₁, e₂, e₃, e₄) (shifted a b c d u w j k e)

pub mul : {y z : ℤ} {p m q n : ℕ} → Rep y p m → Rep z q n → Rep (y *ℤ z) (p * q + m * n) (p * n + m * q)
mul {y} {z} {p} {m} {q} {n} h k =
    let a = excess y p m h.balance in
    let b = excess z q n k.balance in
    record {
      balance =
          moved (up y) (down y) (up z) (down z) (down (y *ℤ z)) (up (y *ℤ z)) a.0 b.0 p m q n a.1.0 a.1.1 b.1.0 b.1.1 (mul-balance y z);
    }

-- ---- equations
eq-parts : (y z : ℤ) → up y + down z ≡ up z + down y → y ≡ z
eq-parts (pos a) (pos b) e = ap pos (omega arith)
eq-parts (pos a) (negsuc b) e = absurd (omega arith)
eq-parts (negsuc a) (pos b) e = absurd (omega arith)
eq-parts (negsuc a) (negsuc b) e = ap negsuc (omega arith)

pub same : {y z : ℤ} {p m q n : ℕ} → Rep y p m → Rep z q n → p + n ≡ q + m → y ≡ z
same {y} {z} h k e = eq-parts y z (omega (arith, h.balance, k.balance))

-- and back: an equation of ℤ as one of ℕ
pub same_of : {y z : ℤ} {p m q n : ℕ} → Rep y p m → Rep z q n → y ≡ z → p + n ≡ q + m
same_of {y} {z} h k e = omega (arith, h.balance, k.balance, ap up e, ap down e)

-- ---- orders: `le` and `lt` prove one, `le_of` and `lt_of` read one
le_parts : (y z : ℤ) → up y + down z ≤ up z + down y → y ≤ℤ z
le_parts (pos a) (pos b) h = record { le = le→leb a b (omega arith) }
le_parts (pos a) (negsuc b) h = absurd (omega arith)
le_parts (negsuc a) (pos b) h = record { le = tt }
le_parts (negsuc a) (negsuc b) h = record { le = le→leb b a (omega arith) }

parts-le : (y z : ℤ) → y ≤ℤ z → up y + down z ≤ up z + down y
parts-le (pos a) (pos b) h = omega (arith, leb→le a b h.le)
parts-le (pos a) (negsuc b) h = absurd h.le
parts-le (negsuc a) (pos b) h = omega arith
parts-le (negsuc a) (negsuc b) h = omega (arith, leb→le b a h.le)

lt-parts : (y z : ℤ) → up y + down z < up z + down y → y <ℤ z
lt-parts (pos a) (pos b) h = record { lt = lt→ltb a b (omega arith) }
lt-parts (pos a) (negsuc b) h = absurd (omega arith)
lt-parts (negsuc a) (pos b) h = record { lt = tt }
lt-parts (negsuc a) (negsuc b) h = record { lt = lt→ltb b a (omega arith) }

parts-lt : (y z : ℤ) → y <ℤ z → up y + down z < up z + down y
parts-lt (pos a) (pos b) h = omega (arith, ltb→lt a b h.lt)
parts-lt (pos a) (negsuc b) h = absurd h.lt
parts-lt (negsuc a) (pos b) h = omega arith
parts-lt (negsuc a) (negsuc b) h = omega (arith, ltb→lt b a h.lt)

pub le : {y z : ℤ} {p m q n : ℕ} → Rep y p m → Rep z q n → p + n ≤ q + m → y ≤ℤ z
le {y} {z} h k e = le_parts y z (omega (arith, h.balance, k.balance))

pub le_of : {y z : ℤ} {p m q n : ℕ} → Rep y p m → Rep z q n → y ≤ℤ z → p + n ≤ q + m
le_of {y} {z} h k e = omega (arith, h.balance, k.balance, parts-le y z e)

pub lt : {y z : ℤ} {p m q n : ℕ} → Rep y p m → Rep z q n → p + n < q + m → y <ℤ z
lt {y} {z} h k e = lt-parts y z (omega (arith, h.balance, k.balance))

pub lt_of : {y z : ℤ} {p m q n : ℕ} → Rep y p m → Rep z q n → y <ℤ z → p + n < q + m
lt_of {y} {z} h k e = omega (arith, h.balance, k.balance, parts-lt y z e)

pub lt-le : {y z : ℤ} → y <ℤ z → y ≤ℤ z
lt-le {y} {z} h = le (v y) (v z) (omega (arith, lt_of (v y) (v z) h))

-- a range on both sides of 0 is a bound
pub within-range : (n : ℕ) (z : ℤ) → neg_ℤ (pos n) ≤ℤ z → z ≤ℤ pos n → Within n z
within-range n (pos k) h l = record { within = omega (arith, le_of (lit k) (lit n) l) }
within-range n (negsuc k) h l = record { within = omega (arith, le_of (neg (lit n)) (v (negsuc k)) h) }

-- ---- differences of naturals
-- the difference of two naturals, where it is not negative
pub diff-le : (x y : ℕ) → y ≤ x → pos x -ℤ pos y ≡ pos (x - y)
diff-le x y h = same (sub (lit x) (lit y)) (lit (x - y)) (omega arith)

-- the sign of a difference of naturals is their order
pub diff-nonneg : (x y : ℕ) → y ≤ x → pos 0 ≤ℤ (pos x -ℤ pos y)
diff-nonneg x y h = le (lit 0) (sub (lit x) (lit y)) (omega arith)

pub diff-negative : (x y : ℕ) → x < y → (pos x -ℤ pos y) <ℤ pos 0
diff-negative x y h = lt (sub (lit x) (lit y)) (lit 0) (omega arith)

pub nonneg-diff : (x y : ℕ) → pos 0 ≤ℤ (pos x -ℤ pos y) → y ≤ x
nonneg-diff x y h = omega (arith, le_of (lit 0) (sub (lit x) (lit y)) h)

pub negative-diff : (x y : ℕ) → (pos x -ℤ pos y) <ℤ pos 0 → x < y
negative-diff x y h = omega (arith, lt_of (sub (lit x) (lit y)) (lit 0) h)
