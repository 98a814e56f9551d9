-- Bounds of signed numbers, and by them that a signed operation of the code does not overflow.
--   Within n z   |z| ≤ n: what a contract says
--   Bits k z     |z| ≤ 2 ^ k: what the search goes by. A sum asks k - 1 of its parts and a product k / 2, so that each step's number is
--                read off the goal.
-- The sets at the end are for `search`. A signed local holds bits and is read back as to_z w (of_z w z). Assumes nothing.
use mathlib.Core.Path.{◌≡◌, sym, subst, ◌∙◌}
use mathlib.Core.Bool.{cond}
use Prim.Native.Nat.{ℕ, zero, suc, ◌+◌, ◌-◌, ◌*◌, ◌/◌, ◌^◌, ◌≤◌, ◌<◌, min}
use native.Mathlib.Nat.{min-le_left, min-le_right, le_trans, le_of_eq, mul-le-mul, add-le-add, le_refl, lt_of_le_of_lt, div-mul-le_self, div-le_self, mod-le}
use native.Mathlib.Omega.{arith}
use lib.Dec.{lit<, T, ltb, leb, leb→le, ltb→lt}
use lib.Pow.{pow_mono, pow-add}
use lib.IntN.{ℤ, pos, neg_ℤ, nat_abs, ◌+ℤ◌, ◌-ℤ◌, ◌*ℤ◌, +ℤ_idl}
use lib.Signed.{mag, quot_z, rem_z, nat_abs-le}
use mir.Syntax.{Width, w8, w16, w32, w64, w128}
use mir.Val.{SFits, hbits, to_z, of_z}
use mir.Facts.{to_z-of_z}
use mir.ValLaws.{to_z_pos}
use Rattle.integers.specs.Bounds.{Within}
use Rattle.integers.proofs.Magnitudes.{abs_neg, abs-add, abs-mul, abs-quot, abs-rem, mag-le}

pub record Bits (k : ℕ) (z : ℤ) : Type 0 where
  pub bits : nat_abs z ≤ 2 ^ k

-- ---- Bits, by the operation
pub bits-within : {n k : ℕ} {z : ℤ} → Within n z → T (leb n (2 ^ k)) → Bits k z
bits-within {n} {k} h t = record { bits = le_trans h.within (leb→le n (2 ^ k) t) }

pub bits-weaken : {j k : ℕ} {z : ℤ} → Bits j z → T (leb j k) → Bits k z
bits-weaken {j} {k} h t = record { bits = le_trans h.bits (pow_mono (leb→le j k t)) }

pub bits-lit : {k : ℕ} {z : ℤ} → T (leb (nat_abs z) (2 ^ k)) → Bits k z
bits-lit {k} {z} t = record { bits = leb→le (nat_abs z) (2 ^ k) t }

half_pow : (k : ℕ) → zero < k → 2 ^ (k - 1) + 2 ^ (k - 1) ≤ 2 ^ k
half_pow zero h = elim h [ ]
half_pow (suc k) h = subst (λ (j : ℕ). 2 ^ j + 2 ^ j ≤ 2 ^ suc k) (sym (less k)) (omega arith)
  where
    less : (k : ℕ) → suc k - 1 ≡ k
    less k = omega arith

pub bits-add : {k : ℕ} {y z : ℤ} → T (ltb zero k) → Bits (k - 1) y → Bits (k - 1) z → Bits k (y +ℤ z)
bits-add {k} {y} {z} t hy hz = record { bits = le_trans (abs-add y z) (le_trans (add-le-add hy.bits hz.bits) (half_pow k (ltb→lt zero k t))) }

pub bits-neg : {k : ℕ} {z : ℤ} → Bits k z → Bits k (neg_ℤ z)
bits-neg {k} {z} h = record { bits = subst (λ (m : ℕ). m ≤ 2 ^ k) (sym (abs_neg z)) h.bits }

-- `-x` in the code is 0 - x
pub bits-minus : {k : ℕ} {z : ℤ} → Bits k z → Bits k (pos zero +ℤ neg_ℤ z)
bits-minus {k} {z} h = subst (λ (y : ℤ). Bits k y) (sym (+ℤ_idl (neg_ℤ z))) (bits-neg h)

halves : (k : ℕ) → k / 2 + k / 2 ≤ k
halves k = omega (arith, div-mul-le_self k 2)

pub bits-mul : {k : ℕ} {y z : ℤ} → Bits (k / 2) y → Bits (k / 2) z → Bits k (y *ℤ z)
bits-mul {k} {y} {z} hy hz =
    record {
      bits =
          le_trans (le_of_eq (abs-mul y z))
          (le_trans (mul-le-mul hy.bits hz.bits) (le_trans (le_of_eq (sym (pow-add 2 (k / 2) (k / 2)))) (pow_mono (halves k))));
    }

pub bits-quot : {k : ℕ} {y : ℤ} (z : ℤ) → Bits k y → Bits k (quot_z y z)
bits-quot {k} {y} z h = record { bits = le_trans (le_of_eq (abs-quot y z)) (le_trans (div-le_self (nat_abs y) (nat_abs z)) h.bits) }

pub bits-rem : {k : ℕ} {y : ℤ} (z : ℤ) → Bits k y → Bits k (rem_z y z)
bits-rem {k} {y} z h = record { bits = le_trans (le_of_eq (abs-rem y z)) (le_trans (mod-le (nat_abs y) (nat_abs z)) h.bits) }

pub bits_pos : {j k n : ℕ} → n ≤ j → T (leb j (2 ^ k)) → Bits k (pos n)
bits_pos {j} {k} h t = record { bits = le_trans h (leb→le j (2 ^ k) t) }

-- ---- what an operation asks
half_lt : (w : Width) → 2 ^ (hbits w - 1) < 2 ^ hbits w
half_lt w8 = lit< tt
half_lt w16 = lit< tt
half_lt w32 = lit< tt
half_lt w64 = lit< tt
half_lt w128 = lit< tt

pub sfits-bits : {w : Width} {z : ℤ} → Bits (hbits w - 1) z → SFits w z
sfits-bits {w} {z} h = record { sfits = lt_of_le_of_lt (le_trans (mag-le z) h.bits) (half_lt w) }

-- of a struct's field and of a call's result the bound is at hand without the record
pub sfits-mag : {w : Width} {z : ℤ} → mag z < 2 ^ hbits w → SFits w z
sfits-mag p = record { sfits = p }

-- ---- through the machine's bits
pub back : (w : Width) (k : ℕ) {z : ℤ} → Bits (min k (hbits w - 1)) z → to_z w (of_z w z) ≡ z
back w k {z} h = to_z-of_z (sfits-bits (record { bits = le_trans h.bits (pow_mono (min-le_right k (hbits w - 1))) }))

pub bits-least : (k j : ℕ) {z : ℤ} → Bits (min k j) z → Bits k z
bits-least k j h = record { bits = le_trans h.bits (pow_mono (min-le_left k j)) }

pub bits_back : (w : Width) {k : ℕ} {z : ℤ} → Bits (min k (hbits w - 1)) z → Bits k (to_z w (of_z w z))
bits_back w {k} {z} h = subst (λ (y : ℤ). Bits k y) (sym (back w k h)) (bits-least k (hbits w - 1) h)

-- a number that is known to be small is read back as it is
pub kept : (w : Width) {n : ℕ} {z : ℤ} → Within n z → T (leb n (2 ^ (hbits w - 1))) → to_z w (of_z w z) ≡ z
kept w h t = to_z-of_z (sfits-bits (bits-within h t))

pub bits-var : (w : Width) {n k : ℕ} {z : ℤ} → Within n z → T (leb n (2 ^ (hbits w - 1))) → T (leb n (2 ^ k)) → Bits k (to_z w (of_z w z))
bits-var w {n} {k} {z} h t u = subst (λ (y : ℤ). Bits k y) (sym (kept w h t)) (bits-within h u)

-- by the type alone: an i32 is at most 2 ^ 31
pub bits-type : (w : Width) {k : ℕ} {z : ℤ} → SFits w z → T (leb (hbits w) k) → Bits k z
bits-type w {k} {z} f t = record { bits = le_trans (nat_abs-le z f.sfits) (pow_mono (leb→le (hbits w) k t)) }

pub bits-typed : (w : Width) {k : ℕ} {z : ℤ} → SFits w z → T (leb (hbits w) k) → Bits k (to_z w (of_z w z))
bits-typed w {k} {z} f t = subst (λ (y : ℤ). Bits k y) (sym (to_z-of_z f)) (bits-type w f t)

-- an unsigned number that was cast
pub cast-nat : (w : Width) {j n : ℕ} → n ≤ j → T (leb j (2 ^ (hbits w - 1))) → to_z w n ≡ pos n
cast-nat w {j} {n} h t = to_z_pos w n (lt_of_le_of_lt (le_trans h (leb→le j (2 ^ (hbits w - 1)) t)) (half_lt w))

pub bits-nat : (w : Width) {j k n : ℕ} → n ≤ j → T (leb j (2 ^ (hbits w - 1))) → T (leb j (2 ^ k)) → Bits k (to_z w n)
bits-nat w {j} {k} {n} h t u = subst (λ (y : ℤ). Bits k y) (sym (cast-nat w h t)) (bits_pos h u)

-- ---- uneven products: a factor that is a literal, or whose bound is at hand, and the rest of the bits for the other
abbrev pub lg_from : ℕ → ℕ → ℕ → ℕ
lg_from zero j n = j
lg_from (suc f) j n = cond (leb n (2 ^ j)) j (lg_from f (suc j) n)

-- the least j with n ≤ 2 ^ j; nothing is proved of it, since each rule checks its numbers
abbrev pub lg : ℕ → ℕ
lg n = lg_from 64 0 n

pub uneven-mul : (y z : ℤ) (m j k : ℕ) → nat_abs y ≤ m → Bits j z → T (leb (m * 2 ^ j) (2 ^ k)) → Bits k (y *ℤ z)
uneven-mul y z m j k h b t = record { bits = le_trans (le_of_eq (abs-mul y z)) (le_trans (mul-le-mul h b.bits) (leb→le (m * 2 ^ j) (2 ^ k) t)) }

pub bits-times : (n : ℕ) {k : ℕ} {z : ℤ} → T (leb (n * 2 ^ (k - lg n)) (2 ^ k)) → Bits (k - lg n) z → Bits k (pos n *ℤ z)
bits-times n {k} {z} t h = uneven-mul (pos n) z n (k - lg n) k (le_refl n) h t

pub bits_left : (w : Width) {m k : ℕ} {y z : ℤ} → Within m y → T (leb m (2 ^ (hbits w - 1))) → T (leb (m * 2 ^ (k - lg m)) (2 ^ k)) → Bits (k - lg m) z
    → Bits k (to_z w (of_z w y) *ℤ z)
bits_left w {m} {k} {y} {z} h u t b =
    subst (λ (x : ℤ). Bits k (x *ℤ z)) (sym (kept w h u)) (uneven-mul y z m (k - lg m) k h.within b t)

-- ---- Within, by the operation
pub within-weaken : {m n : ℕ} {z : ℤ} → Within m z → T (leb m n) → Within n z
within-weaken {m} {n} h t = record { within = le_trans h.within (leb→le m n t) }

pub within-lit : {n : ℕ} {z : ℤ} → T (leb (nat_abs z) n) → Within n z
within-lit {n} {z} t = record { within = leb→le (nat_abs z) n t }

pub within-neg : {n : ℕ} {z : ℤ} → Within n z → Within n (neg_ℤ z)
within-neg {n} {z} h = record { within = subst (λ (m : ℕ). m ≤ n) (sym (abs_neg z)) h.within }

pub within-minus : {n : ℕ} {z : ℤ} → Within n z → Within n (pos zero +ℤ neg_ℤ z)
within-minus {n} {z} h = subst (λ (y : ℤ). Within n y) (sym (+ℤ_idl (neg_ℤ z))) (within-neg h)

pub within-add : {n : ℕ} {y z : ℤ} → Within (n / 2) y → Within (n / 2) z → Within n (y +ℤ z)
within-add {n} {y} {z} hy hz = record { within = omega (arith, abs-add y z, hy.within, hz.within, div-mul-le_self n 2) }

pub within-pos : {j k n : ℕ} → n ≤ j → T (leb j k) → Within k (pos n)
within-pos {j} {k} h t = record { within = le_trans h (leb→le j k t) }

pub within-nat : (w : Width) {j k n : ℕ} → n ≤ j → T (leb j (2 ^ (hbits w - 1))) → T (leb j k) → Within k (to_z w n)
within-nat w {j} {k} {n} h t u = subst (λ (y : ℤ). Within k y) (sym (cast-nat w h t)) (within-pos h u)

pub within-back : (w : Width) {n : ℕ} {z : ℤ} → T (leb n (2 ^ (hbits w - 1))) → Within n z → Within n (to_z w (of_z w z))
within-back w {n} {z} t h = subst (λ (y : ℤ). Within n y) (sym (kept w h t)) h

pub within_var : (w : Width) {m n : ℕ} {z : ℤ} → Within m z → T (leb m (2 ^ (hbits w - 1))) → T (leb m n) → Within n (to_z w (of_z w z))
within_var w {m} {n} {z} h t u = subst (λ (y : ℤ). Within n y) (sym (kept w h t)) (within-weaken h u)

pub within-typed : (w : Width) {n : ℕ} {z : ℤ} → SFits w z → T (leb (2 ^ hbits w) n) → Within n (to_z w (of_z w z))
within-typed w {n} {z} f t =
    subst (λ (y : ℤ). Within n y) (sym (to_z-of_z f)) (record { within = le_trans (nat_abs-le z f.sfits) (leb→le (2 ^ hbits w) n t) })

-- ---- by hand, where the search would have to guess a number
pub bits-is-within : (k : ℕ) {n : ℕ} {z : ℤ} → T (leb (2 ^ k) n) → Bits k z → Within n z
bits-is-within k {n} t h = record { within = le_trans h.bits (leb→le (2 ^ k) n t) }

pub within-le : {m n : ℕ} {z : ℤ} → m ≤ n → Within m z → Within n z
within-le l h = record { within = le_trans h.within l }

pub within-plus : (y z : ℤ) {m n : ℕ} → Within m y → Within n z → Within (m + n) (y +ℤ z)
within-plus y z h k = record { within = le_trans (abs-add y z) (add-le-add h.within k.within) }

pub within-less : (y z : ℤ) {m n : ℕ} → Within m y → Within n z → Within (m + n) (y -ℤ z)
within-less y z h k = within-plus y (neg_ℤ z) h (within-neg k)

pub within-mul : (y z : ℤ) {m n : ℕ} → Within m y → Within n z → Within (m * n) (y *ℤ z)
within-mul y z {m} {n} h k = record { within = le_trans (le_of_eq (abs-mul y z)) (mul-le-mul h.within k.within) }

-- an equation, and the bound of what it says
pub carried : {n : ℕ} {r z : ℤ} → r ≡ z → Within n z → (r ≡ z) × Within n r
carried {n} e h = (e, subst (Within n) (sym e) h)

-- a call's signed result that is returned: the value that its contract gives, and its bound
pub passed_on : {n : ℕ} {r z : ℤ} → (r ≡ z) × Within n r → T (leb n (2 ^ 62)) → (to_z w64 (of_z w64 r) ≡ z) × Within n (to_z w64 (of_z w64 r))
passed_on p t = (kept w64 p.1 t ∙ p.0, within-back w64 t p.1)

-- ---- the sets
-- `search overflow depth 20 fits 5000` at a need that a result fits
pub ruleset overflow = (tt, sfits-bits, bits-var, bits-lit, bits_pos, bits-nat, bits-quot, bits-rem, bits-minus, bits-add, bits-neg, bits-mul, bits_back, bits-within, bits-weaken)

-- `search bound depth 20 fits 5000` at a bound, Within n, of a sum, a difference, a local or an argument
pub ruleset bound = (tt, within_var, within-nat, within-pos, within-lit, within-back, within-minus, within-add, within-neg, within-weaken)
