-- A float from its bits: the fields give its value, and the code's shift and quotient its size in decimetres. Assumes nothing.
use mathlib.Core.Path.{◌≡◌, refl, sym, ◌∙◌, ap, subst}
use mathlib.Core.Bool.{Bool, true, false, cond}
use Prim.Native.Nat.{ℕ, zero, suc, ◌+◌, ◌-◌, ◌*◌, ◌/◌, ◌%◌, ◌^◌, ◌≤◌, ◌<◌}
use native.Mathlib.Nat.{mul-one, one-mul, mul-le-mul_right, div-eq_of_lt, lt_of_not-le}
use native.Mathlib.Omega.{arith}
use lib.Dec.{T, leb, eqb, lit≤, lit<}
use lib.Pow.{pow_pos, pow_mono, pow-add, shl_exact}
use lib.Ieee.{Float, nan, inf, fin, binary32, odd, fits, of_fields, of_bits, to_bits}
use lib.Ieee.Bits.{of_bits-to_bits}
use lib.Ieee.Exact.{HasValue, odd_sign}
use Rattle.std.specs.Float.{is_sign_negative}
use Rattle.units.specs.Decimetres.{nearest_quotient, signed, decimetres_of, in_limit}
use Rattle.units.specs.Pattern.{field_of, digits_of, units_of, unsigned_decimetres}
use Rattle.units.proofs.LimitLaws.{limit-value}
use Rattle.units.proofs.DecimetreLaws.{nearest-same, decimetres-value}

-- ---- the value of the fields. The topmost field is for NaN and the infinities, which are in no limit
not-topmost : (a b s : Bool) (l : ℕ) (v : Float) → T (in_limit l (cond a (cond b (inf s) nan) v)) → v ≡ cond a (cond b (inf s) nan) v
unfolding in_limit
not-topmost true true s l v h = absurd h
not-topmost true false s l v h = absurd h
not-topmost false b s l v h = refl

fields_value : (l : ℕ) (s : Bool) (field digits : ℕ) → T (in_limit l (of_fields binary32 s field digits))
    → HasValue (of_fields binary32 s field digits) s (units_of field digits) (2 ^ 149)
unfolding of_fields units_of
fields_value l s zero t h = subst (λ (n : ℕ). HasValue (odd 24 s t 0 149) s n (2 ^ 149)) (mul-one t) (odd_sign 24 s t 0 149)
fields_value l s (suc j) t h =
    subst (λ (v : Float). HasValue v s ((8388608 + t) * 2 ^ j) (2 ^ 149)) (not-topmost (eqb (suc j) 255) (eqb t 0) s l (odd 24 s (8388608 + t) j 149) h)
    (odd_sign 24 s (8388608 + t) j 149)

of_bits-fields : (b : ℕ) → of_bits binary32 b ≡ of_fields binary32 (leb 2147483648 b) (field_of b) (digits_of b)
unfolding of_bits
of_bits-fields b =
    let e : b % 2147483648 / 8388608 ≡ b / 8388608 % 256 = omega arith in
    ap (λ (f : ℕ). of_fields binary32 (leb 2147483648 b) f (digits_of b)) e

-- ---- omega takes no number of more than 38 digits, so that powers of 2 are variables in the laws on size
-- from field 143 on the size is 65,536 m or more
beyond : (u P C t : ℕ) → P ≤ u → 0 < P → C ≡ P * 128 → (8388608 + t) * u ≤ 50000 * C → ⊥
beyond u P C t h p e k = omega arith

field-le : (field digits : ℕ) → units_of field digits ≤ 50000 * 2 ^ 149 → field ≤ 142
unfolding units_of
field-le zero t h = lit≤ tt
field-le (suc j) t h = lt_of_not-le (λ (g : 142 ≤ j). beyond (2 ^ j) (2 ^ 142) (2 ^ 149) t (pow_mono g) (pow_pos 142) refl h)

sign_is : (x : Float) (s : Bool) (A C : ℕ) → HasValue x s A C → is_sign_negative x ≡ s
unfolding is_sign_negative
sign_is nan s A C v = elim v [ ]
sign_is (inf _) s A C v = elim v [ ]
sign_is (fin t m e) s A C v = v.0

-- ---- of an f32 in the limit
module _ (x : Float) (held : T (fits binary32 x)) (h : T (in_limit 50000 x)) where
  abbrev bits : ℕ
  bits = to_bits binary32 x

  bits-value : HasValue x (leb 2147483648 bits) (units_of (field_of bits) (digits_of bits)) (2 ^ 149)
  bits-value =
      let e = sym (of_bits-fields bits) ∙ of_bits-to_bits binary32 x held in
      subst (λ (v : Float). HasValue v (leb 2147483648 bits) (units_of (field_of bits) (digits_of bits)) (2 ^ 149)) e
      (fields_value 50000 (leb 2147483648 bits) (field_of bits) (digits_of bits) (subst (λ (v : Float). T (in_limit 50000 v)) (sym e) h))

  pub field-most : field_of bits ≤ 142
  field-most =
      field-le (field_of bits) (digits_of bits) (limit-value 50000 x (leb 2147483648 bits) (units_of (field_of bits) (digits_of bits)) (2 ^ 149) h bits-value)

  pub bits-decimetres : decimetres_of x ≡ signed (is_sign_negative x) (unsigned_decimetres bits)
  unfolding unsigned_decimetres
  bits-decimetres =
      let minus = leb 2147483648 bits in
      let u = units_of (field_of bits) (digits_of bits) in
      decimetres-value x (is_sign_negative x) u (2 ^ 149) (pow_pos 149)
      (subst (λ (s : Bool). HasValue x s u (2 ^ 149)) (sym (sign_is x minus u (2 ^ 149) bits-value)) bits-value)

-- ---- below field 122 the size is under half a decimetre
less : (u P C t : ℕ) → u ≤ P → 0 < P → C ≡ P * 536870912 → t < 8388608 → (8388608 + t) * u * 10 * 2 < C
less u P C t h p e k =
    let q : (8388608 + t) * u ≤ 16777216 * u = mul-le-mul_right u (omega arith) in
    omega arith

less_zero : (C t : ℕ) → 167772160 ≤ C → t < 8388608 → t * 10 * 2 < C
less_zero C t h k = omega arith

under-half : (field digits : ℕ) → digits < 8388608 → field < 122 → units_of field digits * 10 * 2 < 2 ^ 149
unfolding units_of
under-half zero t k h = less_zero (2 ^ 149) t (lit≤ tt) k
under-half (suc j) t k h =
    let g : j ≤ 120 = omega arith in
    less (2 ^ j) (2 ^ 120) (2 ^ 149) t (pow_mono g) (pow_pos 120) refl k

pub decimetres-small : (b : ℕ) → field_of b < 122 → unsigned_decimetres b ≡ 0
unfolding unsigned_decimetres
decimetres-small b h =
    let k : digits_of b < 8388608 = omega arith in
    let u : units_of (field_of b) (digits_of b) * 10 * 2 + 2 ^ 149 < 2 * 2 ^ 149 = twice (under-half (field_of b) (digits_of b) k h) in
    div-eq_of_lt u
  where
    twice : {a c : ℕ} → a < c → a + c < 2 * c
    twice l = omega arith

-- ---- from 120 on the code's one is 2^(150 − field)
module _ (field : ℕ) (from : 120 ≤ field) where
  shift_le : 150 - field ≤ 30
  shift_le = omega arith

  pub one-is : (1 * 2 ^ (150 - field)) % 4294967296 ≡ 2 ^ (150 - field)
  one-is = shl_exact 1 (150 - field) 32 (lit< tt) (omega (arith, shift_le)) ∙ one-mul (2 ^ (150 - field))

  pub one-le : (1 * 2 ^ (150 - field)) % 4294967296 ≤ 1073741824
  one-le = subst (λ (n : ℕ). n ≤ 1073741824) (sym one-is) (pow_mono shift_le)

  pub one-pos : 0 < (1 * 2 ^ (150 - field)) % 4294967296
  one-pos = subst (λ (n : ℕ). 0 < n) (sym one-is) (pow_pos (150 - field))

-- 2^149 is 2^j times it
split : (j : ℕ) → j ≤ 149 → 2 ^ j * 2 ^ (149 - j) ≡ 2 ^ 149
split j h = let e : j + (149 - j) ≡ 149 = omega arith in sym (pow-add 2 j (149 - j)) ∙ ap (λ (k : ℕ). 2 ^ k) e

ratio : (q u w c : ℕ) → u * w ≡ c → q * u * 10 * w ≡ q * 10 * c
ratio q u w c h = subst (λ (z : ℕ). q * u * 10 * w ≡ q * 10 * z) h (omega arith)

units-large : (field digits : ℕ) → 120 ≤ field → field ≤ 142
    → nearest_quotient (units_of field digits * 10) (2 ^ 149) ≡ nearest_quotient ((8388608 + digits) * 10) (2 ^ (150 - field))
unfolding units_of
units-large zero t from upto = absurd (omega arith)
units-large (suc j) t from upto =
    let e : 149 - j ≡ 150 - suc j = omega arith in
    nearest-same ((8388608 + t) * 2 ^ j * 10) (2 ^ 149) ((8388608 + t) * 10) (2 ^ (149 - j)) (pow_pos 149) (pow_pos (149 - j))
    (ratio (8388608 + t) (2 ^ j) (2 ^ (149 - j)) (2 ^ 149) (split j (omega arith)))
    ∙ ap (λ (z : ℕ). nearest_quotient ((8388608 + t) * 10) (2 ^ z)) e

-- n / d, however they are worked out
pub decimetres-large : (b one n d : ℕ) → 120 ≤ field_of b → field_of b ≤ 142 → one ≡ 2 ^ (150 - field_of b) → n ≡ (8388608 + digits_of b) * 10 * 2 + one → d ≡ 2 * one
    → n / d ≡ unsigned_decimetres b
unfolding unsigned_decimetres
decimetres-large b one n d from upto e f g =
    (λ i. f i / g i)
    ∙ ap (λ (n : ℕ). nearest_quotient ((8388608 + digits_of b) * 10) n) e
    ∙ sym (units-large (field_of b) (digits_of b) from upto)
