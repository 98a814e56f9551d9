-- Whole numbers up to 2^24 in size, divided in f32: the quotient is rounded once, it is no NaN and not −0.0, and by 16,384 it is exact.
-- Assumes nothing.
use mathlib.Core.Path.{◌≡◌, refl, sym, ◌∙◌, ap, subst}
use mathlib.Core.Bool.{Bool, true, false, not, true≢false}
use Prim.Native.Nat.{ℕ, zero, suc, ◌*◌, ◌^◌, ◌≤◌, ◌<◌}
use native.Mathlib.Nat.{lt_of_le_of_lt, mul-le-mul_right, mul_assoc, mul-pos, zero-mul, lt_of_lt_of_le, le_of_eq, lt_irrefl}
use native.Mathlib.Omega.{arith}
use lib.IntN.{ℤ, pos, negsuc, nat_abs}
use lib.Signed.{non_neg}
use lib.Dec.{T, leb, lit<, lit≤}
use lib.Pow.{pow_pos}
use lib.Ieee.{Float, fin, binary32, unlike, up, down, div, fits, is_nan, of_int, of_bits, round, inf, nan}
use lib.Ieee.Bits.{of_bits-to_bits}
use lib.Ieee.Fits.{up_pos, down_pos, round_is, round-fits}
use lib.Ieee.Exact.{HasValue, units_val, round_exact}
use lib.Ieee.Order.{drop, kept, round_mono}
use lib.Ieee.Scale.{round_same, grid, round_val, round_under}
use lib.Ieee.Positive.{positive, positive-finite, between, value_pos, first_pos}
use borrow.Author.Tests.{ne_eqb}
use mir.Syntax.{w64}
use mir.Val.{to_z, of_z}
use Rattle.integers.specs.Bounds.{Within}
use Rattle.integers.proofs.BoundLaws.{within-weaken}
use Rattle.units.specs.Metres.{quotient_of, metres_of, direction_part_of, Exactly, Plain, PlainMeans}
use Rattle.units.proofs.ConversionLaws.{read_back, converted}

-- ---- where a value is not zero, its digits are not
digits-pos : (m U C A D : ℕ) → m * U * C ≡ A * D → 0 < A → 0 < D → 0 < m
digits-pos m U C A D e p q = first_pos m U (first_pos (m * U) C (lt_of_lt_of_le (mul-pos p q) (le_of_eq (sym e))))

-- ---- a division of exact conversions rounds n / c
crossed : (M D N G n c : ℕ) → M * 1 ≡ n * D → N * 1 ≡ c * G → M * G * c ≡ n * (N * D)
crossed M D N G n c e f =
    let g : M ≡ n * D = omega arith in
    let h : N ≡ c * G = omega arith in
    rw (g, h) (omega arith)

over-plus : (s : Bool) → unlike s false ≡ s
over-plus true = refl
over-plus false = refl

divided : (x y : Float) (s : Bool) (n c : ℕ) → 0 < c → HasValue x s n 1 → HasValue y false c 1 → div binary32 x y ≡ round binary32 s n c
unfolding div
divided nan y s n c p v w = elim v [ ]
divided (inf _) y s n c p v w = elim v [ ]
divided (fin t m e) nan s n c p v w = elim w [ ]
divided (fin t m e) (inf _) s n c p v w = elim w [ ]
divided (fin t m e) (fin true k g) s n c p v w = absurd (true≢false w.0)
divided (fin t m e) (fin false k g) s n c p v w =
    let h : 0 < k = digits-pos k (up g) 1 c (down g) w.1 p (down_pos g) in
    simp (ne_eqb k 0 (λ z. omega arith), over-plus t)
    (round_same binary32 t (m * up e * down g) (k * up g * down e) n c (mul-pos (mul-pos h (up_pos g)) (down_pos e)) p (crossed (m * up e) (down e) (k * up g) (down g) n c v.1 w.1)
    ∙ ap (λ (b : Bool). round binary32 b n c) v.0)

quotient-rounded : (z : ℤ) (c : ℕ) → Within 16777216 z → 0 < c → c ≤ 16777216 → quotient_of z c ≡ round binary32 (not (non_neg z)) (nat_abs z) c
unfolding quotient_of
quotient-rounded z c h p l = divided (of_int binary32 z) (of_int binary32 (pos c)) (not (non_neg z)) (nat_abs z) c p (converted z h) (converted (pos c) (record { within = l }))

-- what the code divides, by a constant k that is c
pub quotient-read : {n : ℕ} {z : ℤ} {k : Float} (c : ℕ) → k ≡ of_int binary32 (pos c) → Within n z → T (leb n 16777216)
    → div binary32 (of_int binary32 (to_z w64 (of_z w64 z))) k ≡ quotient_of z c
unfolding quotient_of
quotient-read c e h t = λ i. div binary32 (of_int binary32 (read_back h t i)) (e i)

-- ---- exact by 16,384: in units of 2^-149 the quotient is n · 2^135
pub direction-exact : (x : ℤ) → Within 16384 x → Exactly (direction_part_of x) x 16384
unfolding direction_part_of
direction-exact x h =
    let n = nat_abs x in
    let l : n < 16777216 = omega arith in
    subst (λ (r : Float). Exactly r x 16384) (sym (quotient-rounded x 16384 (within-weaken h tt) (lit< tt) (lit≤ tt)))
    (round_exact binary32 (not (non_neg x)) n 16384 n 135 (lit< tt) l (lt_of_le_of_lt (mul-le-mul_right (2 ^ 135) h.within) (lit< tt)) (sym (mul_assoc n (2 ^ 135) 16384)))

-- ---- plain numbers
plain_value : (x : Float) (s : Bool) (A C : ℕ) → T (fits binary32 x) → HasValue x s A C → (T s → 0 < A) → Plain x
unfolding is_nan
plain_value nan s A C f v h = elim v [ ]
plain_value (inf _) s A C f v h = elim v [ ]
plain_value (fin t m e) s A C f v h =
    record {
      held = f;
      number = refl;
      finite = λ u q. let z : ◌≡◌ {A = ℕ} 0 1 = cc in omega arith;
      no-minus-zero = λ g q.
          let minus : s ≡ true = cc v.0 in
          let none : m ≡ 0 = cc in
          lt_irrefl 0 (subst (λ (k : ℕ). 0 < k) none (digits-pos m (up e) C A (down e) v.1 (h (subst T (sym minus) tt)) (down_pos e)));
    }

plain-zero : (c : ℕ) → 0 < c → Plain (round binary32 false 0 c)
plain-zero c p =
    plain_value (round binary32 false 0 c) false 0 c (round-fits binary32 false 0 c)
    (round_exact binary32 false 0 c 0 0 p (lit< tt) (lit< tt) (sym (zero-mul c))) (λ t. absurd t)

-- n / c, both from 1 to 2^24, lies between two floats above zero
least : T (positive (round binary32 false 1 16777216))
unfolding round
least = tt

most : T (positive (round binary32 false 16777216 1))
unfolding round
most = tt

module _ (n c : ℕ) (n-most : n ≤ 16777216) (c_pos : 0 < c) (c-most : c ≤ 16777216) where
  positive-quotient : 0 < n → T (positive (round binary32 false n c))
  positive-quotient n_pos =
      between (round binary32 false 1 16777216) (round binary32 false n c) (round binary32 false 16777216 1) least most
      (round_mono binary32 1 16777216 n c (lit< tt) c_pos (omega arith)) (round_mono binary32 n c 16777216 1 c_pos (lit< tt) (omega arith))

  -- so of either sign it is a finite number of units of 2^-149, above zero
  grid-under : 0 < n → grid binary32 n c < 2 ^ 277
  grid-under n_pos = round_under binary32 n c (positive-finite (round binary32 false n c) (positive-quotient n_pos))

  plain-round : (s : Bool) → 0 < n → Plain (round binary32 s n c)
  plain-round s n_pos =
      plain_value (round binary32 s n c) s (grid binary32 n c) (2 ^ 149) (round-fits binary32 s n c)
      (subst (λ (x : Float). HasValue x s (grid binary32 n c) (2 ^ 149)) (sym (round_is binary32 s n c))
      (units_val binary32 s (kept 24 (n * 2 ^ 149) c) (drop 24 (n * 2 ^ 149) c) (grid-under n_pos)))
      (λ t. value_pos (round binary32 false n c) (grid binary32 n c) (2 ^ 149) (positive-quotient n_pos) (pow_pos 149) (round_val binary32 n c (grid-under n_pos)))

pub quotient-plain : (z : ℤ) (c : ℕ) → Within 16777216 z → 0 < c → c ≤ 16777216 → Plain (quotient_of z c)
quotient-plain z c h p l = subst Plain (sym (quotient-rounded z c h p l)) (by_sign z h)
  where
    by_sign : (y : ℤ) → Within 16777216 y → Plain (round binary32 (not (non_neg y)) (nat_abs y) c)
    by_sign (pos zero) k = plain-zero c p
    by_sign (pos (suc n)) k = plain-round (suc n) c k.within p l false (omega arith)
    by_sign (negsuc n) k = plain-round (suc n) c k.within p l true (omega arith)

pub metres-plain : (d : ℤ) → Within 1000000 d → Plain (metres_of d)
unfolding metres_of
metres-plain d h = quotient-plain d 10 (within-weaken h tt) (lit< tt) (lit≤ tt)

pub direction-plain : (x : ℤ) → Within 16384 x → Plain (direction_part_of x)
unfolding direction_part_of
direction-plain x h = quotient-plain x 16384 (within-weaken h tt) (lit< tt) (lit≤ tt)

-- ---- what plain numbers are
pub plain-means : PlainMeans
unfolding is_nan
plain-means =
    record {
      no_nan = λ p. true≢false p.number;
      no-infinity = λ s p. p.finite s refl;
      no-minus-zero = λ p. p.no-minus-zero (pos 0) refl;
      same_bits = λ x y p q e. sym (of_bits-to_bits binary32 x p.held) ∙ ap (of_bits binary32) e ∙ of_bits-to_bits binary32 y q.held;
    }

-- ---- the promises of `metres` and `direction_part`
pub metres-promise : {r : Float} {d : ℤ} → Within 1000000 d → r ≡ metres_of d → (r ≡ metres_of d) × ((r ≡ round binary32 (not (non_neg d)) (nat_abs d) 10) × (Plain r × PlainMeans))
unfolding metres_of
metres-promise {r} {d} h e = (e, (e ∙ quotient-rounded d 10 (within-weaken h tt) (lit< tt) (lit≤ tt), (subst Plain (sym e) (metres-plain d h), plain-means)))

pub direction-promise : {r : Float} {x : ℤ} → Within 16384 x → r ≡ direction_part_of x → (r ≡ direction_part_of x) × (Exactly r x 16384 × Plain r)
direction-promise {r} {x} h e = (e, (subst (λ (y : Float). Exactly y x 16384) (sym e) (direction-exact x h), subst Plain (sym e) (direction-plain x h)))
