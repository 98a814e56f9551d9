-- The test `x <= l && -l <= x` of a float x and a whole number l says that x is finite and at most l in size. Assumes nothing.
use mathlib.Core.Path.{◌≡◌, refl, sym, ◌∙◌, ap}
use mathlib.Core.Logic.{inl, inr}
use mathlib.Core.Bool.{Bool, true, false, not, ◌&&◌, ◌||◌, true≢false}
use Prim.Native.Nat.{ℕ, zero, suc, ◌+◌, ◌*◌, ◌≤◌, ◌<◌}
use native.Mathlib.Nat.{le_trans, le_of_eq, le_of_mul-le-mul_right, mul-le-mul_right, mul-lt-mul_of_pos_right, mul_right_comm, mul-one, eq-or-lt_of_le, lt_of_le_of_lt}
use native.Mathlib.Omega.{arith}
use lib.IntN.{pos}
use lib.Dec.{T, leb, ltb, eqb, leb→le, le→leb}
use lib.Ieee.{Float, nan, inf, fin, binary32, up, down, le, neg, of_int, is_nan}
use lib.Ieee.Fits.{down_pos}
use lib.Ieee.Exact.{HasValue}
use borrow.Author.Tests.{leb-true, leb-false, lt-ltb, le-ltb, le-leb, lt-leb, eq-eqb, ne_eqb}
use Rattle.units.specs.Decimetres.{in_limit}
use Rattle.units.proofs.ConversionLaws.{converted}

-- ---- `<=` of two floats is `<` or `==`, each on the cross products
-- of one sign: t is the test of equality, whichever way round
same_sign : (a b : ℕ) (t : Bool) → (a ≡ b → t ≡ true) → (b < a → t ≡ false) → (ltb a b || (t && true)) ≡ leb a b
same_sign a b t same less = when (leb a b) refl
  where
    when : (r : Bool) → leb a b ≡ r → (ltb a b || (t && true)) ≡ leb a b
    when true e = elim (eq-or-lt_of_le (leb-true a b e)) [ inl q ↦ simp (e, same q, le-ltb a b (le_of_eq (sym q))) | inr l ↦ simp (e, lt-ltb a b l) ]
    when false e = simp (e, less (leb-false a b e), le-ltb a b (omega (arith, leb-false a b e)))

-- of two signs: a minus is at most a plus
two-signs : (a b : ℕ) → (ltb 0 (a + b) || (eqb a b && eqb a 0)) ≡ true
two-signs zero zero = refl
two-signs zero (suc b) = simp (lt-ltb 0 (0 + suc b) (omega arith))
two-signs (suc a) b = simp (lt-ltb 0 (suc a + b) (omega arith))

-- the limit's fraction N / d is l
scaled : (M D N d l : ℕ) → 0 < d → N * 1 ≡ l * d → leb (M * d) (N * D) ≡ leb M (l * D)
scaled M D N d l p h = when (leb M (l * D)) refl
  where
    cross : N * D ≡ l * D * d
    cross = ap (λ (z : ℕ). z * D) (sym (mul-one N) ∙ h) ∙ mul_right_comm l d D

    when : (r : Bool) → leb M (l * D) ≡ r → leb (M * d) (N * D) ≡ leb M (l * D)
    when true e = le-leb (M * d) (N * D) (le_trans (mul-le-mul_right d (leb-true M (l * D) e)) (le_of_eq (sym cross))) ∙ sym e
    when false e = lt-leb (M * d) (N * D) (lt_of_le_of_lt (le_of_eq cross) (mul-lt-mul_of_pos_right (leb-false M (l * D) e) p)) ∙ sym e

pass : (p : Bool) {q t : Bool} → q ≡ true → p ≡ t → (p && q) ≡ t
pass true f e = f ∙ e
pass false f e = e

-- both comparisons, by the sign of x: the one that compares two signs passes
between : (l : ℕ) (L x : Float) → HasValue L false l 1 → (le x L && le (neg L) x) ≡ in_limit l x
unfolding le neg in_limit
between l nan x v = elim v [ ]
between l (inf _) x v = elim v [ ]
between l (fin true n d) x v = absurd (true≢false v.0)
between l (fin false n d) nan v = refl
between l (fin false n d) (inf true) v = refl
between l (fin false n d) (inf false) v = refl
between l (fin false n d) (fin false m e) v =
    let A = m * up e * down d in
    let B = n * up d * down e in
    pass (le (fin false m e) (fin false n d)) (two-signs B A)
    (same_sign A B (eqb A B) (eq-eqb A B) (λ h. ne_eqb A B (λ q. omega arith)) ∙ scaled (m * up e) (down e) (n * up d) (down d) l (down_pos d) v.1)
between l (fin false n d) (fin true m e) v =
    let A = m * up e * down d in
    let B = n * up d * down e in
    ap (λ (p : Bool). p && le (fin true n d) (fin true m e)) (two-signs A B)
    ∙ same_sign A B (eqb B A) (λ q. eq-eqb B A (sym q)) (λ h. ne_eqb B A (λ q. omega arith))
    ∙ scaled (m * up e) (down e) (n * up d) (down d) l (down_pos d) v.1

-- up to 2^24 the limit is converted exactly
pub limit_is : (l : ℕ) (x : Float) → l ≤ 16777216 → (le x (of_int binary32 (pos l)) && le (neg (of_int binary32 (pos l))) x) ≡ in_limit l x
limit_is l x h = between l (of_int binary32 (pos l)) x (converted (pos l) (record { within = h }))

-- ---- what is in a limit
pub limit-number : (l : ℕ) (x : Float) → T (in_limit l x) → T (not (is_nan x))
unfolding in_limit is_nan
limit-number l nan h = elim h [ ]
limit-number l (inf _) h = elim h [ ]
limit-number l (fin s m e) h = tt

pub limit-le : (l k : ℕ) (x : Float) → l ≤ k → T (in_limit l x) → T (in_limit k x)
unfolding in_limit
limit-le l k nan h t = elim t [ ]
limit-le l k (inf _) h t = elim t [ ]
limit-le l k (fin s m e) h t = le→leb (m * up e) (k * down e) (le_trans (leb→le (m * up e) (l * down e) t) (mul-le-mul_right (down e) h))

-- its size, as any fraction, is at most the limit
pub limit-value : (l : ℕ) (x : Float) (s : Bool) (A C : ℕ) → T (in_limit l x) → HasValue x s A C → A ≤ l * C
unfolding in_limit
limit-value l nan s A C h v = elim h [ ]
limit-value l (inf _) s A C h v = elim h [ ]
limit-value l (fin t m e) s A C h v =
    le_of_mul-le-mul_right
    (le_trans (le_of_eq (sym v.1)) (le_trans (mul-le-mul_right C (leb→le (m * up e) (l * down e) h)) (le_of_eq (mul_right_comm l (down e) C))))
    (down_pos e)
