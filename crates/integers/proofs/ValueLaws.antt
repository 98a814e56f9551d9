-- The value of a signed expression of the code: what the machine reads, through its bits, is the number that the expression says.
--   Reads k m z   m, which the machine reads, is z, and |z| ≤ 2 ^ k
-- The sets at the end are for `search`. Assumes nothing.
use mathlib.Core.Path.{◌≡◌, refl, ap, ◌∙◌}
use Prim.Native.Nat.{ℕ, zero, ◌-◌, ◌*◌, ◌/◌, ◌^◌, ◌≤◌, min}
use lib.Dec.{T, ltb, leb}
use lib.IntN.{ℤ, pos, neg_ℤ, nat_abs, ◌+ℤ◌, ◌*ℤ◌, +ℤ_idl}
use lib.Signed.{lt_z, le_z, quot_z, rem_z}
use mir.Syntax.{Width}
use mir.Val.{SFits, hbits, to_z, of_z}
use mir.Facts.{to_z-of_z}
use Rattle.integers.specs.Bounds.{Within}
use Rattle.integers.proofs.BoundLaws.{Bits, back, kept, cast-nat, lg, uneven-mul, bits-within, bits-least, bits-lit, bits_pos, bits-type, bits-add, bits-neg, bits-mul, bits-quot, bits-rem, bits-times, bits_left, bits-typed, within-typed, sfits-mag}

pub record Reads (k : ℕ) (m z : ℤ) : Type 0 where
  pub same : m ≡ z
  pub small : Bits k z

-- ---- by the operation
pub reads_self : {k : ℕ} {z : ℤ} → Bits k z → Reads k z z
reads_self h = record { same = refl; small = h }

pub reads-var : (w : Width) {n k : ℕ} {z : ℤ} → Within n z → T (leb n (2 ^ (hbits w - 1))) → T (leb n (2 ^ k)) → Reads k (to_z w (of_z w z)) z
reads-var w h t u = record { same = kept w h t; small = bits-within h u }

pub reads-typed : (w : Width) {k : ℕ} {z : ℤ} → SFits w z → T (leb (hbits w) k) → Reads k (to_z w (of_z w z)) z
reads-typed w f t = record { same = to_z-of_z f; small = bits-type w f t }

-- an unsigned number that was cast: the hypothesis `n ≤ j` has j
pub reads-nat : (w : Width) {j k n : ℕ} → n ≤ j → T (leb j (2 ^ (hbits w - 1))) → T (leb j (2 ^ k)) → Reads k (to_z w n) (pos n)
reads-nat w h t u = record { same = cast-nat w h t; small = bits_pos h u }

pub reads-back : (w : Width) {k : ℕ} {m z : ℤ} → Reads (min k (hbits w - 1)) m z → Reads k (to_z w (of_z w m)) z
reads-back w {k} {m} {z} h = record { same = ap (λ (y : ℤ). to_z w (of_z w y)) h.same ∙ back w k h.small; small = bits-least k (hbits w - 1) h.small }

pub reads-add : {k : ℕ} {m m' y z : ℤ} → T (ltb zero k) → Reads (k - 1) m y → Reads (k - 1) m' z → Reads k (m +ℤ m') (y +ℤ z)
reads-add t p q = record { same = (λ i. p.same i +ℤ q.same i); small = bits-add t p.small q.small }

pub reads-neg : {k : ℕ} {m z : ℤ} → Reads k m z → Reads k (neg_ℤ m) (neg_ℤ z)
reads-neg p = record { same = ap neg_ℤ p.same; small = bits-neg p.small }

-- `-x` in the code is 0 - x
pub reads-minus : {k : ℕ} {m z : ℤ} → Reads k m z → Reads k (pos zero +ℤ neg_ℤ m) (neg_ℤ z)
reads-minus {k} {m} {z} p = record { same = +ℤ_idl (neg_ℤ m) ∙ ap neg_ℤ p.same; small = bits-neg p.small }

pub reads-mul : {k : ℕ} {m m' y z : ℤ} → Reads (k / 2) m y → Reads (k / 2) m' z → Reads k (m *ℤ m') (y *ℤ z)
reads-mul p q = record { same = (λ i. p.same i *ℤ q.same i); small = bits-mul p.small q.small }

pub reads-quot : {k : ℕ} {m m' y z : ℤ} → Reads k m y → Reads 63 m' z → Reads k (quot_z m m') (quot_z y z)
reads-quot {z = z} p q = record { same = (λ i. quot_z (p.same i) (q.same i)); small = bits-quot z p.small }

pub reads-rem : {k : ℕ} {m m' y z : ℤ} → Reads k m y → Reads 63 m' z → Reads k (rem_z m m') (rem_z y z)
reads-rem {z = z} p q = record { same = (λ i. rem_z (p.same i) (q.same i)); small = bits-rem z p.small }

pub reads_times : (n : ℕ) {k : ℕ} {m z : ℤ} → T (leb (n * 2 ^ (k - lg n)) (2 ^ k)) → Reads (k - lg n) m z → Reads k (pos n *ℤ m) (pos n *ℤ z)
reads_times n t p = record { same = ap (λ (x : ℤ). pos n *ℤ x) p.same; small = bits-times n t p.small }

pub reads-left : (w : Width) {n k : ℕ} {y m z : ℤ} → Within n y → T (leb n (2 ^ (hbits w - 1))) → T (leb (n * 2 ^ (k - lg n)) (2 ^ k)) → Reads (k - lg n) m z
    → Reads k (to_z w (of_z w y) *ℤ m) (y *ℤ z)
reads-left w {n} {k} {y} {m} {z} h u t p =
    record { same = (λ i. kept w {z = y} h u i *ℤ p.same i); small = uneven-mul y z n (k - lg n) k h.within p.small t }

-- ---- the answers
-- `is (search value depth 20 fits 5000)`: m is z
pub is : {m z : ℤ} → Reads 63 m z → m ≡ z
is h = h.same

-- `via law (search value depth 20 fits 5000)`: the value that the law starts from, and then the law
pub via : {m z z' : ℤ} → z ≡ z' → Reads 63 m z → m ≡ z'
via e p = p.same ∙ e

-- a test of an expression that is returned: `search tested depth 20 fits 5000`
pub le_same : (m m' y z : ℤ) → Reads 63 m y → Reads 63 m' z → le_z m m' ≡ le_z y z
le_same m m' y z p q = λ i. le_z (p.same i) (q.same i)

pub lt_same : (m m' y z : ℤ) → Reads 63 m y → Reads 63 m' z → lt_z m m' ≡ lt_z y z
lt_same m m' y z p q = λ i. lt_z (p.same i) (q.same i)

-- a magnitude that is passed on: `search sized depth 20 fits 5000`
pub abs-same : (m z : ℤ) → Reads 63 m z → nat_abs m ≡ nat_abs z
abs-same m z p = ap nat_abs p.same

-- ---- the sets
pub ruleset value = (tt, reads-var, reads-nat, reads-quot, reads-rem, reads-minus, reads-add, reads-neg, reads-mul, reads-back, reads_self, bits-lit)

pub ruleset tested = (le_same, lt_same, value)

pub ruleset sized = (abs-same, value)

-- beside overflow, bound or value, for a number that only its type bounds: `search (overflow, typed) depth 20 fits 5000`
pub ruleset typed = (sfits-mag, bits-typed, within-typed, reads-typed)

-- and for a product of a small number on the left and a large one
pub ruleset uneven = (bits-times, bits_left, reads_times, reads-left)
