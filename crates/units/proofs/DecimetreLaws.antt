-- decimetres_of sees only the value of a float, and keeps a limit. Assumes nothing.
use mathlib.Core.Path.{◌≡◌, refl, ◌∙◌, ap, sym, subst}
use mathlib.Core.Bool.{Bool, true, false}
use Prim.Native.Nat.{ℕ, suc, ◌+◌, ◌*◌, ◌≤◌, ◌<◌}
use native.Mathlib.Nat.{le_of_suc-le-suc, div-lt_iff_lt-mul}
use native.Mathlib.Omega.{arith}
use lib.IntN.{pos, nat_abs}
use lib.Dec.{T, leb→le}
use lib.Ieee.{Float, fin, up, down, inf, nan}
use lib.Ieee.Fits.{down_pos}
use lib.Ieee.Exact.{HasValue}
use lib.Ieee.Nearest.{div_same}
use Rattle.integers.specs.Bounds.{Within}
use Rattle.integers.proofs.Magnitudes.{abs_neg}
use Rattle.units.specs.Decimetres.{nearest_quotient, signed, decimetres_of, in_limit}

-- ---- equal fractions have one nearest whole number
pub nearest-same : (a b c d : ℕ) → 0 < b → 0 < d → a * d ≡ c * b → nearest_quotient a b ≡ nearest_quotient c d
nearest-same a b c d p q e =
    let p2 : 0 < 2 * b = omega arith in
    let q2 : 0 < 2 * d = omega arith in
    div_same (a * 2 + b) (2 * b) (c * 2 + d) (2 * d) p2 q2 (omega arith)

pub decimetres-value : (x : Float) (s : Bool) (A C : ℕ) → 0 < C → HasValue x s A C → decimetres_of x ≡ signed s (nearest_quotient (A * 10) C)
unfolding decimetres_of
decimetres-value nan s A C p v = elim v [ ]
decimetres-value (inf _) s A C p v = elim v [ ]
decimetres-value (fin t m e) s A C p v =
    let h : m * up e * 10 * C ≡ A * 10 * down e = omega (arith, v.1) in
    ap (λ (b : Bool). signed b (nearest_quotient (m * up e * 10) (down e))) v.0 ∙ ap (signed s) (nearest-same (m * up e * 10) (down e) (A * 10) C (down_pos e) p h)

-- ---- the sign leaves the size
pub size-signed : (s : Bool) (n : ℕ) → nat_abs (signed s n) ≡ n
size-signed true n = abs_neg (pos n)
size-signed false n = refl

-- ---- a limit in metres is ten times as many decimetres
nearest-le : (a c l : ℕ) → 0 < c → a ≤ l * c → nearest_quotient (a * 10) c ≤ l * 10
nearest-le a c l p h =
    let q : 0 < 2 * c = omega arith in
    let k : a * 10 * 2 + c < suc (l * 10) * (2 * c) = omega arith in
    le_of_suc-le-suc ((div-lt_iff_lt-mul q).1 k)

pub decimetres-within : (l : ℕ) (x : Float) → T (in_limit l x) → Within (l * 10) (decimetres_of x)
unfolding in_limit decimetres_of
decimetres-within l nan h = elim h [ ]
decimetres-within l (inf _) h = elim h [ ]
decimetres-within l (fin s m e) h =
    record {
      within =
          subst (λ (n : ℕ). n ≤ l * 10) (sym (size-signed s (nearest_quotient (m * up e * 10) (down e))))
          (nearest-le (m * up e) (down e) l (down_pos e) (leb→le (m * up e) (l * down e) h));
    }
