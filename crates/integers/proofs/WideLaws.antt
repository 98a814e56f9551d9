-- Numbers by digits in base 2^42: their order, the carry of a product by one digit more, over any base W, and the halves of two digits. Assumes
-- nothing.
use mathlib.Core.Path.{◌≡◌, sym, ap}
use Prim.Native.Nat.{ℕ, ◌+◌, ◌*◌, ◌/◌, ◌%◌, ◌≤◌, ◌<◌}
use native.Mathlib.Nat.{mul-le-mul, div-add-mod'}
use native.Mathlib.Omega.{arith}
use lib.Dec.{leb}
use Rattle.std.proofs.lemmas.Bool.Decides.{nat_tests}
use Rattle.std.specs.Ordering.{partial_ge}
use Rattle.integers.specs.declared.Triple.{Triple}
use Rattle.integers.specs.contracts.TriplePartialOrd.TheImpl.{partial_cmp-value}
use Rattle.integers.specs.Wide.{base, triple_of, Limbs}

-- ---- the order: that of the digits, the first that differs
pub order-is : (a b : Triple) → Limbs a → Limbs b → partial_ge partial_cmp-value.it a b ≡ leb (triple_of b) (triple_of a)
unfolding triple_of
order-is a b h k = grind (arith, nat_tests)

-- ---- the digits of a product by one digit more, with the carry
pub carry : (W ph pl qh ql h l a : ℕ) → ph * W + pl ≡ h * a → qh * W + ql ≡ l * a
    → ((ph + (pl + qh) / W) * W + (pl + qh) % W) * W + ql ≡ (h * W + l) * a
carry W ph pl qh ql h l a p q = omega (arith, ap (λ (n : ℕ). n * W) (div-add-mod' (pl + qh) W), ap (λ (n : ℕ). n * W) p)

-- ---- the four products of the halves of two digits
pub record Halves (u v : ℕ) : Type 0 where
  pub hh : u / 2097152 * (v / 2097152) ≤ 4398042316801
  pub hl : u / 2097152 * (v % 2097152) ≤ 4398042316801
  pub lh : u % 2097152 * (v / 2097152) ≤ 4398042316801
  pub ll : u % 2097152 * (v % 2097152) ≤ 4398042316801
  pub whole : u * v ≡ (u / 2097152 * 2097152 + u % 2097152) * (v / 2097152 * 2097152 + v % 2097152)
  pub below : u * v ≤ 4398046511103 * 4398046511103

small : (x y : ℕ) → x ≤ 2097151 → y ≤ 2097151 → x * y ≤ 4398042316801
small x y h k = mul-le-mul h k

pub halves : (u v : ℕ) → u < base → v < base → Halves u v
halves u v hu hv =
    record {
      hh = small _ _ (omega arith) (omega arith);
      hl = small _ _ (omega arith) (omega arith);
      lh = small _ _ (omega arith) (omega arith);
      ll = small _ _ (omega arith) (omega arith);
      whole = λ i. sym (div-add-mod' u 2097152) i * sym (div-add-mod' v 2097152) i;
      below = mul-le-mul {n₂ = 4398046511103} {m₂ = 4398046511103} (omega arith) (omega arith);
    }
