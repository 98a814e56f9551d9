-- `long_product` gives w · a in three digits, by two products and one carry. Assumes nothing.
use native.Mathlib.Omega.{arith}
use Rattle.integers.specs.Wide.{base, triple_of}
use Rattle.integers.proofs.WideLaws.{carry}
use Rattle.integers.proofs.long_product.Goals as goal

pub returns : goal.returns
unfolding triple_of
returns c =
    record {
      value = carry base _ _ _ _ _ _ _ c.product-p.ensures.value c.product-q.ensures.value;
      limbs = record { middle = omega arith; low = c.product-q.ensures.low };
    }
