-- No clause: products below 2^126, by digits in base 2^42, which 10.3 needs. Assumes nothing.
use Rattle.std.specs.Prelude.{◌≡◌, ℕ, ◌+◌, ◌*◌, ◌<◌}
use Rattle.integers.specs.declared.Wide.{Wide}
use Rattle.integers.specs.declared.Triple.{Triple}

-- 2^42
abbrev pub base : ℕ
base = 4398046511104

-- ---- numbers of two and of three digits, and products; for proofs alone
abbrev pub wide_of : Wide → ℕ
wide_of w = w.high * base + w.low

unfoldable pub triple_of : Triple → ℕ
triple_of t = (t.high * base + t.middle) * base + t.low

-- the two lower digits are digits
pub record Limbs (t : Triple) : Type 0 where
  pub middle : t.middle < base
  pub low : t.low < base

-- w is u · v
pub record IsProduct (u v : ℕ) (w : Wide) : Type 0 where
  pub value : wide_of w ≡ u * v
  pub high : w.high < base
  pub low : w.low < base

-- t is w · a
pub record IsTriple (w : Wide) (a : ℕ) (t : Triple) : Type 0 where
  pub value : triple_of t ≡ wide_of w * a
  pub limbs : Limbs t
