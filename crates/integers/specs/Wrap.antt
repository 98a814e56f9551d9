-- Clause 1.2: courses go round after 4,096 units. Assumes nothing.
use Rattle.std.specs.Prelude.{ℕ, ◌-◌, ◌%◌, ℤ, pos, negsuc}

-- z modulo 4,096; negsuc n is −(n + 1)
unfoldable pub wrap_of : ℤ → ℕ
wrap_of (pos n) = n % 4096
wrap_of (negsuc n) = 4095 - n % 4096
