-- Holds clauses 7.13, 9.1: the fixes of section 19, and the other limits. They hold the definitions to the rules, whatever the code does.
-- Assumes nothing.
use Rattle.std.specs.Prelude.{◌≡◌, ℕ, ℤ, pos, negsuc, Option, Some, None}
use Rattle.std.specs.Float.{binary32}
use Rattle.std.specs.Float.Ieee.{of_bits}
use Rattle.plane.specs.declared.Point.{Point}
use Rattle.units.specs.declared.Fix.{Fix}
use Rattle.units.specs.Position.{position_of}

-- a fix by the patterns of its floats
abbrev pub fix_of : ℕ → ℕ → ℕ → Fix
fix_of n e d = record { north = of_bits binary32 n; east = of_bits binary32 e; down = of_bits binary32 d }

abbrev pub there : ℤ → ℤ → ℤ → Option Point
there n e d = Some (record { north = n; east = e; down = d })

-- negsuc n is −(n + 1)
pub record FixExamples : Type 0 where
  -- 0.25, −0.25, 0.04
  pub nearest : position_of (fix_of 0x3e80_0000 0xbe80_0000 0x3d23_d70a) ≡ there (pos 3) (negsuc 2) (pos 0)
  -- 50,000.0, −50,000.0, 10,000.0
  pub most : position_of (fix_of 0x4743_5000 0xc743_5000 0x461c_4000) ≡ there (pos 500000) (negsuc 499999) (pos 100000)
  -- 50,000.00390625, −50,000.00390625, and the f32 after 10,000.0
  pub north-beyond : position_of (fix_of 0x4743_5001 0 0) ≡ None
  pub east-beyond : position_of (fix_of 0 0xc743_5001 0) ≡ None
  pub down-beyond : position_of (fix_of 0 0 0x461c_4001) ≡ None
  -- a NaN and −infinity
  pub no_number : position_of (fix_of 0x7fc0_0000 0 0) ≡ None
  pub infinite : position_of (fix_of 0 0xff80_0000 0) ≡ None
