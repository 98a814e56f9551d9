-- Holds clauses 3.2, 5.1: a file of three points byte for byte, and one with a radius and courses. A definition that is changed together with
-- the code that it describes is refused here. Assumes nothing.
use Rattle.std.specs.Prelude.{◌≡◌, List, [], ◌∷◌, ◌++◌, ℕ, pos, negsuc}
use Rattle.plane.specs.declared.Point.{Point}
use Rattle.plan.specs.Loaded.{plan_of}
use Rattle.writer.specs.File.{file_of}

-- a point at down −1000; negsuc n is −(n + 1)
abbrev pub aloft : ℕ → ℕ → Point
aloft n e = record { north = pos n; east = pos e; down = negsuc 999 }

-- its record, by the bytes of its north and east
abbrev pub point_record : ℕ → ℕ → ℕ → ℕ → List ℕ
point_record n m e f = 0x01 ∷ 0x0C ∷ 0x00 ∷ 0x00 ∷ n ∷ m ∷ 0x00 ∷ 0x00 ∷ e ∷ f ∷ 0xFF ∷ 0xFF ∷ 0xFC ∷ 0x18 ∷ []

pub record FileFacts : Type 0 where
  -- the input of the listing program
  pub lines :
      file_of 1 (plan_of 7 0 (aloft 0 0 ∷ aloft 1000 0 ∷ aloft 1000 2000 ∷ []) [])
      ≡ (0x57 ∷ 0x50 ∷ 0x4C ∷ 0x00 ∷ 0x01 ∷ 0x00 ∷ 0x00 ∷ 0x00 ∷ 0x07 ∷ 0x00 ∷ 0x2A ∷ [])
      ++ point_record 0x00 0x00 0x00 0x00
      ++ point_record 0x03 0xE8 0x00 0x00
      ++ point_record 0x03 0xE8 0x07 0xD0
  -- a radius of 10,000, and the courses 4,095 and 1, each behind its point
  pub dubins :
      file_of 3 (plan_of 0x0102_0304 10000 (aloft 0 0 ∷ aloft 1000 2000 ∷ []) (4095 ∷ 1 ∷ []))
      ≡ (0x57 ∷ 0x50 ∷ 0x4C ∷ 0x00 ∷ 0x03 ∷ 0x01 ∷ 0x02 ∷ 0x03 ∷ 0x04 ∷ 0x00 ∷ 0x28 ∷ 0x02 ∷ 0x02 ∷ 0x27 ∷ 0x10 ∷ [])
      ++ point_record 0x00 0x00 0x00 0x00
      ++ (0x03 ∷ 0x02 ∷ 0x0F ∷ 0xFF ∷ [])
      ++ point_record 0x03 0xE8 0x07 0xD0
      ++ (0x03 ∷ 0x02 ∷ 0x00 ∷ 0x01 ∷ [])
