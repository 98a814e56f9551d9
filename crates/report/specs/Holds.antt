-- Holds clauses 16.1 to 16.3: a listing by an example in bytes, a file that is refused and a plan of each other mode; the line of a fix by one
-- of each kind; and the other lines by one. Assumes nothing.
use Rattle.std.specs.Prelude.{◌≡◌, true, false, List, [], ◌∷◌, ℕ, pos, negsuc, Float}
use Rattle.std.specs.Float.{fin}
use Rattle.text.specs.Ascii.{ascii}
use Rattle.plane.specs.declared.Point.{Point}
use Rattle.plan.specs.Loaded.{plan_of}
use Rattle.report.specs.Listing.{plan_text, listing_of}
use Rattle.report.specs.Fix.{fix_text}
use Rattle.report.specs.Answers.{load_text, note_text, written_text}

-- three points in lines, serial 7
abbrev pub example_file : List ℕ
example_file =
    0x57 ∷ 0x50 ∷ 0x4C ∷ 0x00 ∷ 0x01 ∷ 0x00 ∷ 0x00 ∷ 0x00 ∷ 0x07 ∷ 0x00 ∷ 0x2A
    ∷ 0x01 ∷ 0x0C ∷ 0x00 ∷ 0x00 ∷ 0x00 ∷ 0x00 ∷ 0x00 ∷ 0x00 ∷ 0x00 ∷ 0x00 ∷ 0xFF ∷ 0xFF ∷ 0xFC ∷ 0x18
    ∷ 0x01 ∷ 0x0C ∷ 0x00 ∷ 0x00 ∷ 0x03 ∷ 0xE8 ∷ 0x00 ∷ 0x00 ∷ 0x00 ∷ 0x00 ∷ 0xFF ∷ 0xFF ∷ 0xFC ∷ 0x18
    ∷ 0x01 ∷ 0x0C ∷ 0x00 ∷ 0x00 ∷ 0x03 ∷ 0xE8 ∷ 0x00 ∷ 0x00 ∷ 0x07 ∷ 0xD0 ∷ 0xFF ∷ 0xFF ∷ 0xFC ∷ 0x18 ∷ []

-- a header, and a record of which there is no more than its kind
abbrev pub short_file : List ℕ
short_file = 0x57 ∷ 0x50 ∷ 0x4C ∷ 0x00 ∷ 0x01 ∷ 0x00 ∷ 0x00 ∷ 0x00 ∷ 0x07 ∷ 0x00 ∷ 0x01 ∷ 0x01 ∷ []

abbrev pub some_points : List Point
some_points =
    record { north = pos 0; east = pos 0; down = negsuc 999 }
    ∷ record { north = pos 1000; east = pos 20; down = pos 3 }
    ∷ record { north = negsuc 4; east = pos 2000; down = pos 0 } ∷ []

-- 1.5, 0, -100, 1.5, 0, -1
abbrev pub six_numbers : List Float
six_numbers =
    fin false 3 (negsuc 0) ∷ fin false 0 (pos 0) ∷ fin true 25 (pos 2) ∷ fin false 3 (negsuc 0) ∷ fin false 0 (pos 0) ∷ fin true 1 (pos 0) ∷ []

pub record ListingHolds : Type 0 where
  -- 16.2: all that is printed
  pub example : listing_of example_file
      ≡ ascii "plan 7 version 1 mode lines points 3\n1 0 0 -1000 -\n2 1000 0 -1000 -\n3 1000 2000 -1000 -\n"
  -- 16.3: the file cut short in its first record
  pub refusal : listing_of short_file ≡ ascii "refused 6 at 11\n"
  pub fillets : plan_text 2 (plan_of 8 200 some_points []) ≡ ascii "plan 8 version 2 mode fillets points 3\n1 0 0 -1000 -\n2 1000 20 3 -\n3 -5 2000 0 -\n"
  pub dubins : plan_text 3 (plan_of 9 100 some_points (1024 ∷ 0 ∷ 4095 ∷ []))
      ≡ ascii "plan 9 version 3 mode dubins points 3\n1 0 0 -1000 1024\n2 1000 20 3 0\n3 -5 2000 0 4095\n"

-- as an answer has it: refusal, place, kind, sense, heading, index, phase, finished
pub record FixLineHolds : Type 0 where
  pub line : fix_text 3 (0 ∷ 0 ∷ 1 ∷ 0 ∷ 3712 ∷ 2 ∷ 1 ∷ 0 ∷ []) six_numbers
      ≡ ascii "fix 3 line 3fc00000 00000000 c2c80000 3fc00000 00000000 bf800000 heading 3712 index 2 phase 1 finished 0\n"
  pub circle : fix_text 12 (0 ∷ 0 ∷ 2 ∷ 1 ∷ 159 ∷ 4 ∷ 5 ∷ 1 ∷ []) six_numbers
      ≡ ascii "fix 12 circle 3fc00000 00000000 c2c80000 3fc00000 sense 1 heading 159 index 4 phase 5 finished 1\n"
  pub leftwards : fix_text 12 (0 ∷ 0 ∷ 2 ∷ 4294967295 ∷ 159 ∷ 4 ∷ 5 ∷ 1 ∷ []) six_numbers
      ≡ ascii "fix 12 circle 3fc00000 00000000 c2c80000 3fc00000 sense -1 heading 159 index 4 phase 5 finished 1\n"
  pub refusal : fix_text 20 (15 ∷ 0 ∷ 0 ∷ 0 ∷ 0 ∷ 3 ∷ 1 ∷ 0 ∷ []) six_numbers ≡ ascii "fix 20 refused 15 at 0 index 3 phase 1 finished 0\n"

pub record AnswersHold : Type 0 where
  pub load : load_text 6 11 ≡ ascii "load refused 6 at 11\n"
  pub note : note_text (0x6E ∷ 0x0A ∷ []) ≡ ascii "note 6e0a\n"
  pub write : written_text (record { refusal = 0; place = 0; length = 2 }) (0x57 ∷ 0x50 ∷ 0xAA ∷ []) ≡ ascii "write refused 0 at 0 length 2 5750aa\n"
