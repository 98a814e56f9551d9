-- Holds clauses 16.8, 16.9: a strip listing by an example in bytes, a plan that breaks a rule, one that has no strips, and a file that is refused.
-- A definition that is changed together with the code that it describes is refused here. Assumes nothing.
use Rattle.std.specs.Prelude.{◌≡◌, List, [], ◌∷◌, ℕ}
use Rattle.text.specs.Ascii.{ascii}
use Rattle.report.specs.Holds.{example_file, short_file}
use Rattle.strip_report.specs.StripListing.{strip_listing_of}

-- four points, serial 7, radius 100: north for 1000, and south again for 1300. The file's last byte is the lower one of the last course, which is
-- 2048 where that byte is 0.
abbrev pub two_strips : ℕ → List ℕ
two_strips last =
    0x57 ∷ 0x50 ∷ 0x4C ∷ 0x00 ∷ 0x03 ∷ 0x00 ∷ 0x00 ∷ 0x00 ∷ 0x07 ∷ 0x00 ∷ 0x4C
    ∷ 0x02 ∷ 0x02 ∷ 0x00 ∷ 0x64
    ∷ 0x01 ∷ 0x0C ∷ 0x00 ∷ 0x00 ∷ 0x00 ∷ 0x00 ∷ 0x00 ∷ 0x00 ∷ 0x00 ∷ 0x00 ∷ 0xFF ∷ 0xFF ∷ 0xFC ∷ 0x18
    ∷ 0x03 ∷ 0x02 ∷ 0x00 ∷ 0x00
    ∷ 0x01 ∷ 0x0C ∷ 0x00 ∷ 0x00 ∷ 0x03 ∷ 0xE8 ∷ 0x00 ∷ 0x00 ∷ 0x00 ∷ 0x00 ∷ 0xFF ∷ 0xFF ∷ 0xFC ∷ 0x18
    ∷ 0x03 ∷ 0x02 ∷ 0x00 ∷ 0x00
    ∷ 0x01 ∷ 0x0C ∷ 0x00 ∷ 0x00 ∷ 0x04 ∷ 0xB0 ∷ 0x00 ∷ 0x00 ∷ 0x01 ∷ 0x90 ∷ 0xFF ∷ 0xFF ∷ 0xFC ∷ 0x18
    ∷ 0x03 ∷ 0x02 ∷ 0x08 ∷ 0x00
    ∷ 0x01 ∷ 0x0C ∷ 0xFF ∷ 0xFF ∷ 0xFF ∷ 0x9C ∷ 0x00 ∷ 0x00 ∷ 0x01 ∷ 0x90 ∷ 0xFF ∷ 0xFF ∷ 0xFC ∷ 0x18
    ∷ 0x03 ∷ 0x02 ∷ 0x08 ∷ last ∷ []

pub record StripListingHolds : Type 0 where
  -- 16.8: all that is printed
  pub example : strip_listing_of (two_strips 0x00) ≡ ascii "plan 7 version 3 mode dubins points 4 strips 2\n1 0 1000\n2 2048 1300\n"
  -- 16.9: the second strip's courses differ; a plan of lines; a file cut short in its first record
  pub fault : strip_listing_of (two_strips 0x01) ≡ ascii "refused 18 at 2 rule 1\n"
  pub lines : strip_listing_of example_file ≡ ascii "refused 18 at 0 rule 0\n"
  pub refusal : strip_listing_of short_file ≡ ascii "refused 6 at 11\n"
