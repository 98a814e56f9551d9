-- Clauses 1.6, 3.2, 6.1, 7.1 to 7.5: the header of a file, and refusals 1 to 5. Assumes nothing.
use Rattle.std.specs.Prelude.{Bool, List, ℕ, ◌-◌, eqb, leb, ltb, length, get_or, Result, Ok, Err}
use Rattle.conditions.specs.Both.{both}
use Rattle.refusals.specs.Numbers.{file_too_short, no_mark, no_version, no_serial, wrong_area}
use Rattle.refusals.specs.declared.Refusal.{Refusal}
use Rattle.refusals.specs.Outcome.{Outcome, good, refused, check}
use Rattle.refusals.specs.Sweep.{Done, done}
use Rattle.records.specs.Numbers.{u16_at, u32_at}
use Rattle.records.specs.Gather.{header_length}

-- 1.6
abbrev pub most_area : ℕ
most_area = 8192

unfoldable pub marked_of : List ℕ → Bool
marked_of f = both (eqb (get_or f 0 0) 0x57) (both (eqb (get_or f 1 0) 0x50) (eqb (get_or f 2 0) 0x4C))

unfoldable pub version_of : List ℕ → ℕ
version_of f = u16_at f 3

unfoldable pub serial_of : List ℕ → ℕ
serial_of f = u32_at f 5

unfoldable pub area_of : List ℕ → ℕ
area_of f = u16_at f 9

-- 7.5: the length that is said is the length that is there, and allowed
unfoldable pub area_fits : List ℕ → Bool
area_fits f = both (eqb (area_of f) (length f - header_length)) (leb (area_of f) most_area)

-- 7.1 to 7.5, in this order
unfoldable pub header_of : List ℕ → Outcome Done
header_of f =
    check (leb header_length (length f)) file_too_short
    (check (marked_of f) no_mark
    (check (ltb 0 (version_of f)) no_version
    (check (ltb 0 (serial_of f)) no_serial
    (check (area_fits f) wrong_area (good done)))))
