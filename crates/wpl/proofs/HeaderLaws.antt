-- A file made of a header and a record area: refusals 1 to 5 pass it, and it gives back the version, the serial and the records that it was
-- made of. The header of any file gives 1 to 5 and no other number. Assumes nothing.
use mathlib.Core.Path.{◌≡◌, refl, ap, ◌∙◌}
use mathlib.Core.Bool.{true}
use mathlib.Core.List.{List, ◌++◌}
use Prim.Native.Nat.{ℕ, ◌+◌, ◌-◌, ◌≤◌}
use native.Mathlib.Omega.{arith}
use lib.Dec.{eqb, leb, ltb}
use lib.ListN.{length, drop, length-drop}
use borrow.Author.Tests.{le-leb, lt-ltb, eq-eqb, ltb-true, leb-true, eqb-true}
use Rattle.conditions.specs.Both.{both}
use Rattle.conditions.proofs.Bools.{both_true, both_first, both-second}
use Rattle.refusals.specs.Numbers.{file_too_short, no_mark, no_version, no_serial, wrong_area}
use Rattle.refusals.specs.Outcome.{good}
use Rattle.refusals.specs.Sweep.{done}
use Rattle.refusals.proofs.OutcomeLaws.{check-true, check-means}
use Rattle.refusals.proofs.GivenLaws.{Gives, gives-check}
use Rattle.records.specs.Numbers.{u16_at, u32_at, u16_bytes, u32_bytes}
use Rattle.records.specs.Walk.{Walked, walk, fills, flat}
use Rattle.records.specs.Gather.{header_length}
use Rattle.records.proofs.NumberLaws.{u16-back, u32-back}
use Rattle.records.proofs.WalkLaws.{walk-flat}
use Rattle.writer.specs.File.{with_header}
use Rattle.wpl.specs.Header.{most_area, marked_of, version_of, serial_of, area_of, area_fits, header_of}
use Rattle.wpl.specs.Load.{records_of}

module _ (version serial : ℕ) (area : List ℕ) where
  -- ---- its numbers
  pub header-version : version_of (with_header version serial area) ≡ version
  unfolding version_of with_header u16_at u16_bytes
  header-version = u16-back version (u32_bytes serial ++ (u16_bytes (length area) ++ area))

  pub header-serial : serial_of (with_header version serial area) ≡ serial
  unfolding serial_of with_header u32_at u16_at u16_bytes u32_bytes
  header-serial = u32-back serial (u16_bytes (length area) ++ area)

  header-area : area_of (with_header version serial area) ≡ length area
  unfolding area_of with_header u16_at u16_bytes u32_bytes
  header-area = u16-back (length area) area

  header-length : length (with_header version serial area) ≡ header_length + length area
  unfolding with_header u16_bytes u32_bytes
  header-length = omega arith

  -- ---- its parts
  header-marked : marked_of (with_header version serial area) ≡ true
  unfolding marked_of with_header both
  header-marked = refl

  header-rest : drop header_length (with_header version serial area) ≡ area
  unfolding with_header u16_bytes u32_bytes
  header-rest = refl

  header-fits : length area ≤ most_area → area_fits (with_header version serial area) ≡ true
  unfolding area_fits
  header-fits h =
      let n = length (with_header version serial area) - header_length in
      rw header-area (both_true _ _ (eq-eqb (length area) n (omega (arith, header-length))) (le-leb (length area) most_area h))

  pub header-good : 1 ≤ version → (serial ≡ 0 → ⊥) → length area ≤ most_area → header_of (with_header version serial area) ≡ good done
  unfolding header_of
  header-good v s h =
      check-true _ file_too_short _ (le-leb header_length (length (with_header version serial area)) (omega (arith, header-length)))
      ∙ check-true _ no_mark _ header-marked
      ∙ check-true _ no_version _ (rw header-version (lt-ltb 0 version v))
      ∙ check-true _ no_serial _ (rw header-serial (lt-ltb 0 serial (omega arith)))
      ∙ check-true _ wrong_area _ (header-fits h)

pub header-records : (version serial : ℕ) (w : Walked) → fills w ≡ true → records_of (with_header version serial (flat w)) ≡ w
unfolding records_of
header-records version serial w h = ap walk (header-rest version serial (flat w)) ∙ walk-flat w h

-- ---- what refusals 4 and 5 say of a header that they pass
module _ (f : List ℕ) (passed : header_of f ≡ good done) where
  last-tests : (ltb 0 (serial_of f) ≡ true) × (area_fits f ≡ true)
  unfolding header_of
  last-tests =
      let a = check-means _ file_too_short _ done passed in
      let b = check-means _ no_mark _ done a.1 in
      let c = check-means _ no_version _ done b.1 in
      let d = check-means _ no_serial _ done c.1 in
      (d.0, (check-means _ wrong_area _ done d.1).0)

  pub serial-some : serial_of f ≡ 0 → ⊥
  serial-some e = omega (arith, ltb-true 0 (serial_of f) last-tests.0)

  pub area-most : length (drop header_length f) ≤ most_area
  unfolding area_fits
  area-most =
      let a = both_first (eqb (area_of f) (length f - header_length)) (leb (area_of f) most_area) last-tests.1 in
      let b = both-second (eqb (area_of f) (length f - header_length)) (leb (area_of f) most_area) last-tests.1 in
      omega (arith, length-drop header_length f, eqb-true (area_of f) (length f - header_length) a, leb-true (area_of f) most_area b)

-- ---- the numbers that there are
abbrev pub GivenByHeader : ℕ → Type 0
GivenByHeader number = (file_too_short ≤ number) × (number ≤ wrong_area)

pub header-gives : (f : List ℕ) → Gives GivenByHeader (header_of f)
unfolding header_of
header-gives f =
    gives-check GivenByHeader _ file_too_short _ (omega arith, omega arith)
    (gives-check GivenByHeader _ no_mark _ (omega arith, omega arith)
    (gives-check GivenByHeader _ no_version _ (omega arith, omega arith)
    (gives-check GivenByHeader _ no_serial _ (omega arith, omega arith)
    (gives-check GivenByHeader _ wrong_area _ (omega arith, omega arith) tt))))
