-- A file that is too long is refused like its first bytes, so that a reader need not take in more than one byte over the most that a file can
-- have. Assumes nothing.
use mathlib.Core.Path.{◌≡◌, refl, ap}
use mathlib.Core.Bool.{Bool, true, false}
use mathlib.Core.List.{List}
use Prim.Native.Nat.{ℕ, ◌+◌, ◌-◌, ◌≤◌, ◌<◌}
use native.Mathlib.Omega.{arith}
use lib.Dec.{eqb, leb, ltb}
use lib.ListN.{length, get_or, take}
use lib.Seq.{get_or-take, length-take-le}
use borrow.Author.Tests.{eqb-true, le-leb, lt-leb}
use Rattle.conditions.specs.Between.{between}
use Rattle.conditions.proofs.Bools.{by_bool, both-off, both-off-second}
use Rattle.refusals.specs.Outcome.{Outcome, good, check, and_then}
use Rattle.refusals.specs.Sweep.{Done, done}
use Rattle.records.specs.Numbers.{u16_at, u32_at}
use Rattle.records.specs.Versions.{newest}
use Rattle.records.specs.Gather.{header_length}
use Rattle.wpl.specs.Header.{most_area, marked_of, version_of, serial_of, area_of, area_fits, header_of}
use Rattle.wpl.specs.Load.{body_of, load_of}

-- an area length cannot be both that of a long file and in its limit
misfits : (f : List ℕ) → header_length + most_area < length f → area_fits f ≡ false
unfolding area_fits
misfits f h =
    by_bool (eqb (area_of f) (length f - header_length))
    (λ t. both-off-second _ _ (lt-leb (area_of f) most_area (omega (arith, eqb-true (area_of f) (length f - header_length) t))))
    (λ t. both-off _ _ t)

-- the header of a long file is refused, by 5 at the latest
ends-refused : {B : Type 0} (x y : Outcome B) (a b c d : Bool)
    → and_then (check a 1 (check b 2 (check c 3 (check d 4 (check {A = Done} false 5 (good done)))))) (λ (_ : Done). x)
    ≡ and_then (check a 1 (check b 2 (check c 3 (check d 4 (check {A = Done} false 5 (good done)))))) (λ (_ : Done). y)
unfolding check and_then
ends-refused x y false b c d = refl
ends-refused x y true false c d = refl
ends-refused x y true true false d = refl
ends-refused x y true true true false = refl
ends-refused x y true true true true = refl

module _ (f : List ℕ) (n : ℕ) (long : header_length + most_area < n) (part : n ≤ length f) where
  same_byte : (i : ℕ) → i < header_length → get_or (take n f) i 0 ≡ get_or f i 0
  same_byte i h = get_or-take n f i 0 (omega arith)

  part_length : length (take n f) ≡ n
  part_length = length-take-le n f part

  same-mark : marked_of (take n f) ≡ marked_of f
  unfolding marked_of
  same-mark = rw (same_byte 0 (omega arith), same_byte 1 (omega arith), same_byte 2 (omega arith))

  same_version : version_of (take n f) ≡ version_of f
  unfolding version_of u16_at
  same_version = rw (same_byte 3 (omega arith), same_byte 4 (omega arith))

  same-serial : serial_of (take n f) ≡ serial_of f
  unfolding serial_of u32_at u16_at
  same-serial = rw (same_byte 5 (omega arith), same_byte 6 (omega arith), same_byte 7 (omega arith), same_byte 8 (omega arith))

  pub long-file : (r : ℕ) → load_of r (take n f) ≡ load_of r f
  unfolding load_of header_of
  long-file r =
      let p : leb header_length (length (take n f)) ≡ true = le-leb header_length (length (take n f)) (omega (arith, part_length)) in
      let w : leb header_length (length f) ≡ true = le-leb header_length (length f) (omega arith) in
      rw (p, w, same-mark, same_version, same-serial, misfits (take n f) (omega (arith, part_length)), misfits f (omega arith))
      (ap (check (between 1 newest r) 3) (ends-refused (body_of r (take n f)) (body_of r f) true (marked_of f) (ltb 0 (version_of f)) (ltb 0 (serial_of f))))
