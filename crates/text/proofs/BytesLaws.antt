-- Bytes in hexadecimal, byte by byte. Assumes nothing.
use mathlib.Core.Path.{◌≡◌}
use mathlib.Core.List.{List, ◌++◌}
use Prim.Native.Nat.{ℕ, ◌+◌, ◌*◌, ◌≤◌, ◌<◌}
use native.Mathlib.Numerals.{add-one}
use native.Mathlib.Omega.{arith}
use lib.ListN.{length, get_or}
use Rattle.text.specs.Digits.{hex_of}
use Rattle.text.specs.Parts.{bytes_to, bytes_text}
use Rattle.text.specs.declared.Text.{Text}
use Rattle.text.specs.Added.{Fits, AtMost, Added}
use Rattle.text.proofs.AddedLaws.{nothing, joined}

bytes_next : (xs : List ℕ) (i : ℕ) → bytes_to xs (i + 1) ≡ bytes_to xs i ++ hex_of 2 (get_or xs i 0)
unfolding bytes_to
bytes_next xs i = rw add-one

-- before byte i
pub record Spelling (xs : List ℕ) (old now : Text) (i : ℕ) : Type 0 where
  pub inside : i ≤ length xs
  pub done : Added (bytes_to xs i) old now
  pub short : AtMost (2 * i) old now

module _ (xs : List ℕ) (old : Text) (room : Fits (2 * length xs) old) where
  pub starts : Spelling xs old old 0
  unfolding bytes_to
  starts = record { inside = omega arith; done = nothing old (omega (arith, room)); short = omega arith }

  module _ (now : Text) (i : ℕ) (u : Spelling xs old now i) where
    pub fits : i < length xs → Fits 2 now
    fits h = omega (arith, room, u.done.kept, u.short)

    pub goes_on : (new : Text) → i < length xs → Added (hex_of 2 (get_or xs i 0)) now new × (new.at ≡ now.at + 2) → Spelling xs old new (i + 1)
    goes_on new h w =
        record {
          inside = omega arith;
          done = rw (bytes_next xs i) (joined u.done w.0);
          short = omega (arith, u.short, w.1);
        }

    pub ends : length xs ≤ i → Added (bytes_text xs) old now × AtMost (2 * length xs) old now
    unfolding bytes_text
    ends h = let e : i ≡ length xs = omega (arith, u.inside) in (rw e at u.done, omega (arith, u.short))
