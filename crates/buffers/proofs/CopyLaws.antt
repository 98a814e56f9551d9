-- A copy to the front of a part, one value after another; the values are of any type. Assumes nothing.
use mathlib.Core.Path.{◌≡◌, ap, ◌∙◌}
use mathlib.Core.List.{List}
use Prim.Native.Nat.{ℕ, ◌+◌, ◌≤◌, ◌<◌}
use native.Mathlib.Numerals.{add-one}
use native.Mathlib.Omega.{arith}
use lib.ListN.{length, get_or, set}
use lib.Seq.{take-length, paste, paste-zero, paste-suc}
use Rattle.buffers.specs.Splice.{over}

module _ {A : Type 0} (part values : List A) where
  pub none_copied : part ≡ paste part 0 values 0
  none_copied = paste-zero part 0 values

  -- value i, behind those that were copied
  pub one_more : (i : ℕ) (x : A) → i < length values → length values ≤ length part → x ≡ get_or values i x
      → set (paste part 0 values i) i x ≡ paste part 0 values (i + 1)
  one_more i x l r e =
      let z : i ≡ 0 + i = omega arith in
      (λ t. set (paste part 0 values i) (z t) (e t)) ∙ rw add-one (paste-suc part 0 values i x (omega arith) l)

  pub all_copied : (i : ℕ) → i ≡ length values → paste part 0 values i ≡ over values part
  all_copied i e =
      let z : 0 + length values ≡ length values = omega arith in
      ap (λ (n : ℕ). paste part 0 values n) e ∙ rw (z, take-length values)

-- those three, as a loop that copies asks for them
pub ruleset copying = (none_copied, one_more, all_copied)
