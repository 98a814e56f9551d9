-- What `between` says of its ends, both ways. Assumes nothing.
use mathlib.Core.Path.{◌≡◌}
use mathlib.Core.Bool.{true, false}
use Prim.Native.Nat.{ℕ, ◌≤◌, ◌<◌}
use lib.Dec.{leb}
use borrow.Author.Tests.{leb-true, le-leb, lt-leb}
use Rattle.conditions.specs.Between.{between}
use Rattle.conditions.proofs.Bools.{both_true, both-second, both-off, both-off-second}

module _ (low high x : ℕ) where
  pub between-test : low ≤ x → x ≤ high → between low high x ≡ true
  unfolding between
  between-test h k = both_true _ _ (le-leb low x h) (le-leb x high k)

  pub between-under : x < low → between low high x ≡ false
  unfolding between
  between-under h = both-off _ _ (lt-leb low x h)

  pub between-over : high < x → between low high x ≡ false
  unfolding between
  between-over h = both-off-second _ _ (lt-leb x high h)

  pub between-most : between low high x ≡ true → x ≤ high
  unfolding between
  between-most h = leb-true x high (both-second (leb low x) (leb x high) h)
