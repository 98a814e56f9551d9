-- The half-plane as worked out by hand, and by the signs of x and y. Assumes nothing.
use mathlib.Core.Path.{◌≡◌, refl}
use mathlib.Core.Bool.{true, false}
use Prim.Native.Nat.{ℕ}
use lib.Dec.{leb}
use lib.IntN.{ℤ, pos}
use lib.Signed.{le_z}
use Rattle.conditions.specs.Choose.{choose}
use Rattle.plane.specs.Half.{square_times, half_plane, HandHalves}

pub hand-halves : HandHalves
unfolding half_plane choose
hand-halves = record { behind = refl; before = refl; beside = refl; short = refl }

module _ (x y : ℤ) (A B : ℕ) where
  pub both-met : le_z (pos 0) x ≡ true → le_z (pos 0) y ≡ true → half_plane x y A B ≡ true
  unfolding half_plane choose
  both-met h k = rw (h, k)

  pub y-negative : le_z (pos 0) x ≡ true → le_z (pos 0) y ≡ false → half_plane x y A B ≡ leb (square_times y A) (square_times x B)
  unfolding half_plane choose
  y-negative h k = rw (h, k)

  pub x-negative : le_z (pos 0) x ≡ false → le_z (pos 0) y ≡ true → half_plane x y A B ≡ leb (square_times x B) (square_times y A)
  unfolding half_plane choose
  x-negative h k = rw (h, k)

  pub none-met : le_z (pos 0) x ≡ false → le_z (pos 0) y ≡ false → half_plane x y A B ≡ false
  unfolding half_plane choose
  none-met h k = rw (h, k)
