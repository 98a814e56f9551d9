-- What `choose` gives, by its test. Assumes nothing.
use mathlib.Core.Path.{◌≡◌}
use mathlib.Core.Bool.{Bool, true, false}
use Rattle.conditions.specs.Choose.{choose}

pub choose-true : {A : Type 0} (t : Bool) (x y : A) → t ≡ true → choose t x y ≡ x
unfolding choose
choose-true t x y h = rw h

pub choose-false : {A : Type 0} (t : Bool) (x y : A) → t ≡ false → choose t x y ≡ y
unfolding choose
choose-false t x y h = rw h
