-- The numbers of the cases, and that the sides of a case by its number are those of the case. Assumes nothing.
use mathlib.Core.Path.{◌≡◌, refl}
use Rattle.dubins.specs.declared.Case.{Case}
use Rattle.dubins.specs.declared.Case.TheVariants.{Rsr, Rsl, Lsr, Lsl}
use Rattle.dubins.specs.Cases.{number_of, starts_right, ends_right, right_at_start, right_at_end, SidesByNumber}

starts : (case : Case) → right_at_start (number_of case) ≡ starts_right case
unfolding right_at_start starts_right
starts Rsr = refl
starts Rsl = refl
starts Lsr = refl
starts Lsl = refl

ends : (case : Case) → right_at_end (number_of case) ≡ ends_right case
unfolding right_at_end ends_right
ends Rsr = refl
ends Rsl = refl
ends Lsr = refl
ends Lsl = refl

pub sides : SidesByNumber
sides = record { rsr = refl; rsl = refl; lsr = refl; lsl = refl; starts = starts; ends = ends }
