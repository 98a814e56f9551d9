-- Holds clauses 12.1 to 12.8: legs worked out by hand, one that each of RSL, LSR and LSL wins; the starred examples have one for RSR. R 100,
-- from (0,0) course 0: a quarter turn, straight west or east, then a quarter turn back to north, of LSL half a turn to east. They hold every
-- part of a case. Assumes nothing.
use Rattle.std.specs.Prelude.{◌≡◌, ℕ, ℤ, pos, negsuc, Some}
use Rattle.course.specs.declared.Vector.{Vector}
use Rattle.plane.specs.Samples.{point}
use Rattle.dubins.specs.declared.Case.TheVariants.{Rsl, Lsr, Lsl}
use Rattle.dubins.specs.declared.Ends.{Ends}
use Rattle.dubins.specs.Choice.{shortest_of}

abbrev pub place : ℤ → ℤ → Vector
place n e = record { north = n; east = e }

-- from there to a point and a course
abbrev pub to : ℤ → ℤ → ℕ → Ends
to n e χ = record { start = point (pos 0) (pos 0) (pos 0); leave = 0; end = point n e (pos 0); arrive = χ; radius = 100 }

-- negsuc n is −(n + 1)
pub record HandLegs : Type 0 where
  pub rsl :
      shortest_of (to (pos 200) (pos 1000) 0)
      ≡ Some (record { case = Rsl; course = 1024; length = 1114; start = place (pos 0) (pos 100); end = place (pos 200) (pos 900); z1 = place (pos 100) (pos 100); z2 = place (pos 100) (pos 900) })
  pub lsr :
      shortest_of (to (pos 200) (negsuc 999) 0)
      ≡ Some (record { case = Lsr; course = 3072; length = 1114; start = place (pos 0) (negsuc 99); end = place (pos 200) (negsuc 899); z1 = place (pos 100) (negsuc 99); z2 = place (pos 100) (negsuc 899) })
  pub lsl :
      shortest_of (to (negsuc 99) (negsuc 999) 1024)
      ≡ Some (record { case = Lsl; course = 3072; length = 1371; start = place (pos 0) (negsuc 99); end = place (pos 0) (negsuc 999); z1 = place (pos 100) (negsuc 99); z2 = place (pos 100) (negsuc 999) })
