-- Clause 19.1: the starred examples, one list. Assumes nothing.
use Rattle.std.specs.Prelude.{◌≡◌, Bool, true, false, List, [], ◌∷◌, ℕ, ℤ, pos, negsuc, Some, None}
use Rattle.std.specs.Float.{binary32}
use Rattle.std.specs.Float.Ieee.{of_bits}
use Rattle.std.specs.Option.{option_map}
use Rattle.course.specs.declared.Vector.{Vector}
use Rattle.course.specs.Vectors.{plain}
use Rattle.course.specs.Bearing.{bearing_of}
use Rattle.plane.specs.declared.Point.{Point}
use Rattle.plane.specs.declared.Leg.{Leg}
use Rattle.plane.specs.Half.{met_of}
use Rattle.plane.specs.Samples.{ground}
use Rattle.units.specs.Decimetres.{decimetres_of}
use Rattle.fillets.specs.Corners.{corner_of}
use Rattle.dubins.specs.declared.Case.{Case}
use Rattle.dubins.specs.declared.Case.TheVariants.{Rsr, Rsl, Lsr, Lsl}
use Rattle.dubins.specs.declared.Ends.{Ends}
use Rattle.dubins.specs.declared.Path.{Path}
use Rattle.dubins.specs.Choice.{case_path, shortest_of}
use Rattle.dubins.specs.HandLegs.{to}
use Rattle.heading.specs.Heading.{line_heading}

-- a level leg
abbrev pub leg : ℤ → ℤ → Leg
leg n e = record { north = n; east = e; down = pos 0 }

-- what an example says of a path
abbrev pub path_brief : Path → Case × (ℕ × (Vector × Vector))
path_brief p = (p.case, (p.length, (p.z1, p.z2)))

-- ---- what an example says
pub data StarredExample : Type 0 where
  -- the bearing of a vector
  bears : Vector → ℕ → StarredExample
  -- the decimetres of the f32 with a pattern
  turns : ℕ → ℤ → StarredExample
  -- whether an offset meets the half-plane between two legs
  meets : Leg → Leg → Leg → Bool → StarredExample
  -- centre and z2 of the corner between three points with a radius
  rounds : Point → Point → Point → ℕ → Vector → Vector → StarredExample
  -- the length of a leg by one of its cases
  measures : Ends → Case → ℕ → StarredExample
  -- a case that a leg does not have
  lacks : Ends → Case → StarredExample
  -- the leg's shortest case, with its length, z1 and z2
  flies : Ends → Case → ℕ → Vector → Vector → StarredExample
  -- the heading on a line with a level direction, at an offset from its start
  heads_by : Vector → Vector → ℕ → StarredExample

abbrev pub StarredHolds : StarredExample → Type 0
StarredHolds (bears v k) = bearing_of v ≡ k
StarredHolds (turns pattern d) = decimetres_of (of_bits binary32 pattern) ≡ d
StarredHolds (meets d a b t) = met_of d a b ≡ t
StarredHolds (rounds a b c R centre z2) = ((corner_of a b c R).centre ≡ centre) × ((corner_of a b c R).z2 ≡ z2)
StarredHolds (measures ends case length) = option_map (λ (p : Path). p.length) (case_path ends case) ≡ Some length
StarredHolds (lacks ends case) = case_path ends case ≡ None
StarredHolds (flies ends case length z1 z2) = option_map path_brief (shortest_of ends) ≡ Some (case, (length, (z1, z2)))
StarredHolds (heads_by q d k) = line_heading q d ≡ k

-- the legs have R 100, from (0, 0) on course 0; negsuc n is −(n + 1); 0x3E800000 is 0.25 and 0xBE800000 is −0.25
abbrev pub starred : List StarredExample
starred =
    bears (plain 1 0) 0
    ∷ bears (plain 0 1) 1024
    ∷ bears (plain 1 1) 512
    ∷ bears (plain 1000 2) 1
    ∷ bears (record { north = pos 1000; east = negsuc 0 }) 4095
    ∷ turns 0x3e80_0000 (pos 3)
    ∷ turns 0xbe80_0000 (negsuc 2)
    ∷ meets (leg (pos 0) (pos 0)) (leg (pos 1000) (pos 0)) (leg (pos 0) (pos 2000)) true
    ∷ meets (leg (negsuc 0) (pos 1)) (leg (pos 1000) (pos 0)) (leg (pos 0) (pos 2000)) true
    ∷ meets (leg (negsuc 2) (pos 2)) (leg (pos 1000) (pos 0)) (leg (pos 0) (pos 2000)) false
    ∷ rounds (ground 0 0) (ground 1000 0) (ground 1000 1000) 200 (plain 800 200) (plain 1000 200)
    ∷ measures (to (pos 1000) (pos 0) 0) Rsr 1000
    ∷ measures (to (pos 1000) (pos 0) 0) Rsl 1000
    ∷ measures (to (pos 1000) (pos 0) 0) Lsr 1000
    ∷ measures (to (pos 1000) (pos 0) 0) Lsl 1000
    ∷ flies (to (pos 1000) (pos 0) 0) Rsr 1000 (plain 0 0) (plain 1000 0)
    ∷ flies (to (pos 0) (pos 1000) 2048) Rsr 1114 (plain 100 100) (plain 100 900)
    ∷ lacks (to (pos 0) (pos 300) 0) Rsl
    ∷ flies (to (pos 0) (pos 300) 0) Rsr 928 (plain 100 100) (plain 100 400)
    ∷ heads_by (plain 1000 0) (plain 0 500) 3712
    ∷ []
