-- Clauses 1.2 to 1.5, 7.11, 7.14: the limits of a plan's numbers. Assumes nothing.
use Rattle.std.specs.Prelude.{Bool, ℕ, leb, eqb, ℤ, pos, neg_ℤ}
use Rattle.std.specs.Int.Signed.{le_z}
use Rattle.conditions.specs.Choose.{choose}
use Rattle.conditions.specs.Both.{both}
use Rattle.plane.specs.declared.Point.{Point}
use Rattle.plan.specs.declared.Mode.{Mode}
use Rattle.plan.specs.declared.Mode.TheVariants.{Lines, Fillets, Dubins}

abbrev pub fewest_points : ℕ
fewest_points = 3

abbrev pub most_points : ℕ
most_points = 64

abbrev pub most_level : ℕ
most_level = 500000

abbrev pub most_down : ℕ
most_down = 100000

abbrev pub least_radius : ℕ
least_radius = 50

abbrev pub most_radius : ℕ
most_radius = 10000

-- the units of a full circle; every course is below it
abbrev pub full_circle : ℕ
full_circle = 4096

-- 7.11 refuses a fillet that turns further
abbrev pub most_turn : ℕ
most_turn = 1792

-- -low ≤ z ≤ high
unfoldable pub signed_between : ℕ → ℕ → ℤ → Bool
signed_between low high z = both (le_z (neg_ℤ (pos low)) z) (le_z z (pos high))

-- so, or 0 where the place is unused
abbrev pub number_fits : Bool → ℕ → ℕ → ℤ → Bool
number_fits used low high z = choose used (signed_between low high z) (signed_between 0 0 z)

-- north and east in ± one limit, down in ± another
unfoldable pub inside_of : ℕ → ℕ → Point → Bool
inside_of level down p = both (signed_between level level p.north) (both (signed_between level level p.east) (signed_between down down p.down))

unfoldable pub in_area_of : Point → Bool
in_area_of p = inside_of most_level most_down p

-- all three numbers are 0
unfoldable pub zero_of : Point → Bool
zero_of p = inside_of 0 0 p

-- 1.4: where there is a radius
unfoldable pub arc_radius : ℕ → Bool
arc_radius R = both (leb least_radius R) (leb R most_radius)

-- a radius that the mode allows: none for lines
unfoldable pub radius_fits : Mode → ℕ → Bool
radius_fits Lines R = eqb R 0
radius_fits Fillets R = arc_radius R
radius_fits Dubins R = arc_radius R
