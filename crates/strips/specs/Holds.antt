-- Holds clauses 6.6, 7.18, 20.1 to 20.6: what the check and the rows come to, in plans whose answers are worked out by hand. A definition that is changed
-- together with the code that it describes is refused here. Assumes nothing.
use Rattle.std.specs.Prelude.{◌≡◌, List, [], ◌∷◌, ℕ, pos}
use Rattle.conditions.specs.All.{All}
use Rattle.plane.specs.declared.Point.{Point}
use Rattle.plane.specs.Samples.{point, ground}
use Rattle.plan.specs.Loaded.{plan_of}
use Rattle.plan.specs.Places.{points_at, courses_at}
use Rattle.manager.specs.State.{empty_state, start_of}
use Rattle.strips.specs.declared.Strip.{Strip}
use Rattle.strips.specs.Check.{Checked, plan_check, check_of, strip_of, strip_row}

-- ---- what an example says
pub data StripExample : Type 0 where
  -- a radius, points and courses: the refusal, its place and rule, and the number of strips
  checked : ℕ → List Point → List ℕ → ℕ → ℕ → ℕ → ℕ → StripExample
  -- the row of a strip, by its number: its course and length
  told : List Point → List ℕ → ℕ → ℕ → ℕ → StripExample

abbrev pub StripHolds : StripExample → Type 0
StripHolds (checked R ps cs number place rule strips) =
    ◌≡◌ {A = Checked} (plan_check (plan_of 7 R ps cs)) (record { refusal = number; place = place; rule = rule; strips = strips })
StripHolds (told ps cs j course length) = ◌≡◌ {A = Strip} (strip_of (points_at ps) (courses_at cs) j) (record { number = j; course = course; length = length })

-- three strips of a photo block, north, south and north again, 1000 long and 400 apart
abbrev pub photo_block : List Point
photo_block = ground 0 0 ∷ ground 1000 0 ∷ ground 1000 400 ∷ ground 0 400 ∷ ground 0 800 ∷ ground 1000 800 ∷ []

abbrev pub strip_examples : List StripExample
strip_examples =
    -- a strip plan, and its rows
    checked 100 photo_block (0 ∷ 0 ∷ 2048 ∷ 2048 ∷ 0 ∷ 0 ∷ []) 0 0 0 3
    ∷ told photo_block (0 ∷ 0 ∷ 2048 ∷ 2048 ∷ 0 ∷ 0 ∷ []) 2 2048 1000
    -- no Dubins plan; an odd number of points
    ∷ checked 0 photo_block [] 18 0 0 0
    ∷ checked 100 photo_block [] 18 0 0 0
    ∷ checked 100 (ground 0 0 ∷ ground 1000 0 ∷ ground 1000 400 ∷ []) (0 ∷ 0 ∷ 2048 ∷ []) 18 0 0 0
    -- rule 1 at the first, a middle and the last strip; it comes before rule 2, and strip 2 before strip 3
    ∷ checked 100 photo_block (0 ∷ 1 ∷ 2048 ∷ 2048 ∷ 0 ∷ 0 ∷ []) 18 1 1 0
    ∷ checked 100 photo_block (0 ∷ 0 ∷ 2048 ∷ 2049 ∷ 0 ∷ 5 ∷ []) 18 2 1 0
    ∷ checked 100 photo_block (0 ∷ 0 ∷ 2048 ∷ 2048 ∷ 7 ∷ 0 ∷ []) 18 3 1 0
    -- rule 2, of the strip's own leg; it comes before rule 3
    ∷ checked 100 photo_block (1 ∷ 1 ∷ 2048 ∷ 2048 ∷ 0 ∷ 0 ∷ []) 18 1 2 0
    ∷ checked 100 photo_block (0 ∷ 0 ∷ 2049 ∷ 2049 ∷ 0 ∷ 0 ∷ []) 18 2 2 0
    ∷ checked 100 photo_block (0 ∷ 0 ∷ 2048 ∷ 2048 ∷ 4095 ∷ 4095 ∷ []) 18 3 2 0
    -- rule 3: north and then east; and north twice
    ∷ checked 100 (ground 0 0 ∷ ground 1000 0 ∷ ground 1000 400 ∷ ground 1000 1400 ∷ []) (0 ∷ 0 ∷ 1024 ∷ 1024 ∷ []) 18 2 3 0
    ∷ checked 100 (ground 0 0 ∷ ground 1000 0 ∷ ground 0 400 ∷ ground 1000 400 ∷ []) (0 ∷ 0 ∷ 0 ∷ 0 ∷ []) 18 2 3 0
    -- and at the last of three, which goes south again
    ∷ checked 100 (ground 0 0 ∷ ground 1000 0 ∷ ground 1000 400 ∷ ground 0 400 ∷ ground 1000 800 ∷ ground 0 800 ∷ []) (0 ∷ 0 ∷ 2048 ∷ 2048 ∷ 2048 ∷ 2048 ∷ []) 18 3 3 0
    -- west and then east: 1024 − 3072, modulo 4096
    ∷ checked 100 (ground 0 1000 ∷ ground 0 0 ∷ ground 400 0 ∷ ground 400 1000 ∷ []) (3072 ∷ 3072 ∷ 1024 ∷ 1024 ∷ []) 0 0 0 2
    -- a length is a root, rounded down; of north and east alone, since with down it would be 1300
    ∷ told (ground 0 0 ∷ ground 1000 1000 ∷ []) (512 ∷ 512 ∷ []) 1 512 1414
    ∷ told (ground 0 0 ∷ point (pos 300) (pos 400) (pos 1200) ∷ []) (604 ∷ 604 ∷ []) 1 604 500
    ∷ []

pub record StripsHold : Type 0 where
  pub examples : All StripHolds strip_examples
  -- 14 comes before 18
  pub unsound : check_of empty_state ≡ record { refusal = 14; place = 0; rule = 0; strips = 0 }
  -- a strip that there is, and those that there are not
  pub second : strip_row (start_of (plan_of 7 100 photo_block (0 ∷ 0 ∷ 2048 ∷ 2048 ∷ 0 ∷ 0 ∷ []))) 2 ≡ record { number = 2; course = 2048; length = 1000 }
  pub none : strip_row (start_of (plan_of 7 100 photo_block (0 ∷ 0 ∷ 2048 ∷ 2048 ∷ 0 ∷ 0 ∷ []))) 0 ≡ record { number = 0; course = 0; length = 0 }
  pub past : strip_row (start_of (plan_of 7 100 photo_block (0 ∷ 0 ∷ 2048 ∷ 2048 ∷ 0 ∷ 0 ∷ []))) 4 ≡ record { number = 0; course = 0; length = 0 }
  -- none of a plan whose third strip is at fault
  pub faulty : strip_row (start_of (plan_of 7 100 photo_block (0 ∷ 0 ∷ 2048 ∷ 2048 ∷ 0 ∷ 5 ∷ []))) 1 ≡ record { number = 0; course = 0; length = 0 }
