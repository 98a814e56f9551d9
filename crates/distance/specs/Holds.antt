-- Holds clauses 6.7, 7.16, 21.1 to 21.5, 21.7: what tables come to, in plans whose lengths are worked out by hand. A definition that is changed together with the code
-- that it describes is refused here. Assumes nothing.
use Rattle.std.specs.Prelude.{◌≡◌, true, List, [], ◌∷◌, ℕ, pos, negsuc, Ok, Err}
use Rattle.conditions.specs.All.{All}
use Rattle.refusals.specs.Outcome.{good, refused}
use Rattle.refusals.specs.Sweep.{passed_of}
use Rattle.plane.specs.declared.Point.{Point}
use Rattle.plane.specs.Samples.{point, ground}
use Rattle.plan.specs.Loaded.{plan_of}
use Rattle.manager.specs.declared.State.{State}
use Rattle.manager.specs.State.{empty_state, start_of}
use Rattle.distance.specs.Table.{entries_of, distances_of, table_of, distance_of, distance_by}

-- ---- what an example says: of a radius, points and courses, the entries from 2 on
pub data TableExample : Type 0 where
  tabled : ℕ → List Point → List ℕ → List ℕ → TableExample

abbrev pub TableHolds : TableExample → Type 0
TableHolds (tabled R ps cs entries) = entries_of (plan_of 7 R ps cs) ≡ entries

abbrev pub climbing : List Point
climbing = ground 0 0 ∷ point (pos 300) (pos 400) (pos 1200) ∷ point (pos 1300) (pos 400) (pos 1200) ∷ []

abbrev pub table_examples : List TableExample
table_examples =
    -- lines of 500 and 1000; the first of them climbs by 1200, which does not count
    tabled 0 climbing [] (1500 ∷ 1000 ∷ [])
    -- each root is rounded down by itself: 1414 twice, and not 2828
    ∷ tabled 0 (ground 0 0 ∷ ground 1000 1000 ∷ ground 2000 2000 ∷ ground 2000 3000 ∷ []) [] (3828 ∷ 2414 ∷ 1000 ∷ [])
    -- fillets of R 100 that turn by 512 and 1024: legs of 1000, 989 and 989, tangent lengths 41 and 100, arcs 78 and 157.
    -- 889; 848 and 157 more; 959 and 78 more
    ∷ tabled 100 (ground 0 0 ∷ ground 1000 0 ∷ point (pos 1700) (pos 700) (pos 500) ∷ ground 1000 1400 ∷ []) [] (2931 ∷ 1894 ∷ 889 ∷ [])
    -- fillets whose tangent lengths take all of both legs: the arc is left
    ∷ tabled 1000 (ground 0 0 ∷ ground 1000 0 ∷ ground 1000 1000 ∷ []) [] (1570 ∷ 0 ∷ [])
    -- Dubins legs: two quarter turns round 800, 1114; and straight on, 1000
    ∷ tabled 100 (ground 0 0 ∷ ground 0 1000 ∷ point (negsuc 999) (pos 1000) (pos 0) ∷ []) (0 ∷ 2048 ∷ 2048 ∷ []) (2114 ∷ 1000 ∷ [])
    ∷ []

-- at the start of the first of them, and on its last leg
abbrev pub started : State
started = start_of (plan_of 7 0 climbing [])

abbrev pub on_the_last : State
on_the_last = record { plan = plan_of 7 0 climbing []; progress = record { index = 3; phase = 1; finished = true } }

pub record DistancesHold : Type 0 where
  pub tables : All TableHolds table_examples
  -- three points take four entries; 14 comes before 16
  pub room : distances_of started 4 ≡ good (1500 ∷ 1000 ∷ [])
  pub short : distances_of started 3 ≡ refused 16 0
  pub unsound : distances_of empty_state 0 ≡ refused 14 0
  pub told : passed_of (distances_of started 4) ≡ Ok tt
  pub full : passed_of (distances_of started 3) ≡ Err (record { number = 16; place = 0 })
  -- entries 0 and 1 and those behind stay
  pub written : table_of (good (1500 ∷ 1000 ∷ [])) (7 ∷ 8 ∷ 9 ∷ 10 ∷ 11 ∷ []) ≡ 7 ∷ 8 ∷ 1500 ∷ 1000 ∷ 11 ∷ []
  pub unwritten : table_of (refused 16 0) (7 ∷ 8 ∷ 9 ∷ []) ≡ 7 ∷ 8 ∷ 9 ∷ []
  -- by the index, a flight that is finished too: its leg is still the last
  pub start : distance_by (distance_of started) ≡ Ok 1500
  pub last : distance_by (distance_of on_the_last) ≡ Ok 1000
  pub none : distance_by (distance_of empty_state) ≡ Err (record { number = 14; place = 0 })
