-- Clause 21.8: a table that was made at the load holds for the whole flight, and tells the distance at each state of it. Assumes nothing.
use Rattle.std.specs.Prelude.{◌≡◌, true, List, ℕ, ◌<◌, length, get_or}
use Rattle.refusals.specs.Outcome.{good}
use Rattle.manager.specs.declared.State.{State}
use Rattle.manager.specs.State.{valid_of}
use Rattle.flight.specs.Run.{Named, run}
use Rattle.flight.specs.Flight.{last_of}
use Rattle.flight.specs.Demand.{Loads}
use Rattle.distance.specs.Table.{distances_of, table_of, distance_of}

pub record TableKept : Type 0 where
  -- of a state that any reader loads from any file, after any list of fixes
  pub loaded : (r : ℕ) (f : List ℕ) (s : State) → Loads r f s → (fixes : List Named) (room : ℕ) → distances_of (last_of s (run s fixes)) room ≡ distances_of s room
  -- and of every state that 14 does not refuse
  pub flown : (s : State) → valid_of s ≡ true → (fixes : List Named) (room : ℕ) → distances_of (last_of s (run s fixes)) room ≡ distances_of s room

-- so that the entry of that table at the index of the state returned is the distance to go from there
abbrev pub ToldAtTheLoad : Type 0
ToldAtTheLoad = (r : ℕ) (f : List ℕ) (s : State) → Loads r f s → (table : List ℕ) → s.plan.head.count < length table → (fixes : List Named)
    → distance_of (last_of s (run s fixes)) ≡ good (get_or (table_of (distances_of s (length table)) table) (last_of s (run s fixes)).progress.index 0)
