-- Clauses 7.14, 8.2, 8.4, 8.5, 12.10, 13.1, 13.4, 13.5: a state: the empty one, the start of a plan, and refusal 14. Assumes nothing.
use Rattle.std.specs.Prelude.{Bool, true, false, List, ℕ, ◌≤◌, eqb, leb, ℤ, pos, replicate}
use Rattle.conditions.specs.Choose.{choose}
use Rattle.conditions.specs.Both.{both}
use Rattle.plan.specs.declared.Mode.{Mode}
use Rattle.plan.specs.declared.Mode.TheVariants.{Lines, Fillets, Dubins}
use Rattle.plan.specs.declared.Plan.{Plan}
use Rattle.plan.specs.Limits.{most_points}
use Rattle.plan.specs.Places.{seen}
use Rattle.plan.specs.Stands.{stands_of, Stands}
use Rattle.manager.specs.declared.Progress.{Progress}
use Rattle.manager.specs.declared.State.{State}

-- 8.2: nothing but zeros, and no points
abbrev pub zeros : List ℤ
zeros = replicate most_points (pos 0)

abbrev pub empty_plan : Plan
empty_plan = seen (record { serial = 0; mode = Lines; radius = 0; count = 0 }) zeros zeros zeros zeros

abbrev pub empty_state : State
empty_state = record { plan = empty_plan; progress = record { index = 0; phase = 0; finished = false } }

-- 8.5: where a loaded plan starts
abbrev pub first_progress : Progress
first_progress = record { index = 2; phase = 1; finished = false }

abbrev pub start_of : Plan → State
start_of p = record { plan = p; progress = first_progress }

-- the state of a plan and how far it is flown
abbrev pub with_progress : Plan → Progress → State
with_progress plan p = record { plan = plan; progress = p }

-- 13.1: the last index of n points, in every mode
unfoldable pub last_index : ℕ → ℕ
last_index n = n

-- the leg to point i of n points is the last one
unfoldable pub on_last_leg : ℕ → ℕ → Bool
on_last_leg n i = eqb i (last_index n)

-- 8.4: the last phase at an index. 13.5: at point N a fillet plan has no corner to round, so the line is its last phase there.
unfoldable pub last_phase : Mode → ℕ → ℕ → ℕ
last_phase Lines n i = 1
last_phase Fillets n i = choose (on_last_leg n i) 1 2
last_phase Dubins n i = 5

-- at the last index and phase
unfoldable pub at_end : Mode → ℕ → Progress → Bool
at_end mode n p = both (on_last_leg n p.index) (eqb p.phase (last_phase mode n p.index))

-- 7.14: an index and a phase that the mode has
unfoldable pub index_fits : ℕ → Progress → Bool
index_fits n p = both (leb 2 p.index) (leb p.index (last_index n))

unfoldable pub phase_fits : Mode → ℕ → Progress → Bool
phase_fits mode n p = both (leb 1 p.phase) (leb p.phase (last_phase mode n p.index))

-- 7.14: finished only at the end
unfoldable pub end_fits : Mode → ℕ → Progress → Bool
end_fits mode n p = choose p.finished (at_end mode n p) true

unfoldable pub placed_of : Mode → ℕ → Progress → Bool
placed_of mode n p = both (index_fits n p) (both (phase_fits mode n p) (end_fits mode n p))

-- a state that 14 does not refuse
unfoldable pub valid_of : State → Bool
valid_of s = both (stands_of s.plan) (placed_of s.plan.head.mode s.plan.head.count s.progress)

-- what it gives whoever flies it
pub record Valid (s : State) : Type 0 where
  pub stands : Stands s.plan
  pub least : 2 ≤ s.progress.index
  pub most : s.progress.index ≤ last_index s.plan.head.count
  pub first : 1 ≤ s.progress.phase
  pub last : s.progress.phase ≤ last_phase s.plan.head.mode s.plan.head.count s.progress.index
