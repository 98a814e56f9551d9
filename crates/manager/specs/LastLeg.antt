-- Holds clauses 13.1 to 13.6, 15.16: the last leg on a plan of each mode, worked out by hand: what a fix answers, and where the flight then is.
-- The points are (0, 0, 0), (1000, 0, 0) and (1000, 1000, 500), so that the last leg sinks. The examples hold the definitions to the rules,
-- whatever the code does. Assumes nothing.
use Rattle.std.specs.Prelude.{◌≡◌, Bool, true, false, List, [], ◌∷◌, ℕ, pos}
use Rattle.conditions.specs.All.{All}
use Rattle.plane.specs.declared.Point.{Point}
use Rattle.plane.specs.Samples.{point, ground}
use Rattle.units.specs.declared.Fix.{Fix}
use Rattle.units.specs.CheckedExamples.{fix_of}
use Rattle.guidance.specs.Commands.{line_command, PlainCommand, HasCommand}
use Rattle.plan.specs.declared.Mode.{Mode}
use Rattle.plan.specs.declared.Mode.TheVariants.{Lines, Fillets, Dubins}
use Rattle.plan.specs.declared.Plan.{Plan}
use Rattle.plan.specs.Loaded.{plan_of}
use Rattle.manager.specs.declared.State.{State}
use Rattle.manager.specs.declared.Answer.{Answer}
use Rattle.manager.specs.State.{valid_of}
use Rattle.manager.specs.Step.{step_of}

-- a point, d below the ground
abbrev pub lowered : ℕ → ℕ → ℕ → Point
lowered n e d = point (pos n) (pos e) (pos d)

abbrev pub points : List Point
points = ground 0 0 ∷ ground 1000 0 ∷ lowered 1000 1000 500 ∷ []

-- the plan of a mode, with serial 7
abbrev pub plan : Mode → Plan
plan Lines = plan_of 7 0 points []
plan Fillets = plan_of 7 100 points []
plan Dubins = plan_of 7 100 points (0 ∷ 0 ∷ 1024 ∷ [])

abbrev pub state : Mode → ℕ → ℕ → Bool → State
state mode index phase finished = record { plan = plan mode; progress = record { index = index; phase = phase; finished = finished } }

-- (1000, 1000, 500), the last point
abbrev pub at_the_last : Fix
at_the_last = fix_of 0x42c8_0000 0x42c8_0000 0x4248_0000

-- (1000, 999, 500), a decimetre before it
abbrev pub almost_there : Fix
almost_there = fix_of 0x42c8_0000 0x42c7_cccd 0x4248_0000

-- (1000, 1001, 490): beyond it in north and east, and before it in three dimensions, since 1·1000 − 10·500 is negative
abbrev pub low : Fix
low = fix_of 0x42c8_0000 0x42c8_3333 0x4244_0000

abbrev pub answer_to : State → Fix → Answer
answer_to s fix = (step_of s 7 fix).answer

-- the refusal, and the flight's index, phase and finished after the fix
pub data Brief : Type 0 where
  brief : ℕ → ℕ → ℕ → Bool → Brief

abbrev pub brief_of : Answer → Brief
brief_of a = brief a.refusal a.index a.phase a.finished

pub data LastLegExample : Type 0 where
  -- the answer in brief
  leaves : State → Fix → Brief → LastLegExample
  -- the points from and to which a line is commanded
  leads : State → Fix → Point → Point → LastLegExample
  -- the fix finishes the flight
  ends : State → Fix → LastLegExample
  -- the fix leaves the state as it is
  keeps : State → Fix → LastLegExample
  -- the fix is accepted, with a line or a circle of plain numbers, and the state after it is valid and of the same plan
  accepts : State → Fix → LastLegExample

abbrev pub LastLegHolds : LastLegExample → Type 0
LastLegHolds (leaves s fix said) = brief_of (answer_to s fix) ≡ said
LastLegHolds (leads s fix a b) = (answer_to s fix).command ≡ line_command a b
LastLegHolds (ends s fix) = (step_of s 7 fix).state.progress.finished ≡ true
LastLegHolds (keeps s fix) = (step_of s 7 fix).state ≡ s
LastLegHolds (accepts s fix) =
    (((answer_to s fix).refusal ≡ 0) × HasCommand (answer_to s fix).command)
    × (PlainCommand (answer_to s fix).command × (((step_of s 7 fix).state.plan ≡ s.plan) × (valid_of (step_of s 7 fix).state ≡ true)))

-- the fix that passes point N−1 gets the leg before it, and does not end the plan, though it is at the last point
abbrev pub passing : List LastLegExample
passing =
    leaves (state Lines 2 1 false) at_the_last (brief 0 3 1 false)
    ∷ leads (state Lines 2 1 false) at_the_last (ground 0 0) (ground 1000 0)
    ∷ leaves (state Fillets 2 2 false) at_the_last (brief 0 3 1 false)
    ∷ []

-- on the last leg its line is commanded, and it ends at the last point: for lines in three dimensions, for fillets in north and east
abbrev pub ending : List LastLegExample
ending =
    leads (state Lines 3 1 false) almost_there (ground 1000 0) (lowered 1000 1000 500)
    ∷ leads (state Fillets 3 1 false) almost_there (ground 1000 0) (lowered 1000 1000 500)
    ∷ leaves (state Lines 3 1 false) at_the_last (brief 0 3 1 true)
    ∷ leaves (state Lines 3 1 false) almost_there (brief 0 3 1 false)
    ∷ leaves (state Lines 3 1 false) low (brief 0 3 1 false)
    ∷ leaves (state Lines 3 1 true) almost_there (brief 0 3 1 true)
    ∷ leaves (state Fillets 3 1 false) at_the_last (brief 0 3 1 true)
    ∷ leaves (state Fillets 3 1 false) almost_there (brief 0 3 1 false)
    ∷ leaves (state Fillets 3 1 false) low (brief 0 3 1 true)
    ∷ []

-- 14: at point N a fillet plan is in phase line, and lines and fillets are finished nowhere else, at N−1 neither
abbrev pub refused_states : List LastLegExample
refused_states =
    leaves (state Lines 2 1 true) at_the_last (brief 14 2 1 true)
    ∷ leaves (state Lines 4 1 false) at_the_last (brief 14 4 1 false)
    ∷ leaves (state Fillets 2 2 true) at_the_last (brief 14 2 2 true)
    ∷ leaves (state Fillets 3 2 false) at_the_last (brief 14 3 2 false)
    ∷ []

-- `Finishes` speaks of something, in each mode: there is a fix that meets what `sets` asks, and a finished state that `stays` keeps. They are proved
-- from it, so that it cannot ask for more or give less.
abbrev pub finishing : List LastLegExample
finishing =
    ends (state Lines 3 1 false) at_the_last
    ∷ ends (state Fillets 3 1 false) at_the_last
    ∷ ends (state Dubins 3 5 false) at_the_last
    ∷ keeps (state Lines 3 1 true) almost_there
    ∷ keeps (state Fillets 3 1 true) almost_there
    ∷ keeps (state Dubins 3 5 true) almost_there
    ∷ []

-- `Flies` likewise, at the start of each plan
abbrev pub accepted_fixes : List LastLegExample
accepted_fixes = accepts (state Lines 2 1 false) almost_there ∷ accepts (state Fillets 2 1 false) almost_there ∷ accepts (state Dubins 2 1 false) almost_there ∷ []

pub record LastLeg : Type 0 where
  pub passed : All LastLegHolds passing
  pub ended : All LastLegHolds ending
  pub refused : All LastLegHolds refused_states
  pub finished : All LastLegHolds finishing
  pub flown : All LastLegHolds accepted_fixes
