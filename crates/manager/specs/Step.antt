-- Clauses 6.3, 7.15, 8.3, 9.2, 9.3, 9.6, 9.7, 10.4, 11.7, 12.1, 12.9, 12.10, 13.1, 13.2, 13.4, 15.1, 15.3, 15.5, 15.7, 18.2: one fix, for a
-- state of any mode. Assumes nothing.
use Rattle.std.specs.Prelude.{Bool, true, false, ℕ, ◌+◌, ◌-◌, eqb, ltb, Option, Some, None}
use Rattle.conditions.specs.Choose.{choose}
use Rattle.refusals.specs.Numbers.{no_position, no_state, other_serial}
use Rattle.plane.specs.declared.Point.{Point}
use Rattle.units.specs.declared.Fix.{Fix}
use Rattle.units.specs.Position.{position_of}
use Rattle.dubins.specs.declared.Ends.{Ends}
use Rattle.dubins.specs.declared.Path.{Path}
use Rattle.dubins.specs.Choice.{shortest_of}
use Rattle.guidance.specs.declared.Guidance.{Guidance}
use Rattle.guidance.specs.declared.Command.{Command}
use Rattle.guidance.specs.declared.Command.TheVariants.{Nothing}
use Rattle.guidance.specs.declared.View.TheVariants.{Level, InSpace}
use Rattle.guidance.specs.Guide.{line_guide, fillet_guide, last_leg_guide, dubins_guide}
use Rattle.plan.specs.declared.Mode.{Mode}
use Rattle.plan.specs.declared.Mode.TheVariants.{Lines, Fillets, Dubins}
use Rattle.plan.specs.declared.Plan.{Plan}
use Rattle.plan.specs.Places.{plan_point, plan_course}
use Rattle.plan.specs.Rules.{ends_at}
use Rattle.manager.specs.declared.Progress.{Progress}
use Rattle.manager.specs.declared.State.{State}
use Rattle.manager.specs.declared.Decided.{Decided}
use Rattle.manager.specs.declared.Stepped.{Stepped}
use Rattle.manager.specs.State.{on_last_leg, last_phase, valid_of}

-- the leg of section 12 that is flown at an index of a Dubins plan; places are counted from 0
abbrev pub ends_of : Plan → ℕ → Ends
ends_of plan i = ends_at plan.head.radius (plan_point plan) (plan_course plan) (i - 2) (i - 1)

-- its guidance by the path that was worked out. A leg of a valid state has one (the law valid-path of proofs/StateLaws).
unfoldable pub path_guide : Ends → ℕ → Point → Option Path → Guidance
path_guide ends phase p (Some path) = dubins_guide ends path phase p
path_guide ends phase p None = record { command = Nothing; heading = 0; passed = false }

-- 9.2: what each mode does at index i, with the points i−1, i and i+1. 13.2: the last leg has no point after it; lines and fillets have a rule
-- of their own there, fillets in north and east.
unfoldable pub guide_of : Mode → Plan → ℕ → ℕ → Point → Guidance
guide_of Lines plan i phase p =
    choose (on_last_leg plan.head.count i) (last_leg_guide InSpace (plan_point plan (i - 2)) (plan_point plan (i - 1)) p)
    (line_guide (plan_point plan (i - 2)) (plan_point plan (i - 1)) (plan_point plan i) p)
guide_of Fillets plan i phase p =
    choose (on_last_leg plan.head.count i) (last_leg_guide Level (plan_point plan (i - 2)) (plan_point plan (i - 1)) p)
    (fillet_guide (plan_point plan (i - 2)) (plan_point plan (i - 1)) (plan_point plan i) plan.head.radius phase p)
guide_of Dubins plan i phase p = path_guide (ends_of plan i) phase p (shortest_of (ends_of plan i))

-- 9.3: the next phase; after the last one the next index with phase 1; at the last index of all nothing moves, and finished is set
unfoldable pub next_of : Mode → ℕ → Progress → Bool → Progress
next_of mode n p passed =
    choose passed
    (choose (ltb p.phase (last_phase mode n p.index))
    (record { index = p.index; phase = p.phase + 1; finished = p.finished })
    (choose (on_last_leg n p.index)
    (record { index = p.index; phase = p.phase; finished = true })
    (record { index = p.index + 1; phase = 1; finished = p.finished })))
    p

-- what is decided of a fix, with the plan that is flown on
abbrev pub stepped_by : Plan → Decided → Stepped
stepped_by plan d = record { answer = d.answer; state = record { plan = plan; progress = d.progress } }

-- a number, a command and a heading, with how far the plan is flown after them
abbrev pub answering : ℕ → Command → ℕ → Progress → Decided
answering number command heading p =
    record {
      answer =
          record {
            refusal = number;
            place = 0;
            command = command;
            heading = heading;
            index = p.index;
            phase = p.phase;
            finished = p.finished;
          };
      progress = p;
    }

-- 9.7: no command, heading 0, and the state where it was
abbrev pub refused_at : Progress → ℕ → Decided
refused_at p number = answering number Nothing 0 p

unfoldable pub refuse_of : State → ℕ → Stepped
refuse_of s number = stepped_by s.plan (refused_at s.progress number)

-- 9.6: the command and its heading, and where the next state is
abbrev pub answered : Guidance → Progress → Decided
answered g next = answering 0 g.command g.heading next

abbrev pub guide_here : State → Point → Guidance
guide_here s p = guide_of s.plan.head.mode s.plan s.progress.index s.progress.phase p

abbrev pub next_here : State → Bool → Progress
next_here s passed = next_of s.plan.head.mode s.plan.head.count s.progress passed

unfoldable pub moved_of : State → Point → Stepped
moved_of s p = stepped_by s.plan (answered (guide_here s p) (next_here s (guide_here s p).passed))

unfoldable pub located_step : State → Option Point → Stepped
located_step s (Some p) = moved_of s p
located_step s None = refuse_of s no_position

-- 6.3: the order of 14, 15 and 13
unfoldable pub step_of : State → ℕ → Fix → Stepped
step_of s serial fix =
    choose (valid_of s) (choose (eqb serial s.plan.head.serial) (located_step s (position_of fix)) (refuse_of s other_serial)) (refuse_of s no_state)
