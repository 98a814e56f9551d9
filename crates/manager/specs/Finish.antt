-- Clause 13.6: a flight of any mode can be finished, and stays so. Assumes nothing.
use Rattle.std.specs.Prelude.{◌≡◌, true, ◌-◌, Some}
use Rattle.plane.specs.declared.Point.{Point}
use Rattle.units.specs.declared.Fix.{Fix}
use Rattle.units.specs.Position.{position_of}
use Rattle.plan.specs.declared.Plan.{Plan}
use Rattle.plan.specs.Places.{plan_point}
use Rattle.manager.specs.declared.State.{State}
use Rattle.manager.specs.declared.Stepped.{Stepped}
use Rattle.manager.specs.State.{last_index, at_end}

-- point N; places are counted from 0
abbrev pub last_point : Plan → Point
last_point plan = plan_point plan (last_index plan.head.count - 1)

-- what r, the answer to a fix on s, has to do with the end
pub record Finishes (s : State) (fix : Fix) (r : Stepped) : Type 0 where
  -- at the last index and phase an accepted fix at the last point sets finished
  pub sets : at_end s.plan.head.mode s.plan.head.count s.progress ≡ true → position_of fix ≡ Some (last_point s.plan)
      → r.answer.refusal ≡ 0 → r.state.progress.finished ≡ true
  -- once it is set, no fix unsets it, nor moves index or phase
  pub stays : s.progress.finished ≡ true → r.state ≡ s
