-- Clauses 15.14, 15.16: a state that 14 does not refuse flies: it answers every fix in range that names its serial, and so does the state after
-- it. Assumes nothing.
use Rattle.std.specs.Prelude.{◌≡◌, true, ℕ, Some}
use Rattle.plane.specs.declared.Point.{Point}
use Rattle.units.specs.declared.Fix.{Fix}
use Rattle.units.specs.Position.{position_of}
use Rattle.guidance.specs.Commands.{PlainCommand, HasCommand}
use Rattle.manager.specs.declared.State.{State}
use Rattle.manager.specs.declared.Stepped.{Stepped}
use Rattle.manager.specs.State.{valid_of}

-- what r, the answer to a fix on s, owes whoever flies s
pub record Flies (s : State) (serial : ℕ) (fix : Fix) (r : Stepped) : Type 0 where
  -- a state that 14 does not refuse answers a fix that names its serial at a position in range: no refusal, and a line or a circle
  pub accepted : valid_of s ≡ true → serial ≡ s.plan.head.serial → (p : Point) → position_of fix ≡ Some p
      → (r.answer.refusal ≡ 0) × HasCommand r.answer.command
  -- the state returned is of the same plan, and one that 14 does not refuse either
  pub keeps : r.state.plan ≡ s.plan
  pub onward : valid_of s ≡ true → valid_of r.state ≡ true
  -- every number of the command is a finite f32 and not −0.0, whatever the state and the fix
  pub plain : PlainCommand r.answer.command
