-- Clauses 15.7, 15.10, 15.11, 15.14 to 15.16: a run over a list of fixes, each from the state before it. Assumes nothing.
use Rattle.std.specs.Prelude.{◌≡◌, List, [], ◌∷◌, ℕ, Some}
use Rattle.plane.specs.declared.Point.{Point}
use Rattle.units.specs.declared.Fix.{Fix}
use Rattle.units.specs.Position.{position_of}
use Rattle.guidance.specs.Commands.{PlainCommand, HasCommand}
use Rattle.manager.specs.declared.State.{State}
use Rattle.manager.specs.declared.Stepped.{Stepped}
use Rattle.manager.specs.Step.{step_of}

-- a fix and the serial that it names
pub record Named : Type 0 where
  pub serial : ℕ
  pub fix : Fix

abbrev pub step_by : State → Named → Stepped
step_by s x = step_of s x.serial x.fix

-- what each fix of a list answers, with the state that it returns
unfoldable pub run : State → List Named → List Stepped
run s [] = []
run s (x ∷ xs) = step_by s x ∷ run (step_by s x).state xs

-- the same said of any list of answers: a chain from a state
pub data Chain : State → List Named → List Stepped → Type 0 where
  none : (s : State) → Chain s [] []
  next : (s : State) (x : Named) (xs : List Named) (os : List Stepped) → Chain (step_by s x).state xs os → Chain s (x ∷ xs) (step_by s x ∷ os)

-- 15.10: equal in all that a fix answers and gives back
pub record Alike (a b : Stepped) : Type 0 where
  pub refusal : a.answer.refusal ≡ b.answer.refusal
  pub place : a.answer.place ≡ b.answer.place
  pub command : a.answer.command ≡ b.answer.command
  pub heading : a.answer.heading ≡ b.answer.heading
  pub index : a.answer.index ≡ b.answer.index
  pub phase : a.answer.phase ≡ b.answer.phase
  pub finished : a.answer.finished ≡ b.answer.finished
  pub state : a.state ≡ b.state

-- two runs, fix by fix, and equally many
pub data AlikeRuns : List Stepped → List Stepped → Type 0 where
  ended : AlikeRuns [] []
  onward : (a b : Stepped) (xs ys : List Stepped) → Alike a b → AlikeRuns xs ys → AlikeRuns (a ∷ xs) (b ∷ ys)

-- ---- what the answers to a list of fixes have to be, fix by fix, and equally many
-- a fix that names the serial at a position in range is answered with a line or a circle
abbrev pub Answered : ℕ → List Named → List Stepped → Type 0
Answered serial [] [] = Unit {0}
Answered serial (x ∷ xs) (o ∷ os) =
    (x.serial ≡ serial → (p : Point) → position_of x.fix ≡ Some p → (o.answer.refusal ≡ 0) × HasCommand o.answer.command) × Answered serial xs os
Answered serial [] (o ∷ os) = ⊥
Answered serial (x ∷ xs) [] = ⊥

-- every number of every command is a finite f32 and not −0.0
abbrev pub PlainRun : List Stepped → Type 0
PlainRun [] = Unit {0}
PlainRun (o ∷ os) = PlainCommand o.answer.command × PlainRun os
