-- `State::step` answers one fix of any state, serial and floats. Assumes nothing.
use mathlib.Core.Path.{◌≡◌, sym, subst}
use Prim.Native.Nat.{ℕ}
use Rattle.units.specs.declared.Fix.{Fix}
use Rattle.manager.specs.declared.State.{State}
use Rattle.manager.specs.declared.Stepped.{Stepped}
use Rattle.manager.specs.Step.{step_of}
use Rattle.manager.specs.Finish.{Finishes}
use Rattle.manager.specs.Flies.{Flies}
use Rattle.manager.specs.LastLeg.{LastLeg}
use Rattle.manager.proofs.FinishLaws.{finishes}
use Rattle.manager.proofs.FliesLaws.{flies}
use Rattle.manager.proofs.LastLegExamples.{last-leg}
use Rattle.manager.proofs.State.step.Goals as goal

-- an equation, and with it the end and the flight
promise : (s : State) (serial : ℕ) (fix : Fix) {r : Stepped} → r ≡ step_of s serial fix → (r ≡ step_of s serial fix) × (Finishes s fix r × (Flies s serial fix r × LastLeg))
promise s serial fix e = (e, (subst (Finishes s fix) (sym e) (finishes s serial fix), (subst (Flies s serial fix) (sym e) (flies s serial fix), last-leg)))

pub returns : goal.returns
returns c = promise _ _ _ (rw c.lent.ensures at c.decide-decided.ensures)
