-- `fly_all` takes the fixes in turn. The loop's invariant is `Underway`: what is left gives what the whole gives. Assumes nothing.
use mathlib.Core.Path.{ap, ◌∙◌}
use native.Mathlib.Omega.{arith}
use lib.ListN.{length, get_or}
use Rattle.units.specs.declared.Fix.{Fix}
use Rattle.manager.specs.Step.{step_of}
use Rattle.flight.proofs.ListLaws.{Fits, fits-means, starts, goes_on, last-is, answers-are, commands-are}
use Rattle.flight.proofs.fly_all.Goals as goal
use Rattle.flight.proofs.fly_all.Goals.{Start}

fitting : (c : Start) → Fits (length c.args.serials.now) (length c.args.fixes.now) (length c.args.answers.now) (length c.args.commands.now)
fitting c = fits-means _ _ _ _ c.requires

pub loop-i-init : goal.loop-i-init
loop-i-init c = starts _ _ _ _ _

pub fix_at-requires : goal.fix_at-requires
fix_at-requires c = omega (arith, (fitting (goal.at.fix_at-requires c).Start).fixes)

pub put_answer_at-requires : goal.put_answer_at-requires
put_answer_at-requires c = omega (arith, (fitting (goal.at.put_answer_at-requires c).Start).answers)

pub put_command_at-requires : goal.put_command_at-requires
put_command_at-requires c = omega (arith, (fitting (goal.at.put_command_at-requires c).Start).commands)

pub loop-i-preserved : goal.loop-i-preserved
loop-i-preserved c =
    let f = fitting (goal.at.loop-i-preserved c).Start in
    goes_on _ _ _ _ _ _ _ _ _ c.loop-i.invariant c.step-stepped.result _ _ c.loop-i-test.true
    (c.step-stepped.ensures.0 ∙ ap (λ (x : Fix). step_of c.loop-i.state (get_or c.args.serials.now c.loop-i.i 0) x) c.fix_at.ensures)
    (omega (arith, f.answers)) c.put_answer_at.ensures (omega (arith, f.commands)) c.put_command_at.ensures

pub returns-clause-value : goal.returns-clause-value
returns-clause-value c = last-is _ _ _ _ _ _ _ _ _ c.loop-i.invariant c.loop-i-test.false

pub returns-clause-answers_after : goal.returns-clause-answers_after
returns-clause-answers_after c = answers-are _ _ _ _ _ _ _ _ _ c.loop-i.invariant c.loop-i-test.false

pub returns-clause-commands_after : goal.returns-clause-commands_after
returns-clause-commands_after c = commands-are _ _ _ _ _ _ _ _ _ c.loop-i.invariant c.loop-i-test.false
