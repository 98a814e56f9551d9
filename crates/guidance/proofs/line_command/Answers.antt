-- `line_command` gives the line of a leg. Assumes nothing.
use mathlib.Core.Path.{ap, ◌∙◌}
use Rattle.course.specs.declared.Vector.{Vector}
use Rattle.guidance.specs.declared.Command.TheVariants.{Line}
use Rattle.guidance.specs.Commands.{place_metres, leg_metres, line_command}
use Rattle.guidance.proofs.line_command.Goals as goal

pub returns : goal.returns
unfolding line_command
returns c =
    let a = c.args.a in
    let start = c.place_metres-start.ensures ∙ ap (λ (v : Vector). place_metres v a.down) c.level.ensures.0 in
    let direction = c.leg_metres-direction.ensures ∙ ap leg_metres c.leg_between.ensures.0 in
    λ i. Line (start i) (direction i)
