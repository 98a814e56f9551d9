-- `course_command` gives the line along a course. Assumes nothing.
use mathlib.Core.Path.{ap, ◌∙◌}
use mir.Syntax.{w64}
use Rattle.integers.proofs.BoundLaws.{kept}
use Rattle.course.specs.declared.Vector.{Vector}
use Rattle.course.specs.Direction.{direction_of}
use Rattle.units.specs.Metres.{direction_part_of}
use Rattle.guidance.specs.declared.Command.TheVariants.{Line}
use Rattle.guidance.specs.Commands.{course_command}
use Rattle.guidance.proofs.course_command.Goals as goal

pub returns : goal.returns
unfolding course_command
returns c =
    let θ = c.args.course in
    let h = c.direction-d.ensures in
    let n = c.direction_part.ensures.0 ∙ ap direction_part_of (kept w64 h.1.north tt ∙ ap (λ (v : Vector). v.north) {x = c.direction-d.result} {y = direction_of θ} h.0) in
    let e = c.direction_part-2.ensures.0 ∙ ap direction_part_of (kept w64 h.1.east tt ∙ ap (λ (v : Vector). v.east) {x = c.direction-d.result} {y = direction_of θ} h.0) in
    λ i. Line (c.place_metres-start.ensures i) (record { north = n i; east = e i; down = c.direction_part-3.ensures.0 i })
