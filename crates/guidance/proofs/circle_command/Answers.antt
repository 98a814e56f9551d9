-- `circle_command` gives the command of a circle. Assumes nothing.
use mathlib.Core.Path.{ap, ◌∙◌}
use lib.IntN.{pos}
use mir.Syntax.{w8}
use Rattle.integers.proofs.BoundLaws.{bound, kept}
use Rattle.integers.proofs.ValueLaws.{value, is}
use Rattle.units.specs.Metres.{metres_of}
use Rattle.guidance.specs.declared.Command.TheVariants.{Circle}
use Rattle.guidance.specs.Commands.{circle_command}
use Rattle.guidance.proofs.CommandLaws.{command-means}
use Rattle.guidance.proofs.circle_command.Goals as goal

pub metres-requires : goal.metres-requires
metres-requires c = search bound depth 20 fits 5000

pub returns : goal.returns
unfolding circle_command
returns c =
    let r = c.metres.ensures.0 ∙ ap metres_of {y = pos c.args.radius} (is (search value depth 20 fits 5000)) in
    (λ i. Circle (c.place_metres-place.ensures i) (r i) ((kept w8 c.sense.ensures.1 tt ∙ c.sense.ensures.0) i), command-means)
