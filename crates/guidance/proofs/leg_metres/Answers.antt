-- `leg_metres` gives a leg in metres. Assumes nothing.
use mathlib.Core.Path.{ap, ◌∙◌}
use mir.Syntax.{w64}
use Rattle.integers.proofs.BoundLaws.{bound, kept}
use Rattle.units.specs.Metres.{metres_of}
use Rattle.guidance.specs.Commands.{leg_metres}
use Rattle.guidance.proofs.leg_metres.Goals as goal

pub metres-requires-3 : goal.metres-requires-3
metres-requires-3 c = search bound depth 20 fits 5000

pub returns : goal.returns
unfolding leg_metres
returns c =
    let h = c.requires in
    let n = c.metres.ensures.0 ∙ ap metres_of (kept w64 h.north tt) in
    let e = c.metres-2.ensures.0 ∙ ap metres_of (kept w64 h.east tt) in
    let d = c.metres-3.ensures.0 ∙ ap metres_of (kept w64 h.down tt) in
    λ i. record { north = n i; east = e i; down = d i }
