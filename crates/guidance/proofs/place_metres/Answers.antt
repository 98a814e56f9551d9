-- `place_metres` gives a place in metres. Assumes nothing.
use mathlib.Core.Path.{ap, ◌∙◌}
use mir.Syntax.{w64}
use Rattle.integers.proofs.BoundLaws.{overflow, bound, kept}
use Rattle.integers.proofs.ValueLaws.{value, is}
use Rattle.units.specs.Metres.{metres_of}
use Rattle.guidance.specs.Commands.{place_metres}
use Rattle.guidance.proofs.place_metres.Goals as goal

pub overflow_cast-p : goal.overflow_cast-p
overflow_cast-p c = search overflow depth 20 fits 5000

pub metres-requires-3 : goal.metres-requires-3
metres-requires-3 c = search bound depth 20 fits 5000

pub returns : goal.returns
unfolding place_metres
returns c =
    let v = c.requires.0 in
    let n = c.metres.ensures.0 ∙ ap metres_of (kept w64 v.north tt) in
    let e = c.metres-2.ensures.0 ∙ ap metres_of (kept w64 v.east tt) in
    let d = c.metres-3.ensures.0 ∙ ap metres_of {y = c.args.p.down} (is (search value depth 20 fits 5000)) in
    λ i. record { north = n i; east = e i; down = d i }
