-- `lesser_turn` gives the lesser way round between two courses. Assumes nothing.
use Rattle.std.proofs.Common.{arith}
use Rattle.std.proofs.lemmas.Bool.Decides.{nat_tests}
use Rattle.conditions.specs.Choose.{choose}
use Rattle.integers.proofs.WrapLaws.{wrap-sub}
use Rattle.fillets.specs.Corners.{lesser_turn}
use Rattle.fillets.proofs.lesser_turn.Goals as goal

pub returns : goal.returns
unfolding lesser_turn choose
returns c =
    let w = wrap-sub c.args.k c.args.j (omega arith) in
    (grind (arith, nat_tests, w, c.min.ensures), omega (arith, c.min.ensures))
