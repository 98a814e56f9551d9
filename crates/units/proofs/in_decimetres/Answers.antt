-- `in_decimetres` rounds each part of a fix, which is in its limit. Assumes nothing.
use lib.Dec.{lit≤}
use Rattle.units.proofs.LimitLaws.{limit-le}
use Rattle.units.proofs.PositionLaws.{north-in, east-in, down-in}
use Rattle.units.proofs.in_decimetres.Goals as goal

pub decimetres-requires : goal.decimetres-requires
decimetres-requires c = north-in c.args.fix c.requires

pub decimetres-requires-2 : goal.decimetres-requires-2
decimetres-requires-2 c = east-in c.args.fix c.requires

pub decimetres-requires-3 : goal.decimetres-requires-3
decimetres-requires-3 c = limit-le 10000 50000 c.args.fix.down (lit≤ tt) (down-in c.args.fix c.requires)
