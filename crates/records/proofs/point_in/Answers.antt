-- `point_in` reads the three numbers of a point. Assumes nothing.
use Rattle.records.proofs.NumberLaws.{point-read}
use Rattle.records.proofs.point_in.Goals as goal

pub returns : goal.returns
returns c =
    point-read _ _ _ _ (record { sfits = c.i32_at-north.type_inv }) (record { sfits = c.i32_at-east.type_inv }) (record { sfits = c.i32_at-down.type_inv })
    c.i32_at-north.ensures c.i32_at-east.ensures c.i32_at-down.ensures
