-- `put_point_record` writes the head of the record of a point, and its body behind. Assumes nothing.
use native.Mathlib.Omega.{arith}
use Rattle.records.specs.Kinds.{point_bytes}
use Rattle.records.proofs.WrittenLaws.{point-length}
use Rattle.writer.proofs.PieceLaws.{headed}
use Rattle.writer.proofs.put_point_record.Goals as goal

pub returns : goal.returns
returns c =
    let a = c.args in
    headed a.at 1 (point_bytes a.point) a.file.now (omega (arith, c.requires)) (point-length a.point)
    c.put_head.ensures c.put_point.ensures
