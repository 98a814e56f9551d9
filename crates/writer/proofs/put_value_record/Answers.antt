-- `put_value_record` writes the head of the record of a value, and its body behind. Assumes nothing.
use native.Mathlib.Omega.{arith}
use Rattle.records.specs.Numbers.{u16_bytes}
use Rattle.records.proofs.WrittenLaws.{u16-length}
use Rattle.writer.proofs.PieceLaws.{headed}
use Rattle.writer.proofs.put_value_record.Goals as goal

pub returns : goal.returns
returns c =
    let a = c.args in
    headed a.at a.kind (u16_bytes a.value) a.file.now (omega (arith, c.requires)) (u16-length a.value)
    c.put_head.ensures c.put_u16.ensures
