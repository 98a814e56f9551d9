-- `put_header` writes the mark and three numbers. Assumes nothing.
use mathlib.Core.Path.{refl}
use mathlib.Core.List.{◌++◌}
use Rattle.records.specs.Numbers.{u16_bytes, u32_bytes}
use Rattle.writer.specs.Pieces.{mark, header_bytes}
use Rattle.buffers.proofs.SpliceLaws.{joined}
use Rattle.writer.proofs.put_header.Goals as goal

pub returns : goal.returns
unfolding header_bytes u16_bytes u32_bytes
returns c =
    let a = c.args in
    let old = a.file.now in
    let v = u16_bytes a.version in
    let s = u32_bytes a.serial in
    let e = joined 3 mark v old refl c.put_mark.ensures c.put_u16.ensures in
    let f = joined 5 (mark ++ v) s old refl e c.put_u32.ensures in
    joined 9 ((mark ++ v) ++ s) (u16_bytes a.size) old refl f c.put_u16-2.ensures
