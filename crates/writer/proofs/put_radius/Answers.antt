-- `put_radius` writes the radius record, if any. Assumes nothing.
use mathlib.Core.Path.{sym, ap, ◌∙◌}
use native.Mathlib.Omega.{arith}
use lib.ListN.{length}
use Rattle.buffers.proofs.SpliceLaws.{unchanged}
use Rattle.writer.proofs.PieceLaws.{no-radius, some-radius, value-record}
use Rattle.writer.proofs.put_radius.Goals as goal

pub returns-then-radius-eq0 : goal.returns-then-radius-eq0
returns-then-radius-eq0 c =
    let a = c.args in
    rw (no-radius a.radius c.if-radius-eq0.true) (record { file_after = sym (unchanged 11 a.file.now); value = omega arith })

pub put_value_record-requires : goal.put_value_record-requires
put_value_record-requires c =
    let R = c.args.radius in
    omega (arith, c.requires, ap length (some-radius R c.if-radius-eq0.false) ∙ value-record 2 R)

pub returns : goal.returns
returns c =
    let a = c.args in
    rw (some-radius a.radius c.if-radius-eq0.false) (record { file_after = c.put_value_record.ensures; value = omega (arith, value-record 2 a.radius) })
