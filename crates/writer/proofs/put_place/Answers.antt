-- `put_place` writes the record of a point, and that of its course if it has one. Assumes nothing.
use mathlib.Core.Path.{ap, ◌∙◌}
use Prim.Native.Nat.{◌+◌}
use native.Mathlib.Omega.{arith}
use lib.ListN.{length-append}
use Rattle.records.specs.Numbers.{u16_bytes}
use Rattle.records.specs.Kinds.{point_bytes}
use Rattle.buffers.specs.Splice.{splice}
use Rattle.writer.specs.Pieces.{record_bytes, place_bytes}
use Rattle.buffers.proofs.SpliceLaws.{further}
use Rattle.writer.proofs.PieceLaws.{point-record, value-record, place-least, course-length}
use Rattle.writer.proofs.put_place.Goals as goal

pub put_point_record-requires : goal.put_point_record-requires
put_point_record-requires c =
    let a = c.args in
    omega (arith, c.requires, place-least a.point a.course)

pub returns-in-None : goal.returns-in-None
unfolding place_bytes
returns-in-None c =
    let a = c.args in
    rw c.in-None.is (record { file_after = c.put_point_record.ensures; value = omega (arith, point-record a.point) })

pub put_value_record-requires : goal.put_value_record-requires
put_value_record-requires c =
    let a = c.args in
    omega (arith, c.requires, course-length a.point c.in-Some.is)

pub returns-in-Some : goal.returns-in-Some
unfolding place_bytes
returns-in-Some c =
    let a = c.args in
    let x = record_bytes 1 (point_bytes a.point) in
    let y = record_bytes 3 (u16_bytes c.in-Some.course) in
    rw c.in-Some.is (record {
      file_after = c.put_value_record.ensures
          ∙ ap (splice (a.at + 14) y) c.put_point_record.ensures
          ∙ further a.at 14 x y a.file.now (point-record a.point) (omega (arith, c.requires));
      value = simp length-append (omega (arith, point-record a.point, value-record 3 c.in-Some.course));
    })
