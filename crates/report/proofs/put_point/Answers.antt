-- `put_point` writes the three numbers of a point. Assumes nothing.
use native.Mathlib.Omega.{arith}
use mir.Syntax.{w32}
use mir.Val.{SFits}
use mir.Facts.{to_z-of_z}
use Rattle.text.proofs.AddedLaws.{joined}
use Rattle.report.specs.Listing.{point_text}
use borrow.Author.Rules.{rules}
use Rattle.report.proofs.put_point.Goals as goal

pub returns : goal.returns
unfolding point_text
returns c =
    let fn : SFits w32 c.args.point.north = search rules in
    let fe : SFits w32 c.args.point.east = search rules in
    let fd : SFits w32 c.args.point.down = search rules in
    let wn = simp to_z-of_z at c.put_number.ensures in
    let we = simp to_z-of_z at c.put_number-2.ensures in
    let wd = simp to_z-of_z at c.put_number-3.ensures in
    (joined wn.0 (joined we.0 wd.0), omega (arith, wn.1, we.1, wd.1))
