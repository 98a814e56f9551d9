-- `put_plan` writes header, radius and places, one behind the other. Assumes nothing.
use native.Mathlib.Omega.{arith}
use Rattle.plan.specs.Lent.{lent_plan}
use Rattle.writer.proofs.Anchors.{file-facts}
use Rattle.writer.proofs.PieceLaws.{file-room, all-written}
use Rattle.writer.proofs.put_plan.Goals as goal

pub put_header-requires : goal.put_header-requires
put_header-requires c =
    omega (arith, c.requires.1, file-room c.args.version (lent_plan c.args.plan.now))

pub put_radius-at-requires : goal.put_radius-at-requires
put_radius-at-requires c =
    omega (arith, c.requires.1, file-room c.args.version (lent_plan c.args.plan.now))

pub put_places-requires : goal.put_places-requires
put_places-requires c =
    (c.requires.0, omega (arith, c.requires.1, c.put_radius-at.ensures.value, file-room c.args.version (lent_plan c.args.plan.now)))

pub returns : goal.returns
returns c =
    let a = c.args in
    let p = lent_plan a.plan.now in
    let w = c.area_length-size.ensures.0 p.norths p.easts p.downs p.courses in
    record { file_after = all-written a.version p a.file.now w c.put_header.ensures (c.put_radius-at.ensures.file_after, c.put_radius-at.ensures.value) c.put_places.ensures; file_facts = file-facts }
