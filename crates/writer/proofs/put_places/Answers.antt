-- `put_places` writes the records of all points. The loop's invariant: what is left, written from the offset reached, gives what the whole
-- gives. Assumes nothing.
use borrow.Author.Rules.{rules}
use Rattle.plan.specs.Lent.{lent_plan}
use Rattle.writer.proofs.PlaceLaws.{reads_at, starts, ends, fits, goes_on}
use Rattle.writer.proofs.put_places.Goals as goal

pub loop-i-init : goal.loop-i-init
loop-i-init c =
    starts (lent_plan c.args.plan.now) c.args.from c.args.file.now c.requires.1

pub put_place_at-at-requires : goal.put_place_at-at-requires
put_place_at-at-requires c =
    let p = lent_plan c.args.plan.now in
    (reads_at p c.requires.0 c.loop-i.i c.loop-i-test.true, fits p c.args.from c.args.file.now _ _ _ c.loop-i.invariant c.loop-i-test.true _ c.given_of-given.ensures)

pub loop-i-preserved : goal.loop-i-preserved
loop-i-preserved c =
    goes_on (lent_plan c.args.plan.now) c.args.from c.args.file.now _ _ _ c.loop-i.invariant c.loop-i-test.true _ c.given_of-given.ensures _ _ (search rules) (c.put_place_at-at.ensures.file_after, c.put_place_at-at.ensures.value)

pub shape_of-file : goal.shape_of-file
shape_of-file c = c.loop-i.invariant.kept

pub returns : goal.returns
returns c =
    ends (lent_plan c.args.plan.now) c.args.from c.args.file.now _ _ _ c.loop-i.invariant c.loop-i-test.false
