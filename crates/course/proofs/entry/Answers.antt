-- `entry` gives S[k] of the table that is lent. Assumes nothing.
use Rattle.course.proofs.entry.Goals as goal

pub returns : goal.returns
returns c = c.table.ensures c.args.k c.requires
