-- `show_all` ends: each question takes some bytes, and its measure is what is left. Assumes nothing.
use Rattle.std.proofs.Common.{length}
use Rattle.answers.proofs.show_all.Given as goal

abbrev pub decreases-loop-question : goal.decreases-loop-question
decreases-loop-question l = length l.rest
