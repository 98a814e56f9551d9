-- `moved` answers a fix that no number refuses. Assumes nothing.
use Rattle.manager.specs.Step.{moved_of}
use Rattle.manager.proofs.StateLaws.{index-most}
use Rattle.manager.proofs.moved.Goals as goal

pub next-requires : goal.next-requires
next-requires c = index-most _ c.requires.0

pub returns : goal.returns
unfolding moved_of
returns c =
    rw (c.accept.ensures, c.next.ensures, c.guide-g.ensures.0)
