-- `way_of` gives the way of a case, with its length. Assumes nothing.
use Rattle.dubins.specs.Cases.{path_of}
use Rattle.dubins.specs.Ways.{path_along}
use Rattle.dubins.proofs.way_of.Goals as goal

pub returns : goal.returns
unfolding path_along path_of
returns c =
    let h = c.requires in
    (simp c.case_length-length.ensures.0, record { course = h.1.1.1; length = c.case_length-length.ensures.1; start = h.1.0.start; end = h.1.0.end })
