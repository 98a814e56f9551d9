-- `case_length` adds up the straight part and both arcs. Assumes nothing.
use native.Mathlib.Omega.{arith}
use Rattle.dubins.specs.Cases.{case_length}
use Rattle.dubins.proofs.case_length.Goals as goal

pub returns : goal.returns
unfolding case_length
returns c =
    (simp (c.arc.ensures.0, c.turn-end_turn.ensures.0, c.ends_right.ensures, c.turn-start_turn.ensures.0, c.starts_right.ensures), omega (arith, c.arc.ensures.1, c.requires.1.0))
