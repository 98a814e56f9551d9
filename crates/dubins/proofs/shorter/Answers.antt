-- `shorter` gives the way whose path is the shorter of two, the earlier on a tie. Assumes nothing.
use Rattle.std.proofs.Common.{subst, sym, arith}
use Rattle.dubins.specs.Choice.{shorter_of}
use Rattle.dubins.specs.Ways.{IsTried, path_along, found_by}
use Rattle.dubins.proofs.ShortestLaws.{earlier-wins, later-wins}
use Rattle.dubins.proofs.shorter.Goals as goal

pub returns-then-earlier-later : goal.returns-then-earlier-later
unfolding found_by path_along
returns-then-earlier-later c =
    let e = c.in-Some.is in
    ((λ R. simp e (sym (earlier-wins (path_along R c.in-Some.earlier) (path_along R c.args.later) (omega (arith, c.if-earlier-later.true))))), subst IsTried e c.requires.0)

pub returns-else-earlier-later : goal.returns-else-earlier-later
unfolding found_by path_along
returns-else-earlier-later c =
    ((λ R. simp c.in-Some.is (sym (later-wins (path_along R c.in-Some.earlier) (path_along R c.args.later) (omega (arith, c.if-earlier-later.false))))), c.requires.1)

pub returns-in-None : goal.returns-in-None
unfolding found_by shorter_of
returns-in-None c = ((λ R. simp c.in-None.is), c.requires.1)
