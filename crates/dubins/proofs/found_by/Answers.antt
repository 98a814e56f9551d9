-- `found_by` gives the path of a case that was tried. Assumes nothing.
use Rattle.std.proofs.Common.{rules, ◌≡◌, subst, sym}
use Rattle.dubins.specs.Limits.{IsFound}
use Rattle.dubins.specs.Ways.{found_by}
use Rattle.dubins.proofs.PathBounds.{found-is}
use Rattle.dubins.proofs.found_by.Goals as goal

pub returns : goal.returns
unfolding found_by
returns c =
    let e : c.map.result ≡ found_by c.args.radius c.args.tried = search rules in
    (e, subst IsFound (sym e) (found-is c.args.radius c.args.tried c.requires.0 c.requires.1))
