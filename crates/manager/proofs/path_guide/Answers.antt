-- `path_guide` gives the guidance on a Dubins leg. Assumes nothing.
use mathlib.Core.Path.{refl, sym, ◌∙◌}
use native.Mathlib.Omega.{arith}
use Rattle.manager.specs.Step.{path_guide}
use Rattle.manager.proofs.path_guide.Goals as goal

pub returns-in-Some : goal.returns-in-Some
unfolding path_guide
returns-in-Some c =
    let e = sym c.shortest_path.ensures.value ∙ c.in-Some.is in
    rw e c.dubins_guide.ensures

pub returns-in-None : goal.returns-in-None
unfolding path_guide
returns-in-None c =
    let e = sym c.shortest_path.ensures.value ∙ c.in-None.is in
    rw e (refl, omega arith)
