-- `ends_number` gives refusals 12 and 17 of a Dubins leg, 12 first. Assumes nothing.
use mathlib.Core.Path.{◌≡◌, sym, ◌∙◌}
use mathlib.Core.Bool.{true}
use native.Mathlib.Omega.{arith}
use Rattle.conditions.specs.Choose.{choose}
use Rattle.refusals.specs.Sweep.{noted}
use Rattle.dubins.specs.Choice.{has_path_of}
use Rattle.dubins.proofs.FarLaws.{far-exists}
use Rattle.plan.specs.Rules.{ends_number}
use Rattle.plan.proofs.ends_number.Goals as goal
use Rattle.plan.proofs.ends_number.Goals.{then-ends-gt0-via-then-ends-gt0, then-ends-gt0-via-else-ends-gt0+then-has_path}

pub returns-then-not-far_apart : goal.returns-then-not-far_apart
unfolding ends_number choose noted
returns-then-not-far_apart c = rw (sym c.far_apart.ensures ∙ c.if-not-far_apart.true)

pub returns-then-ends-gt0 : goal.returns-then-ends-gt0
unfolding ends_number choose noted
returns-then-ends-gt0 c =
    let far = sym c.far_apart.ensures ∙ c.if-not-far_apart.false in
    let has : has_path_of c.args.ends ≡ true = elim c.then-ends-gt0.branch [
      | then-ends-gt0-via-then-ends-gt0 w ↦ far-exists c.args.ends (omega (arith, w.if-ends-gt0.true)) far
      | then-ends-gt0-via-else-ends-gt0+then-has_path w ↦ sym w.has_path.ensures.value ∙ w.if-has_path.true
    ] in
    rw (far, has)

pub returns : goal.returns
unfolding ends_number choose noted
returns c =
    let far = sym c.far_apart.ensures ∙ c.if-not-far_apart.false in
    let has = sym c.has_path.ensures.value ∙ c.if-has_path.false in
    rw (far, has)
