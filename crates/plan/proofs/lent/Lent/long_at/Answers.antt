-- `long_at` answers yes only of a leg that is so long. Assumes nothing.
use mathlib.Core.Path.{ap, ◌∙◌, subst}
use Prim.Native.Nat.{ℕ, ◌≤◌}
use borrow.Author.Tests.{leb-true}
use Rattle.plane.specs.Level.{level_leg_of, square_of}
use Rattle.plan.proofs.PlaceLaws.{area-at}
use Rattle.plan.proofs.lent.Lent.long_at.Goals as goal

pub level_leg-requires : goal.level_leg-requires
level_leg-requires c =
    let h = c.requires.1 in
    (area-at c.point_at.ensures h.0, area-at c.point_at-2.ensures h.1)

pub returns : goal.returns
returns c =
    let least = c.args.least in
    let e = c.squared.ensures.0 ∙ ap square_of (c.level_leg.ensures.0 ∙ (λ t. level_leg_of (c.point_at.ensures t) (c.point_at-2.ensures t))) in
    λ t. subst (λ (n : ℕ). least ≤ n) e (leb-true least c.squared.result t)
