-- `easy_at` answers yes only where the leg to a place is so long and the turn there is easy. Assumes nothing.
use mathlib.Core.Path.{refl, ap, ◌∙◌, subst}
use mathlib.Core.Bool.{false}
use Prim.Native.Nat.{ℕ, ◌≤◌}
use Rattle.conditions.proofs.Bools.{clash}
use Rattle.plane.specs.Level.{level_leg_of, square_of}
use Rattle.fillets.specs.Corners.{turn_between, corner_turn, easy_turn}
use Rattle.plan.proofs.PlaceLaws.{area-at}
use Rattle.plan.proofs.lent.Lent.easy_at.Goals as goal

pub level_leg-leg-requires : goal.level_leg-leg-requires
level_leg-leg-requires c =
    let h = c.requires.1 in
    (area-at c.point_at-a.ensures h.0, area-at c.point_at-b.ensures h.1.0)

pub level_leg-next-requires : goal.level_leg-next-requires
level_leg-next-requires c =
    let h = c.requires.1 in
    (area-at c.point_at-b.ensures h.1.0, area-at c.point_at-c.ensures h.1.1)

pub returns-then-least-squared : goal.returns-then-least-squared
unfolding corner_turn
returns-then-least-squared c =
    let least = c.args.least in
    let a = c.level_leg-leg.ensures.0 ∙ (λ t. level_leg_of (c.point_at-a.ensures t) (c.point_at-b.ensures t)) in
    let b = c.level_leg-next.ensures.0 ∙ (λ t. level_leg_of (c.point_at-b.ensures t) (c.point_at-c.ensures t)) in
    λ t.
    record {
      long = subst (λ (m : ℕ). least ≤ m) (c.squared.ensures.0 ∙ ap square_of a) c.if-least-squared.true;
      turn = subst (λ (m : ℕ). m ≤ easy_turn) (λ i. turn_between (a i) (b i)) (c.turns_easily.ensures.b_bound t);
    }

pub returns : goal.returns
returns c = λ t. clash false t refl
