-- `least_turn` gives what both turns of a case come to at least. Assumes nothing.
use mathlib.Core.Path.{◌≡◌, sym, ◌∙◌}
use mathlib.Core.Bool.{true, false}
use Prim.Native.Nat.{min}
use native.Mathlib.Omega.{arith}
use Rattle.dubins.proofs.LeastLaws.{like-sides, any-sides, like-ends}
use Rattle.dubins.proofs.least_turn.Goals as goal

pub returns-then-starts_right : goal.returns-then-starts_right
returns-then-starts_right c =
    let e = sym c.starts_right.ensures ∙ c.if-starts_right.true in
    let k = like-ends c.args.case (sym c.same_side.ensures ∙ c.if-same_side.true) ∙ e in
    (λ θ h. simp (e, k) (omega (arith, c.turn-right.ensures.0, like-sides c.args.ends.leave θ c.args.ends.arrive c.requires.leave h c.requires.arrive true)), c.turn-right.ensures.1)

pub returns-else-starts_right : goal.returns-else-starts_right
returns-else-starts_right c =
    let e = sym c.starts_right.ensures ∙ c.if-starts_right.false in
    let k = like-ends c.args.case (sym c.same_side.ensures ∙ c.if-same_side.true) ∙ e in
    (λ θ h. simp (e, k) (omega (arith, c.turn-left.ensures.0, like-sides c.args.ends.leave θ c.args.ends.arrive c.requires.leave h c.requires.arrive false)), c.turn-left.ensures.1)

pub returns-else-same_side : goal.returns-else-same_side
returns-else-same_side c =
    let least : c.min.result ≡ min c.turn-right.result c.turn-left.result = c.min.ensures in
    (λ θ h. any-sides c.args.ends.leave θ c.args.ends.arrive c.requires.leave h c.requires.arrive c.min.result (omega (arith, least, c.turn-right.ensures.0)) (omega (arith, least, c.turn-left.ensures.0)) _ _, omega (arith, least, c.turn-right.ensures.1))
