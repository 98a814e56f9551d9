-- `round_corner` gives the corner at a point. Assumes nothing.
use mathlib.Core.Path.{◌≡◌, sym, ◌∙◌, subst}
use Prim.Native.Nat.{ℕ, ◌≤◌}
use Rattle.course.specs.Bearing.{bearing_of}
use Rattle.fillets.specs.Corners.{lesser_turn, turn_between, corner_turn, corner_of}
use Rattle.fillets.proofs.round_corner.Goals as goal
use Rattle.fillets.proofs.round_corner.Goals.{After-lesser_turn}

-- the turn that was worked out is the turn at the point
turn_is : (c : After-lesser_turn) →
    let s = c.args in
    c.lesser_turn.result ≡ corner_turn s.before s.point s.after
unfolding turn_between corner_turn
turn_is c =
    c.lesser_turn.ensures.0
    ∙ (λ i. lesser_turn (c.bearing-j.ensures.value i) (c.bearing-k.ensures.value i))
    ∙ (λ i. lesser_turn (bearing_of (c.level_leg-a.ensures.0 i)) (bearing_of (c.level_leg-b.ensures.0 i)))

pub tangent_length-t-requires : goal.tangent_length-t-requires
tangent_length-t-requires c =
    (c.requires.1.0, subst (λ (n : ℕ). n ≤ 1792) (sym (turn_is c)) c.requires.1.1)

pub returns : goal.returns
unfolding corner_of
returns c = (
  c.rounded.ensures.value.0
      ∙ simp (c.level.ensures.0, c.turns_right-right.ensures, c.tangent_length-t.ensures.value, turn_is c.before.before.before.before, c.bearing-k.ensures.value, c.bearing-j.ensures.value, c.level_leg-b.ensures.0, c.level_leg-a.ensures.0),
  c.rounded.ensures.value.1,
)
