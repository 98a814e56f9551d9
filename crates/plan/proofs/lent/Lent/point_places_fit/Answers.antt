-- `point_places_fit` decides whether the point of every place fits. Assumes nothing.
use mathlib.Core.Path.{◌≡◌, sym, ◌∙◌}
use Prim.Native.Nat.{◌-◌}
use lib.Dec.{ltb}
use Prim.Native.Nat.{ℕ}
use Rattle.conditions.specs.Both.{both}
use Rattle.conditions.proofs.Bools.{both-on, both-off, both-both}
use Rattle.refusals.specs.Sweep.{every}
use Rattle.plan.specs.Limits.{most_points, most_level, most_down, number_fits}
use Rattle.plan.specs.Places.{number_at}
use Rattle.plan.specs.Lent.{lent_plan}
use Rattle.plan.proofs.StandLaws.{points-parts}
use Rattle.plan.proofs.lent.Lent.point_places_fit.Goals as goal
use Rattle.plan.proofs.lent.Lent.point_places_fit.Goals.{Joined-number_places_fit, then-number_places_fit, else-number_places_fit}
use mathlib.Core.Bool.{Bool}
use mathlib.Core.List.{List}
use lib.IntN.{ℤ}

-- the numbers of one kind fit
abbrev kind : List ℤ → ℕ → ℕ → Bool
kind numbers n most = every (λ (i : ℕ). number_fits (ltb i n) most most (number_at numbers i)) (most_points - 0) 0

-- what the first two kinds give
level : (c : Joined-number_places_fit) → let p = lent_plan c.args.self.now in c.if-number_places_fit.value ≡ both (kind p.norths p.head.count most_level) (kind p.easts p.head.count most_level)
level c =
    let p = lent_plan c.args.self.now in
    let n = kind p.norths p.head.count most_level in
    let e = kind p.easts p.head.count most_level in
    elim c.if-number_places_fit.branch [
      | then-number_places_fit w ↦ w.value-is ∙ w.number_places_fit-then-number_places_fit.ensures ∙ sym (both-on n e (sym c.number_places_fit.ensures ∙ w.if-number_places_fit.true))
      | else-number_places_fit w ↦ w.value-is ∙ w.if-number_places_fit.false ∙ sym (both-off n e (sym c.number_places_fit.ensures ∙ w.if-number_places_fit.false))
    ]

pub returns-then-number_places_fit-2 : goal.returns-then-number_places_fit-2
returns-then-number_places_fit-2 c =
    let p = lent_plan c.args.self.now in
    let n = kind p.norths p.head.count most_level in
    let e = kind p.easts p.head.count most_level in
    let d = kind p.downs p.head.count most_down in
    let both-level = sym (level (goal.at.returns-then-number_places_fit-2 c).Joined-number_places_fit) ∙ c.if-number_places_fit-2.true in
    c.number_places_fit-then-number_places_fit-2.ensures
    ∙ sym (both-on (both n e) d both-level)
    ∙ both-both n e d
    ∙ sym (points-parts p.norths p.easts p.downs p.head.count)

pub returns-else-number_places_fit-2 : goal.returns-else-number_places_fit-2
returns-else-number_places_fit-2 c =
    let p = lent_plan c.args.self.now in
    let n = kind p.norths p.head.count most_level in
    let e = kind p.easts p.head.count most_level in
    let d = kind p.downs p.head.count most_down in
    let both-level = sym (level (goal.at.returns-else-number_places_fit-2 c).Joined-number_places_fit) ∙ c.if-number_places_fit-2.false in
    c.if-number_places_fit-2.false
    ∙ sym (both-off (both n e) d both-level)
    ∙ both-both n e d
    ∙ sym (points-parts p.norths p.easts p.downs p.head.count)
