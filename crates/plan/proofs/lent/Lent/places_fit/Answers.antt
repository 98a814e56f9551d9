-- `places_fit` decides whether every place of a plan fits. Assumes nothing.
use mathlib.Core.Path.{sym, ap, ◌∙◌}
use Rattle.conditions.proofs.Bools.{both-on, both-off}
use Rattle.plan.specs.Stands.{given_of}
use Rattle.plan.specs.Lent.{lent_plan}
use Rattle.plan.proofs.StandLaws.{places-parts, points_fit, courses_fit}
use Rattle.plan.proofs.LoadedLaws.{given-le}
use native.Mathlib.Omega.{arith}
use Rattle.plan.proofs.lent.Lent.places_fit.Goals as goal

pub number_places_fit-requires : goal.number_places_fit-requires
number_places_fit-requires c =
    let s = c.args.self.now in
    (omega (arith, c.given_of-given.ensures, given-le s.head.mode s.head.count, c.requires), s.long.course)

pub returns-then-point_places_fit : goal.returns-then-point_places_fit
returns-then-point_places_fit c =
    let p = lent_plan c.args.self.now in
    let points = sym c.point_places_fit.ensures ∙ c.if-point_places_fit.true in
    c.number_places_fit.ensures
    ∙ ap (courses_fit p.courses) c.given_of-given.ensures
    ∙ sym (places-parts p ∙ both-on (points_fit p.norths p.easts p.downs p.head.count) (courses_fit p.courses (given_of p.head.mode p.head.count)) points)

pub returns-else-point_places_fit : goal.returns-else-point_places_fit
returns-else-point_places_fit c =
    let p = lent_plan c.args.self.now in
    let points = sym c.point_places_fit.ensures ∙ c.if-point_places_fit.false in
    c.if-point_places_fit.false
    ∙ sym (places-parts p ∙ both-off (points_fit p.norths p.easts p.downs p.head.count) (courses_fit p.courses (given_of p.head.mode p.head.count)) points)
