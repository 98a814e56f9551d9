-- `stands` decides refusal 14's part on the plan. Assumes nothing.
use mathlib.Core.Path.{◌≡◌, sym, ap, ◌∙◌}
use mathlib.Core.Bool.{Bool, true, false}
use Prim.Native.Nat.{ℕ}
use native.Mathlib.Omega.{arith}
use Rattle.conditions.proofs.Bools.{clash}
use Rattle.std.specs.Result.{is_ok}
use Rattle.refusals.specs.Outcome.{is_good}
use Rattle.refusals.proofs.SweepLaws.{answer-good}
use Rattle.plan.specs.declared.Plan.{Plan}
use Rattle.plan.specs.Limits.{radius_fits}
use Rattle.plan.specs.Stands.{places_fit, rules_of, stands_of, Stands}
use Rattle.plan.specs.Lent.{lent_plan}
use Rattle.plan.specs.Facts.{PlanFacts}
use Rattle.plan.proofs.FactLaws.{plan-facts}
use Rattle.plan.proofs.StandLaws.{stands-rules, stands-fails, stands-means, places-mean}
use Rattle.plan.proofs.lent.Lent.stands.Goals as goal
use Rattle.plan.proofs.lent.Lent.stands.Goals.{then-self-eq0-via-then-self-eq0, then-self-eq0-via-else-self-eq0+then-self-gt-MOST_POINTS, else-radius_fits-via-then-radius_fits+else-places_fit, else-radius_fits-via-else-radius_fits}

-- what an answer that is the definition's tells
answer : (p : Plan) (r : Bool) → r ≡ stands_of p → (r ≡ stands_of p) × ((r ≡ true → Stands p) × PlanFacts)
answer p r e = (e, ((λ t. stands-means p (sym e ∙ t)), plan-facts))

pub returns-then-self-eq0 : goal.returns-then-self-eq0
returns-then-self-eq0 c =
    let p = lent_plan c.args.self.now in
    answer p false (sym (stands-fails p (λ t. elim c.then-self-eq0.branch [
      | then-self-eq0-via-then-self-eq0 w ↦ t.serial w.if-self-eq0.true
      | then-self-eq0-via-else-self-eq0+then-self-gt-MOST_POINTS w ↦ omega (arith, t.most, w.if-self-gt-MOST_POINTS.true)
    ])))

pub rules-requires : goal.rules-requires
rules-requires c =
    let p = lent_plan c.args.self.now in
    let n = places-mean p (sym c.places_fit.ensures ∙ c.if-places_fit.true) in
    record { ranged = n.0; radius = c.radius_fits.ensures.1 c.if-radius_fits.true; aimed = n.1 }

pub returns-then-places_fit : goal.returns-then-places_fit
returns-then-places_fit c =
    let p = lent_plan c.args.self.now in
    let answered = c.is_ok.ensures.value ∙ ap is_ok c.rules.ensures ∙ answer-good (rules_of p c.given_of.result) ∙ ap (λ (n : ℕ). is_good (rules_of p n)) c.given_of.ensures in
    answer p c.is_ok.result
    (answered
    ∙ sym (stands-rules p c.if-self-eq0.false c.if-self-gt-MOST_POINTS.false (sym c.radius_fits.ensures.0 ∙ c.if-radius_fits.true) (sym c.places_fit.ensures ∙ c.if-places_fit.true)))

pub returns : goal.returns
returns c =
    let p = lent_plan c.args.self.now in
    answer p false (sym (stands-fails p (λ t. elim c.else-radius_fits.branch [
      | else-radius_fits-via-then-radius_fits+else-places_fit w ↦ clash (places_fit p) t.places (sym w.places_fit.ensures ∙ w.if-places_fit.false)
      | else-radius_fits-via-else-radius_fits w ↦ clash (radius_fits p.head.mode p.head.radius) t.radius (sym c.radius_fits.ensures.0 ∙ w.if-radius_fits.false)
    ])))
