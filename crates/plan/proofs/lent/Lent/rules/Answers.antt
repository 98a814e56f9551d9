-- `rules` asks 8, then 9, then the geometry. Assumes nothing.
use mathlib.Core.Path.{◌≡◌, sym, ap, ◌∙◌}
use native.Mathlib.Omega.{arith}
use Rattle.std.proofs.Common.{Result, Err}
use Rattle.refusals.specs.declared.Refusal.{Refusal}
use Rattle.refusals.specs.Outcome.{refused, check, refusal_of}
use Rattle.refusals.specs.Numbers.{point_count}
use Rattle.refusals.specs.Sweep.{passed_of}
use Rattle.plan.specs.Places.{plan_point, plan_course}
use Rattle.plan.specs.Stands.{rules_of}
use Rattle.plan.specs.Lent.{lent_plan}
use Rattle.plan.proofs.RuleLaws.{rules-few, rules-many, rules-courses, rules-geometry}
use Rattle.plan.proofs.StandLaws.{placed-of, aiming_of}
use Rattle.plan.proofs.lent.Lent.rules.Goals as goal
use Rattle.plan.proofs.lent.Lent.rules.Goals.{then-count-lt-FEWEST_POINTS-via-then-count-lt-FEWEST_POINTS, then-count-lt-FEWEST_POINTS-via-else-count-lt-FEWEST_POINTS+then-count-gt-MOST_POINTS}

-- a refusal as an answer
abbrev refused_with : Refusal → Result Unit Refusal
refused_with r = Err r

pub returns-then-count-lt-FEWEST_POINTS : goal.returns-then-count-lt-FEWEST_POINTS
unfolding passed_of refusal_of check
returns-then-count-lt-FEWEST_POINTS c =
    let p = lent_plan c.args.self.now in
    let e : rules_of p c.args.given ≡ refused point_count 0 = elim c.then-count-lt-FEWEST_POINTS.branch [
      | then-count-lt-FEWEST_POINTS-via-then-count-lt-FEWEST_POINTS w ↦ rules-few p.head.mode p.head.radius c.args.given p.head.count (plan_point p) (plan_course p) w.if-count-lt-FEWEST_POINTS.true
      | then-count-lt-FEWEST_POINTS-via-else-count-lt-FEWEST_POINTS+then-count-gt-MOST_POINTS w ↦ rules-many p.head.mode p.head.radius c.args.given p.head.count (plan_point p) (plan_course p) w.if-count-lt-FEWEST_POINTS.false w.if-count-gt-MOST_POINTS.true
    ] in
    ap refused_with c.failed.ensures.value ∙ sym (ap passed_of e)

pub returns-then-not-courses_fit : goal.returns-then-not-courses_fit
unfolding passed_of refusal_of check
returns-then-not-courses_fit c =
    let p = lent_plan c.args.self.now in
    ap refused_with c.failed-then-not-courses_fit.ensures.value
    ∙ sym (ap passed_of (rules-courses p.head.mode p.head.radius c.args.given p.head.count (plan_point p) (plan_course p) c.if-count-lt-FEWEST_POINTS.false c.if-count-gt-MOST_POINTS.false (sym c.courses_fit.ensures ∙ c.if-not-courses_fit.true)))

pub geometry-requires : goal.geometry-requires
geometry-requires c =
    let p = lent_plan c.args.self.now in
    let h = c.requires in
    let l = c.args.self.now.long in (
      record {
        counted = record { placed = λ i m. placed-of p l h.ranged i (omega (arith, m, c.if-count-gt-MOST_POINTS.false)); least = c.if-count-lt-FEWEST_POINTS.false };
        radius = h.radius;
        aimed = λ i m. aiming_of p l h.aimed i (omega (arith, m, c.if-count-gt-MOST_POINTS.false));
      },
      c.if-count-gt-MOST_POINTS.false,
    )

pub returns : goal.returns
returns c =
    let p = lent_plan c.args.self.now in
    c.geometry.ensures ∙ sym (ap passed_of (rules-geometry p.head.mode p.head.radius c.args.given p.head.count (plan_point p) (plan_course p) c.if-count-lt-FEWEST_POINTS.false c.if-count-gt-MOST_POINTS.false (sym c.courses_fit.ensures ∙ c.if-not-courses_fit.false)))
