-- `radius_rule` takes a radius that is in range, the first, and before all points; each test that fails is wrong. Assumes nothing.
use mathlib.Core.Path.{sym, ap, ◌∙◌}
use Rattle.conditions.specs.Between.{between}
use Rattle.plan.specs.Limits.{least_radius, most_radius}
use Rattle.records.proofs.RuleLaws.{radius-taken, radius-late, radius-twice, radius-range}
use Rattle.records.proofs.radius_rule.Goals as goal
use Rattle.records.proofs.radius_rule.Goals.{else-in_range-via-then-in_range+then-before-eq0+else-before-eq0-2, else-in_range-via-then-in_range+else-before-eq0, else-in_range-via-else-in_range}

pub returns-then-before-eq0-2 : goal.returns-then-before-eq0-2
returns-then-before-eq0-2 c a e =
    let t = sym (c.between-in_range.ensures ∙ ap (between least_radius most_radius) c.from-size.ensures) in
    radius-taken _ a _ e _ c.u16_at-radius.ensures (t ∙ c.if-in_range.true) c.if-before-eq0.true c.if-before-eq0-2.true

pub returns : goal.returns
returns c a e =
    let t = sym (c.between-in_range.ensures ∙ ap (between least_radius most_radius) c.from-size.ensures) in
    let read = c.u16_at-radius.ensures in
    elim c.else-in_range.branch [
      | else-in_range-via-then-in_range+then-before-eq0+else-before-eq0-2 w ↦ radius-late _ a _ e _ read (t ∙ w.if-in_range.true) w.if-before-eq0.true w.if-before-eq0-2.false
      | else-in_range-via-then-in_range+else-before-eq0 w ↦ radius-twice _ a _ e _ read (t ∙ w.if-in_range.true) w.if-before-eq0.false
      | else-in_range-via-else-in_range w ↦ radius-range _ a _ e _ read (t ∙ w.if-in_range.false)
    ]
