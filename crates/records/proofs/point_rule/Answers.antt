-- `point_rule` takes a point of the area. Assumes nothing.
use mathlib.Core.Path.{sym, ◌∙◌}
use Rattle.records.proofs.RuleLaws.{point-taken, point-out}
use Rattle.records.proofs.point_rule.Goals as goal

pub returns-then-in_area : goal.returns-then-in_area
returns-then-in_area c a = point-taken _ a _ c.point_in-point.ensures (sym c.in_area.ensures.0 ∙ c.if-in_area.true)

pub returns : goal.returns
returns c a = point-out _ a _ c.point_in-point.ensures (sym c.in_area.ensures.0 ∙ c.if-in_area.false)
