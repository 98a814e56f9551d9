-- `value_rule` goes by the kind to its rule. Assumes nothing.
use mathlib.Core.Path.{◌∙◌}
use native.Mathlib.Omega.{arith}
use Rattle.records.proofs.RuleLaws.{by-optional, by-point, by-radius, by-course}
use Rattle.records.proofs.value_rule.Goals as goal

pub returns-in-1 : goal.returns-in-1
returns-in-1 c a e = c.point_rule.ensures a ∙ by-point _ _ a (omega arith)

pub returns-in-2 : goal.returns-in-2
returns-in-2 c a e = c.radius_rule.ensures a e ∙ by-radius _ _ a (omega arith)

pub returns-in_default : goal.returns-in_default
returns-in_default c a e = c.course_rule.ensures a e ∙ by-course _ _ a (omega arith) (λ z. omega arith) (λ z. omega arith)

pub returns-in-128-to-255 : goal.returns-in-128-to-255
returns-in-128-to-255 c a e = c.optional_rule.ensures a ∙ by-optional _ _ a (omega arith)
