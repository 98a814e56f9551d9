-- `optional_rule` takes notes, and speeds in their range, and changes nothing. Assumes nothing.
use mathlib.Core.Path.{sym, ap, ◌∙◌}
use Rattle.conditions.specs.Between.{between}
use Rattle.records.proofs.RuleLaws.{speed-range, speed-taken, note-taken}
use Rattle.records.proofs.optional_rule.Goals as goal
use Rattle.records.proofs.optional_rule.Goals.{else-kind-eq-SPEED-via-then-kind-eq-SPEED+else-not-between, else-kind-eq-SPEED-via-else-kind-eq-SPEED}

pub returns-then-not-between : goal.returns-then-not-between
returns-then-not-between c a =
    let t = sym (c.between.ensures ∙ ap (between 1 1000) c.from.ensures) in
    speed-range _ _ a c.if-kind-eq-SPEED.true _ c.u16_at.ensures (t ∙ c.if-not-between.true)

pub returns : goal.returns
returns c a =
    elim c.else-kind-eq-SPEED.branch [
      | else-kind-eq-SPEED-via-then-kind-eq-SPEED+else-not-between w ↦
          let t = sym (w.between.ensures ∙ ap (between 1 1000) w.from.ensures) in
          speed-taken _ _ a w.if-kind-eq-SPEED.true _ w.u16_at.ensures (t ∙ w.if-not-between.false)
      | else-kind-eq-SPEED-via-else-kind-eq-SPEED w ↦ note-taken _ _ a w.if-kind-eq-SPEED.false
    ]
