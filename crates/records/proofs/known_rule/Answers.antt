-- `known_rule` compares the row's version with the file's, and its lengths with the body's, before the rule on the value. Assumes nothing.
use mathlib.Core.Path.{sym, ◌∙◌}
use Rattle.records.proofs.RuleLaws.{known-taken, known-length, known-newer}
use Rattle.records.proofs.known_rule.Goals as goal
use Rattle.records.proofs.known_rule.Goals.{else-row-version-via-then-row-version+else-between, else-row-version-via-else-row-version}

pub returns-then-between : goal.returns-then-between
returns-then-between c a e =
    c.value_rule.ensures a e
    ∙ known-taken _ _ _ a _ c.requires c.if-row-version.true (sym c.between.ensures ∙ c.if-between.true)

pub returns : goal.returns
returns c a e =
    elim c.else-row-version.branch [
      | else-row-version-via-then-row-version+else-between w ↦
          known-length _ _ _ a _ c.requires w.if-row-version.true (sym w.between.ensures ∙ w.if-between.false)
      | else-row-version-via-else-row-version w ↦ known-newer _ _ _ a _ c.requires w.if-row-version.false
    ]
