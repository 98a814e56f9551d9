-- `effect_of` finds the kind's row and goes by whether the reader knows the kind. Assumes nothing.
use mathlib.Core.Path.{sym, ◌∙◌}
use native.Mathlib.Omega.{arith}
use borrow.Author.Tests.{le-leb, lt-leb}
use Rattle.records.proofs.KindLaws.{row-none, row-some}
use Rattle.records.proofs.RuleLaws.{judge-known, judge-unknown}
use Rattle.records.proofs.effect_of.Goals as goal
use Rattle.records.proofs.effect_of.Goals.{in_default-via-in-Some+else-from-reader, in_default-via-in_default}

pub known_rule-requires : goal.known_rule-requires
known_rule-requires c = (row-some _ _ (sym c.row_of.ensures ∙ c.in-Some.is)).0

pub returns-in-Some : goal.returns-in-Some
returns-in-Some c a e =
    let k = (row-some _ _ (sym c.row_of.ensures ∙ c.in-Some.is)).1 c.args.reader in
    c.known_rule.ensures a e ∙ sym (judge-known _ _ _ _ a (k ∙ le-leb _ _ (omega (arith, c.from.ensures, c.if-from-reader.true))))

pub returns-in_default : goal.returns-in_default
returns-in_default c a e =
    elim c.in_default.branch [
      | in_default-via-in-Some+else-from-reader w ↦
          let k = (row-some _ _ (sym c.row_of.ensures ∙ w.in-Some.is)).1 c.args.reader in
          c.unknown_rule.ensures a ∙ sym (judge-unknown _ _ _ _ a (k ∙ lt-leb _ _ (omega (arith, w.from.ensures, w.if-from-reader.false))))
      | in_default-via-in_default w ↦ c.unknown_rule.ensures a ∙ sym (judge-unknown _ _ _ _ a (row-none _ (sym c.row_of.ensures ∙ w.in_default.is) _))
    ]
