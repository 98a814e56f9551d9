-- `unknown_rule` goes by the versions and by whether the kind is optional. Assumes nothing.
use mathlib.Core.Path.{sym}
use native.Mathlib.Omega.{arith}
use borrow.Author.Tests.{le-leb, lt-leb}
use Rattle.records.specs.Kinds.{optional}
use Rattle.records.specs.Held.{with_effect, verdict_of}
use Rattle.records.proofs.RuleLaws.{unknown-wrong, unknown-skipped, unknown-new}
use Rattle.records.proofs.unknown_rule.Goals as goal

pub returns-then-from-reader : goal.returns-then-from-reader
unfolding verdict_of
returns-then-from-reader c a = sym (unknown-wrong _ _ _ a (omega arith))

pub returns-then-kind-ge-OPTIONAL : goal.returns-then-kind-ge-OPTIONAL
unfolding with_effect verdict_of optional
returns-then-kind-ge-OPTIONAL c a = sym (unknown-skipped _ _ _ a (omega arith) (le-leb 128 _ c.if-kind-ge-OPTIONAL.true))

pub returns-else-kind-ge-OPTIONAL : goal.returns-else-kind-ge-OPTIONAL
unfolding verdict_of optional
returns-else-kind-ge-OPTIONAL c a = sym (unknown-new _ _ _ a (omega arith) (lt-leb 128 _ c.if-kind-ge-OPTIONAL.false))
