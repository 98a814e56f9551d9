-- `fillet_rules` gives refusals 11 and 12 of a fillet plan, with its turns worked out or without. Assumes nothing.
use mathlib.Core.Path.{sym, ap}
use Rattle.refusals.specs.Sweep.{passed_of}
use Rattle.plan.proofs.lent.Lent.fillet_rules.Goals as goal

pub returns-then-all_easy : goal.returns-then-all_easy
unfolding passed_of
returns-then-all_easy c = sym (ap passed_of (c.all_easy.ensures c.if-all_easy.true))
