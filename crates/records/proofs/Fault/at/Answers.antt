-- `at` gives each fault its number. Assumes nothing.
use mathlib.Core.Path.{refl}
use Rattle.records.specs.Held.{fault_at}
use Rattle.records.proofs.Fault.at.Goals as goal

pub returns-in-Wrong : goal.returns-in-Wrong
unfolding fault_at
returns-in-Wrong c = rw c.in-Wrong.is refl

pub returns-in-TooNew : goal.returns-in-TooNew
unfolding fault_at
returns-in-TooNew c = rw c.in-TooNew.is refl
