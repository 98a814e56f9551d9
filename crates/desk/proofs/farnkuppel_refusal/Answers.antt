-- `farnkuppel_refusal` hands on the number of a load, which is one of 0 to 12 and 17, never 18. Assumes nothing.
use mathlib.Core.Path.{sym, ◌∙◌}
use Rattle.wpl.proofs.GivenLaws.{load-gives-these, load-not-strips}
use Rattle.desk.proofs.farnkuppel_refusal.Goals as goal

pub returns : goal.returns
returns c = let e = c.refusal-first.ensures.number_value in record { value = e; fact = (rw e (load-gives-these _ _), λ h. load-not-strips _ _ (sym e ∙ h)) }
