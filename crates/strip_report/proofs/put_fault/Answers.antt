-- `put_fault` writes a refused check's number, place and rule. Assumes nothing.
use Rattle.text.proofs.AddedLaws.{joined}
use Rattle.strip_report.specs.StripListing.{fault_text}
use Rattle.strip_report.proofs.put_fault.Goals as goal

pub returns : goal.returns
unfolding fault_text
returns c =
    rw (← c.from.ensures, ← c.from-2.ensures) (joined c.refusal.ensures.wrote.0 (joined c.count.ensures.wrote.0 c.byte.ensures))
