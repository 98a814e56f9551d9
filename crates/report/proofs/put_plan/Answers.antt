-- `put_plan` writes the first line and the lines of the points. Assumes nothing.
use Rattle.text.proofs.AddedLaws.{joined}
use Rattle.report.specs.Listing.{plan_text}
use Rattle.report.proofs.put_plan.Goals as goal

pub returns : goal.returns
unfolding plan_text
returns c =
    joined c.put_title.ensures.0 (joined c.byte.ensures c.put_lines.ensures)
