-- `sine` gives S[k], of the table of which 2.2 and 2.5 hold. Assumes nothing.
use Rattle.course.proofs.TableLaws.{are-sines}
use Rattle.course.proofs.DirectionLaws.{table-facts}
use Rattle.course.proofs.sine.Goals as goal

pub returns-clause-are_sines : goal.returns-clause-are_sines
returns-clause-are_sines c = (are-sines, table-facts)
