-- `records_in` takes what stands behind the header. Assumes nothing.
use mathlib.Core.Path.{refl, ap, ◌∙◌}
use Rattle.records.specs.Walk.{walk}
use Rattle.wpl.specs.Load.{records_of}
use Rattle.wpl.proofs.ListedLaws.{behind-header}
use Rattle.wpl.proofs.records_in.Goals as goal

pub returns : goal.returns
unfolding records_of
returns c = ap walk (ap (λ r. r.now) c.unwrap_or.ensures ∙ behind-header c.args.file.now c.get.result _ refl c.get.ensures.lookup.0)
