-- `notes` counts nothing in a file that is refused. Assumes nothing.
use mathlib.Core.Path.{sym, ◌∙◌}
use Rattle.wpl.proofs.CountLaws.{numbered, count-refused, count-loaded}
use Rattle.wpl.proofs.notes.Goals as goal

pub returns-then-found-ne0 : goal.returns-then-found-ne0
returns-then-found-ne0 c = record { value = sym (count-refused _ _ c.refusal-found.ensures.number_value c.if-found-ne0.true); numbered = numbered _ }

pub returns : goal.returns
returns c =
    record { value = c.count_notes.ensures ∙ sym (count-loaded _ _ c.refusal-found.ensures.number_value c.if-found-ne0.false); numbered = numbered _ }
