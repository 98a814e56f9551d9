-- `note` gives no bytes of a file that is refused, and else the part that was found. Assumes nothing.
use mathlib.Core.Path.{sym, ap, ◌∙◌}
use Rattle.wpl.proofs.NoteLaws.{note-refused, note-loaded, bytes_or}
use Rattle.wpl.proofs.note.Goals as goal

pub returns-then-found-ne0 : goal.returns-then-found-ne0
returns-then-found-ne0 c = sym (note-refused _ _ _ c.refusal-found.ensures.number_value c.if-found-ne0.true)

pub returns : goal.returns
returns c =
    ap (λ r. r.now) c.unwrap_or.ensures ∙ bytes_or c.find_note.result _ ∙ c.find_note.ensures
    ∙ sym (note-loaded _ _ _ c.refusal-found.ensures.number_value c.if-found-ne0.false)
