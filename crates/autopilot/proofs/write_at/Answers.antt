-- `write_at` lends the blocks of the words. Assumes nothing.
use mathlib.Core.Path.{ap, ◌∙◌}
use lib.ListN.{length}
use Rattle.manager.specs.declared.State.{State}
use Rattle.wpl.specs.Write.{write_of, written_of, buffer_of}
use Rattle.c_state.proofs.StoredLaws.{blocks-lent}
use Rattle.c_state.proofs.TakenLaws.{state-there}
use Rattle.autopilot.proofs.write_at.Goals as goal

pub write_from-requires : goal.write_from-requires
write_from-requires c = rw c.plan_at.ensures.0 (blocks-lent c.args.words.now c.requires.0 _)

pub returns : goal.returns
returns c =
    let a = c.args in
    let v = state-there a.words.now c.plan_at.ensures.0 c.progress_at.ensures.0 in record { value = c.write_from.ensures.value ∙ ap (λ (s : State). written_of (write_of s a.version (length a.file.now))) v; file_after = c.write_from.ensures.file_after ∙ ap (λ (s : State). buffer_of (write_of s a.version (length a.file.now)) a.file.now) v }
