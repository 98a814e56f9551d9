-- `refuse` answers 14 with the words of index, phase and finished. Assumes nothing.
use Rattle.autopilot.proofs.refuse.Goals as goal

pub returns : goal.returns
returns c =
    record { answer_after = simp (← c.word_at-3.ensures.0, ← c.word_at-2.ensures.0, ← c.word_at.ensures.0) c.put.ensures.part_after; command_after = c.put_command.ensures.part_after }
