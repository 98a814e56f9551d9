-- `decide_at` lends the blocks of the words. Assumes nothing.
use Rattle.autopilot.proofs.FixLaws.{decided-there}
use Rattle.autopilot.proofs.decide_at.Goals as goal

pub returns : goal.returns
returns c =
    let a = c.args in
    record { result_value = decided-there a.words.now a.serial a.fix c.plan_at.ensures.0 c.progress_at.ensures.0 c.decide.ensures; are_words = (c.plan_at.ensures.1, c.progress_at.ensures.1) }
