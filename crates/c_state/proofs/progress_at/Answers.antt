-- `progress_at` reads how far words say that a plan is flown. Assumes nothing.
use lib.Dec.{eqb}
use Rattle.c_state.proofs.HoldsLaws.{three-words, phase-fits}
use Rattle.c_state.proofs.progress_at.Goals as goal

pub overflow_cast-result-2 : goal.overflow_cast-result-2
overflow_cast-result-2 c =
    phase-fits c.args.words.now c.requires.1 c.word_at-2.ensures.0

pub returns : goal.returns
returns c = (
  (λ t. record { index = c.word_at.ensures.0 t; phase = c.word_at-2.ensures.0 t; finished = eqb (c.word_at-3.ensures.0 t) 1 }),
  three-words c.args.words.now c.word_at.ensures.1 c.word_at-2.ensures.1 c.word_at-3.ensures.1,
)
