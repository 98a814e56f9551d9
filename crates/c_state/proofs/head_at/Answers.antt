-- `head_at` reads what words say of a plan beside its numbers. Assumes nothing.
use mathlib.Core.Path.{ap, ◌∙◌}
use Rattle.c_state.specs.Stored.{mode_at}
use Rattle.c_state.proofs.HoldsLaws.{four-words, radius-fits}
use Rattle.c_state.proofs.head_at.Goals as goal

pub overflow_cast-result : goal.overflow_cast-result
overflow_cast-result c =
    radius-fits c.args.words.now c.requires.1 c.word_at-3.ensures.0

pub returns : goal.returns
returns c = (
  (λ t. record {
    serial = c.word_at.ensures.0 t;
    mode = (c.mode_at.ensures ∙ ap mode_at c.word_at-2.ensures.0) t;
    radius = c.word_at-3.ensures.0 t;
    count = c.word_at-4.ensures.0 t;
  }),
  four-words c.args.words.now c.word_at.ensures.1 c.word_at-2.ensures.1 c.word_at-3.ensures.1 c.word_at-4.ensures.1,
)
