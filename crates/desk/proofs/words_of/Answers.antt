-- `words_of` puts the numbers of a check one after another. Assumes nothing.
use mathlib.Core.List.{[], ◌∷◌}
use Rattle.c_answer.specs.Words.{word_of}
use Rattle.desk.proofs.words_of.Goals as goal

pub returns-in-Ok : goal.returns-in-Ok
unfolding word_of
returns-in-Ok c = rw c.in-Ok.is (λ i. 0 ∷ 0 ∷ 0 ∷ c.word.ensures i ∷ [])

pub returns-in-Err : goal.returns-in-Err
unfolding word_of
returns-in-Err c =
    rw c.in-Err.is (λ i. c.from.ensures i ∷ c.word-in-Err.ensures i ∷ c.from-in-Err.ensures i ∷ 0 ∷ [])
