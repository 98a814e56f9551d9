-- `farnkuppel_check` hands on the number and the place of a load, or writes nothing where the answer is too short. Assumes nothing.
use mathlib.Core.Path.{ap, ◌∙◌}
use mathlib.Core.List.{[], ◌∷◌}
use Rattle.c_answer.specs.Words.{word_of}
use Rattle.desk.proofs.Anchors.{words-in-numbers}
use Rattle.desk.proofs.CallLaws.{words-short, words_long, tell-unfit, tell-fit}
use Rattle.desk.proofs.farnkuppel_check.Goals as goal

pub returns-then-answer-lt-CHECK_ANSWER : goal.returns-then-answer-lt-CHECK_ANSWER
returns-then-answer-lt-CHECK_ANSWER c =
    let t = tell-unfit _ _ _ _ (words-short 2 _ c.if-answer-lt-CHECK_ANSWER.true) in
    record { value = t.result; answer_after = t.told; words_example = words-in-numbers }

pub returns : goal.returns
returns c =
    let number = c.refusal-found.ensures.number_value in
    let place = c.word.ensures ∙ ap word_of c.refusal-found.ensures.place_value in
    let t = tell-fit _ _ _ _ (words_long 2 _ c.if-answer-lt-CHECK_ANSWER.false) _ _ _ number (λ i. number i ∷ place i ∷ []) c.put.ensures.part_after in
    record { value = t.result; answer_after = t.told; words_example = words-in-numbers }
