-- `farnkuppel_notes` hands on how many notes there are, or writes nothing where the answer is too short. Assumes nothing.
use mathlib.Core.Path.{refl, ap}
use mathlib.Core.List.{[], ◌∷◌}
use Prim.Native.Nat.{ℕ}
use lib.Seq.{sets-eq}
use borrow.Author.Rules.{rules}
use Rattle.wpl.proofs.CountLaws.{numbered, count_most}
use Rattle.desk.proofs.Anchors.{words-in-numbers}
use Rattle.desk.proofs.CallLaws.{words-short, words_long, tell-unfit, tell-fit}
use Rattle.desk.proofs.farnkuppel_notes.Goals as goal

pub returns-then-answer-lt-NOTES_ANSWER : goal.returns-then-answer-lt-NOTES_ANSWER
returns-then-answer-lt-NOTES_ANSWER c =
    let t = tell-unfit _ _ _ _ (words-short 1 _ c.if-answer-lt-NOTES_ANSWER.true) in
    record { value = t.result; answer_after = t.told; numbered = (numbered _, words-in-numbers) }

pub overflow_cast-answer : goal.overflow_cast-answer
overflow_cast-answer c =
    let e = c.notes.ensures.value in
    let m = count_most c.args.file.now in
    search rules

pub returns : goal.returns
returns c =
    let w = sets-eq (c.notes.result ∷ []) c.args.answer.now 0 c.if-answer-lt-NOTES_ANSWER.false in
    let t = tell-fit _ _ _ _ (words_long 1 _ c.if-answer-lt-NOTES_ANSWER.false) _ _ _ refl (ap (λ (n : ℕ). n ∷ []) c.notes.ensures.value) w in
    record { value = t.result; answer_after = t.told; numbered = (numbered _, words-in-numbers) }
