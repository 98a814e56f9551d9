-- `farnkuppel_note` copies the note's bytes and answers how many they are, or writes nothing where a slice is too short. Assumes nothing.
use mathlib.Core.Path.{sym, ◌∙◌}
use mathlib.Core.List.{[], ◌∷◌}
use native.Mathlib.Nat.{le_trans}
use lib.ListN.{length}
use lib.Seq.{sets-eq}
use borrow.Author.Rules.{rules}
use Rattle.wpl.proofs.NoteLengthLaws.{note-short, given-short}
use Rattle.desk.proofs.Anchors.{in-numbers}
use Rattle.desk.proofs.CallLaws.{fits-means, show-unfit, show-fit}
use Rattle.desk.proofs.farnkuppel_note.Goals as goal

pub returns-then-not-fits : goal.returns-then-not-fits
returns-then-not-fits c =
    let l = show-unfit _ _ _ _ (sym c.fits.ensures ∙ c.if-not-fits.true) in
    record { value = l.result; note_after = l.shown; answer_after = l.answered; number_len_bound = (note-short _ _, in-numbers) }

pub put-requires : goal.put-requires
put-requires c =
    le_trans (given-short _ _ _ c.note-bytes.ensures) (fits-means _ _ (sym c.fits.ensures ∙ c.if-not-fits.false)).0

pub overflow_cast-answer : goal.overflow_cast-answer
overflow_cast-answer c =
    let l = given-short _ _ _ c.note-bytes.ensures in
    search rules

pub bounds-answer-0 : goal.bounds-answer-0
bounds-answer-0 c =
    (fits-means _ _ (sym c.fits.ensures ∙ c.if-not-fits.false)).1

pub returns : goal.returns
returns c =
    let f = sym c.fits.ensures ∙ c.if-not-fits.false in
    let l = show-fit _ _ _ _ f _ _ _ c.note-bytes.ensures c.put.ensures.part_after
    (sets-eq (length c.note-bytes.result.now ∷ []) c.args.answer.now 0 (fits-means _ _ f).1) in
    record { value = l.result; note_after = l.shown; answer_after = l.answered; number_len_bound = (note-short _ _, in-numbers) }
