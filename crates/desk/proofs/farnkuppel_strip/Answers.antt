-- `farnkuppel_strip` hands on the row of a strip of a state's words, or writes nothing where a slice is too short. Assumes nothing.
use mathlib.Core.Path.{refl, sym, ap, ◌∙◌}
use mathlib.Core.List.{[], ◌∷◌}
use Rattle.strips.specs.declared.Strip.{Strip}
use Rattle.c_answer.specs.Words.{word_of}
use Rattle.c_state.proofs.TakenLaws.{pair-means}
use Rattle.desk.proofs.CallLaws.{tell-unfit, tell-fit}
use Rattle.desk.proofs.farnkuppel_strip.Goals as goal

pub returns-then-not-fits : goal.returns-then-not-fits
returns-then-not-fits c =
    let t = tell-unfit _ _ _ _ (sym c.fits.ensures ∙ c.if-not-fits.true) in
    record { value = t.result; answer_after = t.told }

pub told_at-told-requires : goal.told_at-told-requires
told_at-told-requires c = (pair-means _ _ _ (sym c.fits.ensures ∙ c.if-not-fits.false)).0

pub put-requires : goal.put-requires
put-requires c =
    (pair-means _ _ _ (sym c.fits.ensures ∙ c.if-not-fits.false)).1

pub returns : goal.returns
returns c =
    let x = c.told_at-told.ensures.strip_value in
    let number = c.word.ensures ∙ ap (λ (r : Strip). word_of r.number) x in
    let course = c.word-2.ensures ∙ ap (λ (r : Strip). word_of r.course) x in
    let length = c.word-3.ensures ∙ ap (λ (r : Strip). word_of r.length) x in
    let f = sym c.fits.ensures ∙ c.if-not-fits.false in
    let t = tell-fit _ _ _ _ f _ _ _ refl (λ i. number i ∷ course i ∷ length i ∷ []) c.put.ensures.part_after in
    record { value = t.result; answer_after = t.told }
