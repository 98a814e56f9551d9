-- `farnkuppel_strips` hands on what the check of a state's words says, or writes nothing where a slice is too short. Assumes nothing.
use mathlib.Core.Path.{◌≡◌, sym, ap, ◌∙◌}
use mathlib.Core.List.{List}
use Prim.Native.Nat.{ℕ}
use native.Mathlib.Omega.{arith}
use lib.ListN.{length, get_or}
use Rattle.desk.specs.Calls.{strips_words}
use Rattle.desk.proofs.StripsLaws.{told_in}
use Rattle.c_state.proofs.TakenLaws.{pair-means}
use Rattle.desk.proofs.Anchors.{strips-in-numbers}
use Rattle.desk.proofs.CallLaws.{tell-unfit, tell-fit}
use Rattle.desk.proofs.farnkuppel_strips.Goals as goal

pub returns-then-not-fits : goal.returns-then-not-fits
returns-then-not-fits c =
    let t = tell-unfit _ _ _ _ (sym c.fits.ensures ∙ c.if-not-fits.true) in
    record { value = t.result; answer_after = t.told; strips_example = strips-in-numbers }

pub told_at-told-requires : goal.told_at-told-requires
told_at-told-requires c = (pair-means _ _ _ (sym c.fits.ensures ∙ c.if-not-fits.false)).0

pub put-requires : goal.put-requires
put-requires c =
    let four : length c.words_of-words.result ≡ 4 = ap length c.words_of-words.ensures in
    omega (arith, four, (pair-means _ _ _ (sym c.fits.ensures ∙ c.if-not-fits.false)).1)

pub returns : goal.returns
returns c =
    let e = told_in c.args.state.now c.told_at-told.ensures.checked_value in
    let w = c.words_of-words.ensures ∙ ap strips_words e in
    let f = sym c.fits.ensures ∙ c.if-not-fits.false in
    let t = tell-fit _ _ _ _ f _ _ _ (ap (λ (l : List ℕ). get_or l 0 0) w) w c.put.ensures.part_after in
    record { value = t.result; answer_after = t.told; strips_example = strips-in-numbers }
