-- `farnkuppel_load` fills the blocks of the words and puts the words before them, or writes nothing where a slice is too short. Assumes nothing.
use mathlib.Core.Path.{refl, sym, ap, ◌∙◌}
use mathlib.Core.List.{[], ◌∷◌}
use Prim.Native.Nat.{ℕ, ◌≤◌, ◌<◌}
use native.Mathlib.Omega.{arith}
use lib.ListN.{length}
use Rattle.buffers.specs.Splice.{over}
use Rattle.c_state.specs.Stored.{state_length}
use Rattle.c_state.proofs.TakenLaws.{pair-means}
use Rattle.wpl.specs.declared.Entered.{Entered}
use Rattle.wpl.proofs.LoadLaws.{loaded-filled}
use Rattle.autopilot.proofs.CallLaws.{all-lent, load-unfit, load-fit}
use Rattle.autopilot.proofs.HeldLaws.{load-holds-none, load-holds}
use Rattle.autopilot.proofs.TwoBuffersLaws.{alike-buffers, buffers-fly}
use borrow.Author.Rules.{rules}
use Rattle.autopilot.proofs.farnkuppel_load.Goals as goal
use Rattle.autopilot.proofs.farnkuppel_load.Goals.{Else-not-fits}

-- the slices have their lengths
long : (e : Else-not-fits) → (state_length ≤ length e.args.state.now) × (2 ≤ length e.args.answer.now)
long e = pair-means _ _ _ (sym e.fits.ensures ∙ e.if-not-fits.false)

pub returns-then-not-fits : goal.returns-then-not-fits
returns-then-not-fits c =
    let u = sym c.fits.ensures ∙ c.if-not-fits.true in
    let l = load-unfit _ _ _ _ u in
    record { value = l.result; state_after = l.words; answer_after = l.answered; load_holds = load-holds-none _ _ _ _ _ u; alike_buffers = (alike-buffers, buffers-fly) }

pub slice_bounds-load_into-end : goal.slice_bounds-load_into-end
slice_bounds-load_into-end c = let p = long c in search rules

pub load_into-entered-requires : goal.load_into-entered-requires
load_into-entered-requires c = all-lent c.args.state.now (long (goal.at.load_into-entered-requires c).Else-not-fits).0

pub put_head-requires : goal.put_head-requires
put_head-requires c = let p = long (goal.at.put_head-requires c).Else-not-fits in search rules

pub put-requires : goal.put-requires
put-requires c = (long (goal.at.put-requires c).Else-not-fits).1

pub returns : goal.returns
returns c =
    let l = load-fit _ _ c.args.state.now c.args.answer.now (sym c.fits.ensures ∙ c.if-not-fits.false) _ _ _ (loaded-filled _ _ _ refl) (omega (arith, (long (goal.at.returns c).Else-not-fits).0))
    c.load_into-entered.ensures.value c.load_into-entered.ensures.numbers_after c.put_head.ensures.words_after
    (c.put.ensures.part_after ∙ ap (λ (n : ℕ). over (c.load_into-entered.result.refusal ∷ n ∷ []) c.args.answer.now) c.word.ensures) in
    let word : c.load_into-entered.result.head.serial < 4294967296 = c.struct_known-1.given.1.1.0.0.fits in
    let held = load-holds _ _ _ _ _ _ word (ap (λ (x : Entered). x.head.serial) c.load_into-entered.ensures.value) l.words in
    record { value = l.result; state_after = l.words; answer_after = l.answered; load_holds = held; alike_buffers = (alike-buffers, buffers-fly) }
