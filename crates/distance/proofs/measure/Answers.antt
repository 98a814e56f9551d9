-- `measure` passes over the legs from the last one to that which ends at a place, and writes each entry that the table has. Assumes nothing.
use mathlib.Core.Path.{◌≡◌, sym, ap, ◌∙◌}
use Prim.Native.Nat.{ℕ, ◌+◌, ◌-◌}
use native.Mathlib.Omega.{arith}
use Rattle.plan.specs.Lent.{lent_plan}
use Rattle.distance.specs.Lengths.{plan_length}
use Rattle.distance.specs.Pass.{told_from}
use Rattle.distance.proofs.PassLaws.{last-placed}
use Rattle.distance.proofs.TableLaws.{written_start, written_next}
use Rattle.distance.proofs.measure.Goals as goal

pub begin-carry-requires : goal.begin-carry-requires
begin-carry-requires c = last-placed _ c.requires.sound c.args.plan.now.long

pub loop-i-init : goal.loop-i-init
loop-i-init c = ((c.begin-carry.ensures, omega (arith, c.requires.le_place.1)), λ _. sym (written_start _ _))

pub loop-i-preserved-then-i-table : goal.loop-i-preserved-then-i-table
loop-i-preserved-then-i-table c =
    let p = lent_plan c.args.plan.now in
    let i = c.loop-i.i - 1 in
    let w = c.loop-i.invariant in
    let a : i + 1 ≡ c.loop-i.i = omega (arith, c.loop-i-test.true) in
    let b : i - 1 + 1 ≡ i = omega (arith, c.requires.le_place.0, c.loop-i-test.true) in (
      (c.step-carry.ensures, omega (arith, c.loop-i-test.true)),
      λ room. written_next p c.args.table.now i c.step-carry.result.left c.loop-i.table w.0.0.inside (omega (arith, room, w.0.0.inside))
          (c.step-carry.ensures.left ∙ ap (plan_length p) b) (w.1 room ∙ ap (λ (n : ℕ). told_from p n c.args.table.now) (sym a)),
    )
