-- `pair_number` gives refusal 10 of a pair. Assumes nothing.
use mir.Syntax.{w32}
use mir.Val.{to_z, of_z}
use mathlib.Core.Path.{◌≡◌, sym, ap, ◌∙◌}
use lib.IntN.{ℤ}
use borrow.Author.Rules.{rules}
use Rattle.refusals.specs.Sweep.{noted}
use Rattle.plan.proofs.PairLaws.{pair-equal, pair-apart}
use Rattle.plan.proofs.pair_number.Goals as goal
use Rattle.plan.proofs.pair_number.Goals.{else-a-b-via-then-a-b+else-a-b-2, else-a-b-via-else-a-b}

-- numbers that their bits give back are equal where the bits are
same_bits : (y z : ℤ) → to_z w32 (of_z w32 y) ≡ y → to_z w32 (of_z w32 z) ≡ z → of_z w32 y ≡ of_z w32 z → y ≡ z
same_bits y z p q e = sym p ∙ ap (to_z w32) e ∙ q

pub returns-then-a-b-2 : goal.returns-then-a-b-2
unfolding noted
returns-then-a-b-2 c =
    let s = c.args in
    let north = same_bits s.a.north s.b.north (search rules) (search rules) c.if-a-b.true in
    let east = same_bits s.a.east s.b.east (search rules) (search rules) c.if-a-b-2.true in
    sym (ap noted (pair-equal s.a s.b north east))

pub returns : goal.returns
unfolding noted
returns c =
    let s = c.args in
    sym (ap noted (pair-apart s.a s.b (λ n e. elim c.else-a-b.branch [
      | else-a-b-via-then-a-b+else-a-b-2 w ↦ w.if-a-b-2.false (ap (of_z w32) e)
      | else-a-b-via-else-a-b w ↦ w.if-a-b.false (ap (of_z w32) n)
    ])))
