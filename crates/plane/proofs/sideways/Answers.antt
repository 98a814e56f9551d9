-- `sideways` gives the course a quarter to the right or to the left. Assumes nothing.
use mathlib.Core.Path.{◌≡◌, sym, ◌∙◌}
use Prim.Native.Nat.{◌+◌, ◌-◌, ◌%◌}
use native.Mathlib.Omega.{arith}
use lib.IntN.{pos, ◌+ℤ◌, ◌-ℤ◌}
use Rattle.conditions.proofs.ChooseLaws.{choose-true, choose-false}
use Rattle.integers.specs.Wrap.{wrap_of}
use Rattle.integers.proofs.WrapLaws.{wrap-add, wrap-sub}
use Rattle.plane.specs.Level.{sideways_of}
use Rattle.plane.proofs.sideways.Goals as goal

pub returns-then-right : goal.returns-then-right
unfolding sideways_of
returns-then-right c =
    let k = c.args.k in
    (sym (choose-true _ (wrap_of (pos k +ℤ pos 1024)) (wrap_of (pos k -ℤ pos 1024)) c.if-right.true ∙ wrap-add k 1024), omega arith)

pub returns-else-right : goal.returns-else-right
unfolding sideways_of
returns-else-right c =
    let k = c.args.k in
    let e : (k + 4096 - 1024) % 4096 ≡ (k + 3072) % 4096 = omega arith in
    (sym (choose-false _ (wrap_of (pos k +ℤ pos 1024)) (wrap_of (pos k -ℤ pos 1024)) c.if-right.false ∙ wrap-sub k 1024 (omega arith) ∙ e), omega arith)
