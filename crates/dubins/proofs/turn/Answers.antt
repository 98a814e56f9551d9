-- `turn` gives how far a turn goes, modulo 4096. Assumes nothing.
use mathlib.Core.Path.{sym, ◌∙◌}
use native.Mathlib.Omega.{arith}
use lib.IntN.{pos, ◌-ℤ◌}
use Rattle.conditions.proofs.ChooseLaws.{choose-true, choose-false}
use Rattle.integers.specs.Wrap.{wrap_of}
use Rattle.integers.proofs.WrapLaws.{wrap-sub}
use Rattle.dubins.specs.Cases.{arc_turn}
use Rattle.dubins.proofs.turn.Goals as goal

pub returns-then-right : goal.returns-then-right
unfolding arc_turn
returns-then-right c =
    let s = c.args in
    (sym (choose-true _ (wrap_of (pos s.to -ℤ pos s.from)) (wrap_of (pos s.from -ℤ pos s.to)) c.if-right.true ∙ wrap-sub s.to s.from (omega arith)), omega arith)

pub returns-else-right : goal.returns-else-right
unfolding arc_turn
returns-else-right c =
    let s = c.args in
    (sym (choose-false _ (wrap_of (pos s.to -ℤ pos s.from)) (wrap_of (pos s.from -ℤ pos s.to)) c.if-right.false ∙ wrap-sub s.from s.to (omega arith)), omega arith)
