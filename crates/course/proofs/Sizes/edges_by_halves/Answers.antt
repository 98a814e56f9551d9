-- `edges_by_halves` counts the edges reached: edge low is reached or low is 0, edge high is not or high is 1025. Assumes nothing.
use mathlib.Core.Path.{subst, sym, ◌∙◌}
use Prim.Native.Nat.{ℕ, suc, ◌*◌, ◌<◌, ◌≤◌}
use native.Mathlib.Omega.{arith}
use borrow.Author.Tests.{leb-true, leb-false}
use Rattle.course.specs.Bearing.{edge_north, edge_east}
use Rattle.course.proofs.Sizes.edges_by_halves.Goals as goal

pub loop-low-init : goal.loop-low-init
loop-low-init c = record { order = omega arith; most = omega arith; from = λ (h : 1 ≤ 0). absurd (omega arith); upto = λ (h : 1025 ≤ 1024). absurd (omega arith) }

pub overflow_add-low : goal.overflow_add-low
overflow_add-low c = omega arith

pub overflow_add-middle : goal.overflow_add-middle
overflow_add-middle c = omega arith

pub loop-low-smaller-then-reaches : goal.loop-low-smaller-then-reaches
loop-low-smaller-then-reaches c = omega arith

pub loop-low-preserved-then-reaches : goal.loop-low-preserved-then-reaches
loop-low-preserved-then-reaches c =
    record {
      order = omega arith;
      most = omega arith;
      from = λ h. leb-true _ _ (sym c.reaches.ensures ∙ c.if-reaches.true);
      upto = c.loop-low.invariant.upto;
    }

pub loop-low-smaller : goal.loop-low-smaller
loop-low-smaller c = omega arith

pub loop-low-preserved : goal.loop-low-preserved
loop-low-preserved c =
    record {
      order = omega arith;
      most = omega arith;
      from = c.loop-low.invariant.from;
      upto = λ h. leb-false _ _ (sym c.reaches.ensures ∙ c.if-reaches.false);
    }

pub returns : goal.returns
returns c =
    let s = c.args in
    let l = c.loop-low in
    record {
      most = omega arith;
      from = l.invariant.from;
      upto = λ (h : l.low < 1024). subst (λ (m : ℕ). edge_north m * s.self.east < edge_east m * s.self.north) {x = l.high} {y = suc l.low} (omega arith) (l.invariant.upto (omega arith));
    }
