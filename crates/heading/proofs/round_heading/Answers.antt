-- `round_heading` gives φ + sense·(1024 + b), modulo 4,096. Assumes nothing.
use mathlib.Core.Path.{◌≡◌, ap, ◌∙◌}
use Prim.Native.Nat.{◌≤◌}
use native.Mathlib.Omega.{arith}
use lib.IntN.{pos, ◌+ℤ◌, ◌-ℤ◌}
use Rattle.conditions.specs.Choose.{choose}
use Rattle.integers.specs.Wrap.{wrap_of}
use Rattle.integers.proofs.BoundLaws.{overflow}
use Rattle.integers.proofs.ValueLaws.{value, is}
use Rattle.integers.proofs.WrapLaws.{wrap-low}
use Rattle.heading.specs.Heading.{round_heading}
use Rattle.heading.proofs.round_heading.Goals as goal

pub overflow_add-b : goal.overflow_add-b
overflow_add-b c = search overflow depth 20 fits 5000

pub overflow_add-k : goal.overflow_add-k
overflow_add-k c =
    let h : c.args.k ≤ 4096 = omega arith in
    search overflow depth 20 fits 5000

pub overflow_add-b-else-right : goal.overflow_add-b-else-right
overflow_add-b-else-right c = search overflow depth 20 fits 5000

pub overflow_sub-k : goal.overflow_sub-k
overflow_sub-k c =
    let h : c.args.k ≤ 4096 = omega arith in
    search overflow depth 20 fits 5000

pub returns-then-right : goal.returns-then-right
unfolding round_heading choose
returns-then-right c =
    let s = c.args in
    let h : s.k ≤ 4096 = omega arith in
    let e : c.wrap.result ≡ wrap_of (pos s.k +ℤ (pos 1024 +ℤ s.b)) = c.wrap.ensures ∙ ap wrap_of (is (search value depth 20 fits 5000)) in
    simp c.if-right.true (wrap-low (pos s.k +ℤ (pos 1024 +ℤ s.b)) e)

pub returns-else-right : goal.returns-else-right
unfolding round_heading choose
returns-else-right c =
    let s = c.args in
    let h : s.k ≤ 4096 = omega arith in
    let e : c.wrap-else-right.result ≡ wrap_of (pos s.k -ℤ (pos 1024 +ℤ s.b)) = c.wrap-else-right.ensures ∙ ap wrap_of (is (search value depth 20 fits 5000)) in
    simp c.if-right.false (wrap-low (pos s.k -ℤ (pos 1024 +ℤ s.b)) e)
