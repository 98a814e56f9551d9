-- `as_long` says whether a straight part and arcs are as long as a length, by squares. Assumes nothing.
use mathlib.Core.Path.{sym, ap, ◌∙◌}
use Prim.Native.Nat.{◌+◌, ◌-◌, ◌*◌, ◌≤◌}
use native.Mathlib.Nat.{mul-le-mul}
use native.Mathlib.Omega.{arith}
use lib.Dec.{leb}
use borrow.Author.Tests.{le-leb}
use Rattle.dubins.specs.Cases.{straight_of}
use Rattle.dubins.proofs.LeastLaws.{outer-asked, inner-asked}
use Rattle.dubins.proofs.as_long.Goals as goal
use Rattle.dubins.proofs.as_long.Goals.{Else-length-arcs}

-- a square that fits
rest-low : (c : Else-length-arcs) → let a = c.args in a.length - a.arcs ≤ 2000000
rest-low c = let h = c.requires.0 in omega arith

pub returns-then-length-arcs : goal.returns-then-length-arcs
returns-then-length-arcs c = let a = c.args in sym (le-leb a.length (straight_of a.case a.radius a.v + a.arcs) (omega (arith, c.if-length-arcs.true)))

pub overflow_mul-result : goal.overflow_mul-result
overflow_mul-result c = let h = rest-low c.before.before in omega (arith, mul-le-mul h h)

pub overflow_mul-result-else-same_side : goal.overflow_mul-result-else-same_side
overflow_mul-result-else-same_side c = let h = rest-low c.before.before in omega (arith, mul-le-mul h h)

pub overflow_mul-result-else-same_side-3 : goal.overflow_mul-result-else-same_side-3
overflow_mul-result-else-same_side-3 c = let h = c.requires.1.1 in omega (arith, mul-le-mul h h)

pub overflow_add-result : goal.overflow_add-result
overflow_add-result c =
    let h = rest-low c.before.before in
    let k = c.requires.1.1 in
    omega (arith, mul-le-mul h h, mul-le-mul k k)

pub returns-then-same_side : goal.returns-then-same_side
returns-then-same_side c =
    let a = c.args in
    let x = a.length - a.arcs in
    let e = outer-asked a.case a.radius a.v a.length a.arcs c.if-length-arcs.false (sym c.same_side.ensures ∙ c.if-same_side.true) in
    ap (leb (x * x)) c.squared.ensures.0 ∙ sym e

pub returns-else-same_side : goal.returns-else-same_side
returns-else-same_side c =
    let a = c.args in
    let x = a.length - a.arcs in
    let e = inner-asked a.case a.radius a.v a.length a.arcs c.if-length-arcs.false (sym c.same_side.ensures ∙ c.if-same_side.false) in
    ap (leb (x * x + 4 * a.radius * a.radius)) c.squared-else-same_side.ensures.0 ∙ sym e
