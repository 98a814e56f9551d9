-- `signed_between` makes the two tests of the definition, in its order. Assumes nothing.
use mathlib.Core.Path.{◌≡◌, sym, ◌∙◌}
use mathlib.Core.Bool.{Bool, true}
use Prim.Native.Nat.{◌≤◌}
use native.Mathlib.Omega.{arith}
use lib.IntN.{pos, neg_ℤ}
use lib.Signed.{le_z}
use Rattle.conditions.specs.Both.{both}
use Rattle.conditions.proofs.Bools.{both-on, both-off}
use Rattle.integers.proofs.ValueLaws.{tested, typed}
use Rattle.plan.specs.Limits.{signed_between}
use Rattle.plan.proofs.signed_between.Goals as goal

-- what a test told, of the number that it read
read : {b t : Bool} → b ≡ t → (y : Bool) → b ≡ y → y ≡ t
read p y e = sym e ∙ p

-- both tests, where the first has passed
last : {r : Bool} (a b : Bool) → a ≡ true → r ≡ b → r ≡ both a b
last a b t e = e ∙ sym (both-on a b t)

pub returns-then-from-wide : goal.returns-then-from-wide
unfolding signed_between
returns-then-from-wide c =
    let s = c.args in
    let l : s.low ≤ 4294967295 = omega arith in
    let h : s.high ≤ 4294967295 = omega arith in
    let low = le_z (neg_ℤ (pos s.low)) s.z in
    last low (le_z s.z (pos s.high)) (read c.if-from-wide.true low (search (tested, typed, c.from.ensures, c.from-wide.ensures) depth 20 fits 5000)) (search (tested, typed, c.from-then-from-wide.ensures, c.from-wide.ensures) depth 20 fits 5000)

pub returns-else-from-wide : goal.returns-else-from-wide
unfolding signed_between
returns-else-from-wide c =
    let s = c.args in
    let l : s.low ≤ 4294967295 = omega arith in
    let low = le_z (neg_ℤ (pos s.low)) s.z in
    c.if-from-wide.false
    ∙ sym (both-off low (le_z s.z (pos s.high)) (read c.if-from-wide.false low (search (tested, typed, c.from.ensures, c.from-wide.ensures) depth 20 fits 5000)))
