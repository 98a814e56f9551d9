-- `bearing` gives the bearing of v: the signs of its parts say which quarter turn of their magnitudes it is. Assumes nothing.
use mathlib.Core.Path.{◌≡◌, sym, ap, ◌∙◌}
use mathlib.Core.Bool.{true, false}
use Prim.Native.Nat.{ℕ, ◌<◌}
use lib.IntN.{ℤ, pos, nat_abs}
use lib.Signed.{lt_z, ◌≤ℤ◌, ◌<ℤ◌}
use mir.Syntax.{w64}
use mir.Val.{to_z, of_z}
use Rattle.integers.proofs.BoundLaws.{kept}
use Rattle.integers.proofs.Ring.{lt-le}
use Rattle.integers.proofs.Tests.{lt_yes, lt_no}
use Rattle.course.specs.declared.Vector.{Vector}
use Rattle.course.specs.Vectors.{plain}
use Rattle.course.specs.Direction.{turned}
use Rattle.course.specs.Bearing.{bearing_of}
use Rattle.course.proofs.VectorLaws.{vector}
use Rattle.course.proofs.BearingLaws.{bears, bearing-nought}
use Rattle.course.proofs.QuarterLaws.{nought, positive-size, negative-size, north-east, south-east, south-west, north-west}
use Rattle.course.proofs.bearing.Goals as goal
use Rattle.course.proofs.bearing.Goals.{After-magnitude-b, Else-east-lt0, Then-east-gt0, Then-east-lt0, Then-east-lt0-2, Then-north-lt0}

-- what is known once the magnitudes are there, of v = (n, e): the machine reads the parts as they are, and a and b are their magnitudes
record Parts (n e : ℤ) (a b : ℕ) : Type 0 where
  read-n : to_z w64 (of_z w64 n) ≡ n
  read-e : to_z w64 (of_z w64 e) ≡ e
  size-n : a ≡ nat_abs n
  size-e : b ≡ nat_abs e

abbrev vector_at : After-magnitude-b → Vector
vector_at c = c.args.v

parts : (c : After-magnitude-b) → Parts (vector_at c).north (vector_at c).east c.magnitude-a.result c.magnitude-b.result
parts c =
    let p = c.requires in
    let rn = kept w64 p.north tt in
    let re = kept w64 p.east tt in
    let an = c.magnitude-a.ensures ∙ ap nat_abs rn in
    let ae = c.magnitude-b.ensures ∙ ap nat_abs re in
    record { read-n = rn; read-e = re; size-n = an; size-e = ae }

-- ---- the tests of the code, of a part that is read as it is
above : (z : ℤ) → to_z w64 (of_z w64 z) ≡ z → lt_z (pos 0) (to_z w64 (of_z w64 z)) ≡ true → pos 0 <ℤ z
above z r t = lt_yes (pos 0) z (simp r at t)

not-above : (z : ℤ) → to_z w64 (of_z w64 z) ≡ z → lt_z (pos 0) (to_z w64 (of_z w64 z)) ≡ false → z ≤ℤ pos 0
not-above z r t = lt_no (pos 0) z (simp r at t)

below : (z : ℤ) → to_z w64 (of_z w64 z) ≡ z → lt_z (to_z w64 (of_z w64 z)) (pos 0) ≡ true → z <ℤ pos 0
below z r t = lt_yes z (pos 0) (simp r at t)

not-below : (z : ℤ) → to_z w64 (of_z w64 z) ≡ z → lt_z (to_z w64 (of_z w64 z)) (pos 0) ≡ false → pos 0 ≤ℤ z
not-below z r t = lt_no z (pos 0) (simp r at t)

-- ---- the arms of the code: v is (a, b) turned by q quarters
record Arm (q a b : ℕ) (n e : ℤ) : Type 0 where
  value : bearing_of (turned q (plain a b)) ≡ bearing_of (record { north = n; east = e })

module _ {n e : ℤ} {a b : ℕ} (p : Parts n e a b) where
  straight : (q : ℕ) → 0 < nat_abs n → turned q (plain (nat_abs n) (nat_abs e)) ≡ record { north = n; east = e } → Arm q a b n e
  straight q h t = record { value = ap bearing_of ((λ i. turned q (plain (p.size-n i) (p.size-e i))) ∙ t) }

  swapped : (q : ℕ) → 0 < nat_abs e → turned q (plain (nat_abs e) (nat_abs n)) ≡ record { north = n; east = e } → Arm q b a n e
  swapped q h t = record { value = ap bearing_of ((λ i. turned q (plain (p.size-e i) (p.size-n i))) ∙ t) }

  arm-0 : pos 0 <ℤ n → pos 0 ≤ℤ e → Arm 0 a b n e
  arm-0 h k = straight 0 (positive-size n h) (north-east n e h k)

  arm-1 : n ≤ℤ pos 0 → pos 0 <ℤ e → Arm 1 b a n e
  arm-1 h k = swapped 1 (positive-size e k) (south-east n e h k)

  arm-2 : n <ℤ pos 0 → e ≤ℤ pos 0 → Arm 2 a b n e
  arm-2 h k = straight 2 (negative-size n h) (south-west n e h k)

  arm-3 : pos 0 ≤ℤ n → e <ℤ pos 0 → Arm 3 b a n e
  arm-3 h k = swapped 3 (negative-size e k) (north-west n e h k)

-- each arm at its place in the code
abbrev Straight : ℕ → After-magnitude-b → Type 0
Straight q m = Arm q m.magnitude-a.result m.magnitude-b.result (vector_at m).north (vector_at m).east

abbrev Swapped : ℕ → After-magnitude-b → Type 0
Swapped q m = Arm q m.magnitude-b.result m.magnitude-a.result (vector_at m).north (vector_at m).east

north-of-west : (c : Then-east-lt0) → Swapped 3 c.before.before
north-of-west c =
    let p = parts c.before.before in
    arm-3 p (lt-le (above _ p.read-n c.if-north-gt0.true)) (below _ p.read-e c.if-east-lt0.true)

north-to-east : (c : Else-east-lt0) → Straight 0 c.before.before
north-to-east c =
    let p = parts c.before.before in
    arm-0 p (above _ p.read-n c.if-north-gt0.true) (not-below _ p.read-e c.if-east-lt0.false)

east-to-south : (c : Then-east-gt0) → Swapped 1 c.before.before
east-to-south c =
    let p = parts c.before.before in
    arm-1 p (not-above _ p.read-n c.if-north-gt0.false) (above _ p.read-e c.if-east-gt0.true)

south-to-west : (c : Then-north-lt0) → Straight 2 c.before.before.before
south-to-west c =
    let p = parts c.before.before.before in
    arm-2 p (below _ p.read-n c.if-north-lt0.true) (not-above _ p.read-e c.if-east-gt0.false)

due-west : (c : Then-east-lt0-2) → Swapped 3 c.before.before.before.before
due-west c =
    let p = parts c.before.before.before.before in
    arm-3 p (not-below _ p.read-n c.if-north-lt0.false) (below _ p.read-e c.if-east-lt0-2.true)

pub returns-then-east-lt0 : goal.returns-then-east-lt0
returns-then-east-lt0 c = bears _ _ (c.bearing_in.ensures ∙ (north-of-west c.before.before).value)

pub returns-else-east-lt0 : goal.returns-else-east-lt0
returns-else-east-lt0 c = bears _ _ (c.bearing_in-else-east-lt0.ensures ∙ (north-to-east c.before.before).value)

pub returns-then-east-gt0 : goal.returns-then-east-gt0
returns-then-east-gt0 c = bears _ _ (c.bearing_in-then-east-gt0.ensures ∙ (east-to-south c.before.before).value)

pub returns-then-north-lt0 : goal.returns-then-north-lt0
returns-then-north-lt0 c = bears _ _ (c.bearing_in-then-north-lt0.ensures ∙ (south-to-west c.before.before).value)

pub returns-then-east-lt0-2 : goal.returns-then-east-lt0-2
returns-then-east-lt0-2 c = bears _ _ (c.bearing_in-then-east-lt0-2.ensures ∙ (due-west c.before.before).value)

pub returns-else-east-lt0-2 : goal.returns-else-east-lt0-2
returns-else-east-lt0-2 c =
    let p = parts c.before.before.before.before in
    let n = nought _ (not-above _ p.read-n c.if-north-gt0.false) (not-below _ p.read-n c.if-north-lt0.false) in
    let e = nought _ (not-above _ p.read-e c.if-east-gt0.false) (not-below _ p.read-e c.if-east-lt0-2.false) in
    bears _ _ (sym bearing-nought ∙ ap bearing_of (sym (vector n e)))
