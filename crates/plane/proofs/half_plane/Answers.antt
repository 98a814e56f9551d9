-- `half_plane` decides x/√A + y/√B ≥ 0 by the signs of x and y and one comparison of products. Assumes nothing.
use mathlib.Core.Path.{◌≡◌, sym, ap, ◌∙◌}
use mathlib.Core.Bool.{Bool, true, false}
use Prim.Native.Nat.{ℕ, ◌*◌, ◌<◌}
use native.Mathlib.Omega.{arith}
use lib.Dec.{leb}
use lib.IntN.{ℤ, pos, nat_abs}
use lib.Signed.{le_z}
use mir.Syntax.{w64}
use mir.Val.{to_z, of_z}
use Rattle.integers.specs.Wide.{base}
use Rattle.integers.proofs.BoundLaws.{kept}
use Rattle.plane.proofs.HalfLaws.{hand-halves, both-met, none-met, x-negative, y-negative}
use Rattle.plane.proofs.half_plane.Goals as goal
use Rattle.plane.proofs.half_plane.Goals.{After-magnitude-v}

-- what is known once the magnitudes are there: the machine reads x and y as they are, and u and v are their magnitudes
record Parts (x y : ℤ) (u v : ℕ) : Type 0 where
  read-x : to_z w64 (of_z w64 x) ≡ x
  read-y : to_z w64 (of_z w64 y) ≡ y
  size-x : u ≡ nat_abs x
  size-y : v ≡ nat_abs y
  low_x : u < base
  low-y : v < base

parts : (c : After-magnitude-v) → Parts c.args.x c.args.y c.magnitude-u.result c.magnitude-v.result
parts c =
    let p = c.requires in
    let rx = kept w64 p.0.0 tt in
    let ry = kept w64 p.0.1 tt in
    let ux = c.magnitude-u.ensures ∙ ap nat_abs rx in
    let vy = c.magnitude-v.ensures ∙ ap nat_abs ry in
    record { read-x = rx; read-y = ry; size-x = ux; size-y = vy; low_x = omega (arith, ux, p.0.0.within); low-y = omega (arith, vy, p.0.1.within) }

-- a test of the code, of a number that is read as it is
tested : (z : ℤ) (t : Bool) → to_z w64 (of_z w64 z) ≡ z → le_z (pos 0) (to_z w64 (of_z w64 z)) ≡ t → le_z (pos 0) z ≡ t
tested z t r h = simp r at h

pub returns-in-true-true : goal.returns-in-true-true
returns-in-true-true c =
    let s = c.args in
    let p = parts c.before in
    let t = c.in-true-true in
    record { value = sym (both-met s.x s.y s.a s.b (tested s.x true p.read-x t.is-0) (tested s.y true p.read-y t.is-1)); hand_halves = hand-halves }

pub returns-in-true-false : goal.returns-in-true-false
returns-in-true-false c =
    let s = c.args in
    let p = parts c.before.before in
    let t = c.in-true-false in record {
      value = c.square_times_at_least.ensures
          ∙ (λ i. leb (p.size-y i * p.size-y i * s.a) (p.size-x i * p.size-x i * s.b))
          ∙ sym (y-negative s.x s.y s.a s.b (tested s.x true p.read-x t.is-0) (tested s.y false p.read-y t.is-1));
      hand_halves = hand-halves;
    }

pub returns-in-false-true : goal.returns-in-false-true
returns-in-false-true c =
    let s = c.args in
    let p = parts c.before.before in
    let t = c.in-false-true in record {
      value = c.square_times_at_least-in-false-true.ensures
          ∙ (λ i. leb (p.size-x i * p.size-x i * s.b) (p.size-y i * p.size-y i * s.a))
          ∙ sym (x-negative s.x s.y s.a s.b (tested s.x false p.read-x t.is-0) (tested s.y true p.read-y t.is-1));
      hand_halves = hand-halves;
    }

pub returns-in-false-false : goal.returns-in-false-false
returns-in-false-false c =
    let s = c.args in
    let p = parts c.before in
    let t = c.in-false-false in
    record { value = sym (none-met s.x s.y s.a s.b (tested s.x false p.read-x t.is-0) (tested s.y false p.read-y t.is-1)); hand_halves = hand-halves }
