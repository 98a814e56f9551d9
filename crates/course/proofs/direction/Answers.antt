-- `direction` gives D(k) of every k. Assumes nothing.
use mathlib.Core.Path.{◌≡◌, sym, ap, ◌∙◌}
use Prim.Native.Nat.{ℕ, ◌≤◌, ◌-◌, ◌/◌, ◌%◌}
use native.Mathlib.Omega.{arith}
use mir.Syntax.{w64}
use Rattle.integers.proofs.BoundLaws.{bound, cast-nat}
use Rattle.course.specs.Table.{sine_of}
use Rattle.course.specs.Vectors.{plain}
use Rattle.course.specs.Direction.{turned, direction_of}
use Rattle.course.proofs.VectorLaws.{vector}
use Rattle.course.proofs.TableLaws.{sine-most}
use Rattle.course.proofs.DirectionLaws.{turned_round, direction-here}
use Rattle.course.proofs.direction.Goals as goal
use Rattle.course.proofs.direction.Goals.{After-entry-east}

-- the two parts of the first quarter, and their bounds
record Parts (k a b : ℕ) : Type 0 where
  north : a ≡ sine_of (1024 - k % 1024)
  east : b ≡ sine_of (k % 1024)
  north-most : a ≤ 16384
  east-most : b ≤ 16384

parts : (c : After-entry-east) → Parts c.args.k c.entry-north.result c.entry-east.result
parts c =
    let k = c.args.k in
    record {
      north = c.entry-north.ensures;
      east = c.entry-east.ensures;
      north-most = omega (arith, c.entry-north.ensures, sine-most (1024 - k % 1024) (omega arith));
      east-most = omega (arith, c.entry-east.ensures, sine-most (k % 1024) (omega arith));
    }

-- and the quarters are counted from 0 to 3
whole : {k a b : ℕ} → Parts k a b → turned (k / 1024 % 4) (plain a b) ≡ direction_of k
whole {k} {a} {b} p =
    turned_round (k / 1024) (plain a b) ∙ (λ i. turned (k / 1024) (plain (p.north i) (p.east i))) ∙ sym (direction-here k)

pub overflow_cast-north : goal.overflow_cast-north
overflow_cast-north c = omega (arith, c.entry-north.ensures, sine-most (1024 - c.args.k % 1024) (omega arith))

pub overflow_cast-east : goal.overflow_cast-east
overflow_cast-east c = omega (arith, c.entry-east.ensures, sine-most (c.args.k % 1024) (omega arith))

pub turned_by-requires : goal.turned_by-requires
turned_by-requires c =
    let p = parts c in
    let a = p.north-most in
    let b = p.east-most in
    (omega arith, (search bound depth 20 fits 5000, search bound depth 20 fits 5000))

pub returns : goal.returns
returns c =
    let p = parts c.before in (
      c.turned_by.ensures.0 ∙ ap (turned _) (vector (cast-nat w64 p.north-most tt) (cast-nat w64 p.east-most tt)) ∙ whole p,
      c.turned_by.ensures.1,
    )
