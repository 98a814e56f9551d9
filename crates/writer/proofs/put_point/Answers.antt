-- `put_point` writes the three numbers of a point. Assumes nothing.
use mathlib.Core.Path.{◌≡◌, refl, ◌∙◌}
use mathlib.Core.List.{◌++◌}
use Prim.Native.Nat.{ℕ}
use lib.IntN.{ℤ}
use borrow.Author.Rules.{rules}
use Rattle.integers.specs.TwosComplement.{signed_of, unsigned_of}
use Rattle.plane.specs.declared.Point.{Point}
use Rattle.records.specs.Numbers.{u32_bytes, i32_bytes}
use Rattle.records.specs.Kinds.{point_bytes}
use Rattle.buffers.proofs.SpliceLaws.{joined}
use Rattle.writer.proofs.put_point.Goals as goal
use Rattle.writer.proofs.put_point.Goals.{Start}

-- the bits of a number that is read through its bits
same_bits : (r : ℕ) (z : ℤ) → signed_of (unsigned_of z) ≡ z → r ≡ unsigned_of (signed_of (unsigned_of z)) → r ≡ unsigned_of z
same_bits r z e h = h ∙ (λ i. unsigned_of (e i))

record Kept (p : Point) : Type 0 where
  north : signed_of (unsigned_of p.north) ≡ p.north
  east : signed_of (unsigned_of p.east) ≡ p.east
  down : signed_of (unsigned_of p.down) ≡ p.down

kept : (s : Start) → Kept s.args.point
kept s = record { north = search rules; east = search rules; down = search rules }

pub returns : goal.returns
unfolding point_bytes i32_bytes u32_bytes
returns c =
    let p = c.args.point in
    let old = c.args.part.now in
    let k = kept (goal.at.returns c).Start in
    let n = rw (same_bits _ p.north k.north c.unsigned.ensures) at c.put_u32.ensures in
    let e = rw (same_bits _ p.east k.east c.unsigned-2.ensures) at c.put_u32-2.ensures in
    let d = rw (same_bits _ p.down k.down c.unsigned-3.ensures) at c.put_u32-3.ensures in
    let f = joined 4 (i32_bytes p.north) (i32_bytes p.east) old refl n e in
    joined 8 (i32_bytes p.north ++ i32_bytes p.east) (i32_bytes p.down) old refl f d
