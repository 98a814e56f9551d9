-- The pieces that the file of a plan is written in: their lengths, and that together they are the file. Assumes nothing.
use mathlib.Core.Path.{◌≡◌, refl, ap, ◌∙◌}
use mathlib.Core.Logic.{◌≢◌}
use Rattle.std.proofs.Common.{Option, Some, None}
use mathlib.Core.List.{List, [], ◌∷◌, ◌++◌}
use Prim.Native.Nat.{ℕ, suc, ◌+◌, ◌-◌, ◌≤◌}
use native.Mathlib.Omega.{arith}
use lib.Dec.{eqb}
use lib.ListN.{length, take, drop, length-append}
use borrow.Author.Tests.{eq-eqb, ne_eqb}
use Rattle.conditions.specs.Choose.{choose}
use Rattle.conditions.proofs.Bools.{by_bool}
use Rattle.plane.specs.declared.Point.{Point}
use Rattle.plan.specs.declared.Plan.{Plan}
use Rattle.records.specs.Numbers.{u16_bytes, u32_bytes}
use Rattle.records.specs.Walk.{flat}
use Rattle.records.specs.Kinds.{point_bytes}
use Rattle.records.specs.Gather.{header_length}
use Rattle.records.proofs.WrittenLaws.{point-length, u16-length}
use Rattle.buffers.specs.Splice.{over, splice}
use Rattle.writer.specs.File.{with_header, radius_record, plan_records, file_of}
use Rattle.writer.specs.Pieces.{header_bytes, record_bytes, radius_bytes, place_bytes, places_bytes}
use Rattle.buffers.proofs.SpliceLaws.{lent, behind, further}

-- ---- header and records
pub header-length : (version serial size : ℕ) → length (header_bytes version serial size) ≡ header_length
unfolding header_bytes u16_bytes u32_bytes
header-length version serial size = refl

pub point-record : (p : Point) → length (record_bytes 1 (point_bytes p)) ≡ 14
unfolding record_bytes
point-record p = ap (λ (n : ℕ). suc (suc n)) (point-length p)

pub value-record : (kind value : ℕ) → length (record_bytes kind (u16_bytes value)) ≡ 4
unfolding record_bytes
value-record kind value = ap (λ (n : ℕ). suc (suc n)) (u16-length value)

-- a record whose head was written, and its body into a part behind
pub headed : (at kind : ℕ) (body old : List ℕ) {size : ℕ} {now back : List ℕ} → at ≤ length old → length body ≡ size
    → now ≡ splice at (kind ∷ size ∷ []) old → back ≡ over body (take (length now - (at + 2)) (drop (at + 2) now))
    → take (at + 2) now ++ (back ++ drop (length now - (at + 2)) (drop (at + 2) now)) ≡ splice at (record_bytes kind body) old
unfolding record_bytes
headed at kind body old {size} {now} {back} h l e f =
    lent (at + 2) body now back f
    ∙ ap (splice (at + 2) body) e
    ∙ further at 2 (kind ∷ size ∷ []) body old refl h
    ∙ rw l

-- ---- the radius, if any
module _ (R : ℕ) where
  pub no-radius : R ≡ 0 → radius_bytes R ≡ []
  unfolding radius_bytes choose
  no-radius h = rw (eq-eqb R 0 h)

  pub some-radius : R ≢ 0 → radius_bytes R ≡ record_bytes 2 (u16_bytes R)
  unfolding radius_bytes choose
  some-radius h = rw (ne_eqb R 0 h)

-- ---- a point, and its course if it has one
pub place-least : (p : Point) (course : Option ℕ) → 14 ≤ length (place_bytes p course)
unfolding place_bytes
place-least p None = omega (arith, point-record p)
place-least p (Some χ) = simp length-append (omega (arith, point-record p))

pub course-length : (p : Point) {χ : ℕ} {course : Option ℕ} → course ≡ Some χ → length (place_bytes p course) ≡ 18
unfolding place_bytes
course-length p {χ} e = rw e (simp length-append (omega (arith, point-record p, value-record 3 χ)))

-- ---- the whole
pub area-is : (p : Plan) → flat (plan_records p) ≡ radius_bytes p.head.radius ++ places_bytes p
unfolding plan_records radius_record radius_bytes places_bytes record_bytes flat choose
area-is p = by_bool (eqb p.head.radius 0) (λ t. rw t) (λ t. rw t)

pub file-is : (version size : ℕ) (p : Plan) → size ≡ length (flat (plan_records p))
    → (header_bytes version p.head.serial size ++ radius_bytes p.head.radius) ++ places_bytes p ≡ file_of version p
unfolding file_of with_header header_bytes u16_bytes u32_bytes
file-is version size p e = rw (e, area-is p) refl

pub file-length-is : (version : ℕ) (p : Plan) → length (file_of version p) ≡ header_length + length (flat (plan_records p))
unfolding file_of with_header u16_bytes u32_bytes
file-length-is version p = omega arith

pub file-room : (version : ℕ) (p : Plan) → length (file_of version p) ≡ header_length + length (radius_bytes p.head.radius) + length (places_bytes p)
file-room version p = omega (arith, file-length-is version p, simp length-append at (ap length (area-is p)))

-- header, radius and places were written, one behind the other
pub all-written : (version : ℕ) (p : Plan) (old : List ℕ) {size at : ℕ} {x y z : List ℕ} → size ≡ length (flat (plan_records p))
    → x ≡ over (header_bytes version p.head.serial size) old
    → (y ≡ splice header_length (radius_bytes p.head.radius) x) × (at ≡ header_length + length (radius_bytes p.head.radius))
    → z ≡ splice at (places_bytes p) y
    → z ≡ over (file_of version p) old
all-written version p old {size} {at} {x} {y} {z} n e f g =
    let h = header_bytes version p.head.serial size in
    let r = radius_bytes p.head.radius in
    let b : y ≡ over (h ++ r) old = f.0 ∙ ap (splice header_length r) e ∙ behind header_length h r old (header-length version p.head.serial size) in
    let l : length (h ++ r) ≡ at = simp length-append (omega (arith, f.1, header-length version p.head.serial size)) in
    g
    ∙ ap (splice at (places_bytes p)) b
    ∙ behind at (h ++ r) (places_bytes p) old l
    ∙ ap (λ (k : List ℕ). over k old) (file-is version size p n)
