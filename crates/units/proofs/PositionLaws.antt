-- A fix in its limits has a position, which lies in the area, and another has none. Assumes nothing.
use mathlib.Core.Path.{◌≡◌, sym, ◌∙◌, ap, subst}
use mathlib.Core.Bool.{Bool, true, false, ◌&&◌}
use lib.Dec.{T}
use Rattle.std.specs.Prelude.{Option, Some, None, is_some, IfSome}
use Rattle.plane.specs.declared.Point.{Point}
use lib.Ieee.Fits.{and_l, and_r}
use Rattle.conditions.specs.Choose.{choose}
use Rattle.conditions.proofs.ChooseLaws.{choose-true, choose-false}
use Rattle.plane.specs.Area.{InArea}
use Rattle.units.specs.declared.Fix.{Fix}
use Rattle.units.specs.Decimetres.{in_limit}
use Rattle.units.specs.Position.{in_decimetres, all_in_limit, position_of, IsPosition}
use Rattle.units.specs.CheckedExamples.{FixExamples}
use Rattle.units.proofs.DecimetreLaws.{decimetres-within}
use Rattle.units.proofs.CheckedExamples.{fix-examples}

module _ (f : Fix) (h : T (all_in_limit f)) where
  rest : T (in_limit 50000 f.east && in_limit 10000 f.down)
  unfolding all_in_limit
  rest = and_r (in_limit 50000 f.north) (in_limit 50000 f.east && in_limit 10000 f.down) h

  pub north-in : T (in_limit 50000 f.north)
  unfolding all_in_limit
  north-in = and_l (in_limit 50000 f.north) (in_limit 50000 f.east && in_limit 10000 f.down) h

  pub east-in : T (in_limit 50000 f.east)
  east-in = and_l (in_limit 50000 f.east) (in_limit 10000 f.down) rest

  pub down-in : T (in_limit 10000 f.down)
  down-in = and_r (in_limit 50000 f.east) (in_limit 10000 f.down) rest

  area : InArea (in_decimetres f)
  area =
      record {
        north = decimetres-within 50000 f.north north-in;
        east = decimetres-within 50000 f.east east-in;
        down = decimetres-within 10000 f.down down-in;
      }

-- ---- the two answers
pub position_at : (f : Fix) → all_in_limit f ≡ true → position_of f ≡ Some (in_decimetres f)
unfolding position_of
position_at f e = choose-true (all_in_limit f) (Some (in_decimetres f)) None e

pub position-nowhere : (f : Fix) → all_in_limit f ≡ false → position_of f ≡ None
unfolding position_of
position-nowhere f e = choose-false (all_in_limit f) (Some (in_decimetres f)) None e

-- told apart by a test, t, whose answer is whether r is a point
pub located : (f : Fix) (r : Option Point) {t : Bool} → t ≡ all_in_limit f → is_some r ≡ t → IfSome r (λ p. p ≡ in_decimetres f) → r ≡ position_of f
located f (Some p) e s h = ap (λ (p : Point). Some p) h ∙ sym (position_at f (sym e ∙ sym s))
located f None e s h = sym (position-nowhere f (sym e ∙ sym s))

-- ---- and where they lie
pub position-in-area : (f : Fix) → IsPosition (position_of f)
unfolding position_of choose
position-in-area f = when (all_in_limit f) (area f)
  where
    when : (t : Bool) → (T t → InArea (in_decimetres f)) → IsPosition (choose t (Some (in_decimetres f)) None)
    when true h = h tt
    when false h = tt

-- ---- the promise of `locate`
pub placed : {r : Option Point} (f : Fix) → r ≡ position_of f → (r ≡ position_of f) × (IsPosition r × FixExamples)
placed f e = (e, (subst IsPosition (sym e) (position-in-area f), fix-examples))
