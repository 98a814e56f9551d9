-- `decimetres` gives the nearest decimetre: the size from the bits, with the sign of the float. Assumes nothing.
use mathlib.Core.Path.{◌≡◌, refl, sym, ◌∙◌, ap, subst}
use mathlib.Core.Bool.{Bool}
use Prim.Native.Nat.{ℕ, ◌≤◌}
use lib.IntN.{pos, ◌-ℤ◌, nat_abs}
use mir.Syntax.{w32}
use mir.Val.{SFits, to_z}
use lib.Dec.{T}
use lib.Ieee.{binary32, fits, to_bits}
use Rattle.std.specs.Float.{is_sign_negative}
use Rattle.integers.proofs.BoundLaws.{overflow}
use Rattle.integers.proofs.ValueLaws.{value, via}
use Rattle.units.specs.Decimetres.{signed, decimetres_of}
use Rattle.units.specs.Pattern.{unsigned_decimetres}
use Rattle.units.proofs.LimitLaws.{limit-number}
use Rattle.units.proofs.DecimetreLaws.{size-signed, decimetres-within}
use Rattle.units.proofs.PatternLaws.{field-most, bits-decimetres}
use Rattle.units.proofs.decimetres.Goals as goal
use Rattle.units.proofs.decimetres.Goals.{After-unsigned_decimetres-size, Start}

-- an f32 holds what its format holds
held : (c : Start) → T (fits binary32 c.args.x)
held c = subst T (sym c.well_formed.0.1) tt

module _ (c : After-unsigned_decimetres-size) where
  abbrev size : ℕ
  size = c.unsigned_decimetres-size.result

  -- by the sign, t
  with-sign : {t : Bool} → is_sign_negative c.args.x ≡ t → signed t size ≡ decimetres_of c.args.x
  with-sign {t} e =
      let x = c.args.x in
      ap (signed t) c.unsigned_decimetres-size.ensures
      ∙ (ap (λ (b : Bool). signed b (unsigned_decimetres (to_bits binary32 x))) (sym e) ∙ sym (bits-decimetres x (held c.before) c.requires))

  most : size ≤ 500000
  most =
      let x = c.args.x in
      subst (λ (n : ℕ). n ≤ 500000) (sym (ap nat_abs (with-sign refl)) ∙ size-signed (is_sign_negative x) size)
      (decimetres-within 50000 x c.requires).within

  -- and of its sign
  minus-fits : SFits w32 (pos 0 -ℤ to_z w32 size)
  minus-fits =
      let h = most in
      search overflow depth 20 fits 5000

pub float_to_bits-x : goal.float_to_bits-x
float_to_bits-x c = limit-number 50000 c.args.x c.requires

pub unsigned_decimetres-size-requires : goal.unsigned_decimetres-size-requires
unsigned_decimetres-size-requires c = field-most c.args.x (held c) c.requires

pub overflow_cast-size : goal.overflow_cast-size
overflow_cast-size c =
    let h = most c in
    search overflow depth 20 fits 5000

pub is_sign_negative-requires : goal.is_sign_negative-requires
is_sign_negative-requires c = limit-number 50000 c.args.x c.requires

pub overflow_sub-result : goal.overflow_sub-result
overflow_sub-result c = minus-fits c.before.before

pub returns-then-is_sign_negative : goal.returns-then-is_sign_negative
returns-then-is_sign_negative c =
    let h = most c.before.before in
    via (with-sign c.before.before (sym c.is_sign_negative.ensures ∙ c.if-is_sign_negative.true)) (search value depth 20 fits 5000)

pub returns-else-is_sign_negative : goal.returns-else-is_sign_negative
returns-else-is_sign_negative c =
    let h = most c.before.before in
    via (with-sign c.before.before (sym c.is_sign_negative.ensures ∙ c.if-is_sign_negative.false)) (search value depth 20 fits 5000)
