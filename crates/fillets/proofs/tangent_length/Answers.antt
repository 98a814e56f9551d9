-- `tangent_length` gives R·S/(16,384 + C), rounded down. Assumes nothing.
use mathlib.Core.Path.{◌≡◌, sym, ap, ◌∙◌, subst}
use Prim.Native.Nat.{ℕ, ◌*◌, ◌/◌, ◌≤◌}
use native.Mathlib.Nat.{mul-le-mul}
use native.Mathlib.Omega.{arith}
use lib.IntN.{pos, nat_abs, ◌+ℤ◌}
use mir.Syntax.{w64}
use mir.Val.{to_z, of_z}
use Rattle.integers.proofs.BoundLaws.{overflow, kept}
use Rattle.integers.proofs.ValueLaws.{value, via}
use Rattle.course.specs.declared.Vector.{Vector}
use Rattle.course.specs.Direction.{direction_of}
use Rattle.fillets.specs.Corners.{tangent_of, IsTangent}
use Rattle.fillets.proofs.TangentLaws.{magnitudes, is-tangent, tangent-only, tangent-le}
use Rattle.fillets.proofs.tangent_length.Goals as goal
use Rattle.fillets.proofs.tangent_length.Goals.{After-magnitude-base}

-- what is known once both magnitudes are there, of a radius R and a turn τ
record Parts (R τ sine base : ℕ) : Type 0 where
  sine-is : sine ≡ nat_abs (direction_of τ).east
  base-is : base ≡ nat_abs (pos 16384 +ℤ (direction_of τ).north)
  product : R * sine ≤ 10000 * 16384
  some : 1247 ≤ base

parts : (c : After-magnitude-base)
    → Parts c.args.radius c.args.turn c.magnitude-sine.result c.magnitude-base.result
parts c =
    let d = c.direction-d in
    let τ = c.args.turn in
    let m = magnitudes τ c.requires.1 in
    let north : to_z w64 (of_z w64 (pos 16384 +ℤ to_z w64 (of_z w64 d.result.north))) ≡ pos 16384 +ℤ (direction_of τ).north = via (ap (λ (u : Vector). pos 16384 +ℤ u.north) {x = d.result} {y = direction_of τ} d.ensures.0) (search value depth 20 fits 5000) in
    let sine = c.magnitude-sine.ensures ∙ ap nat_abs (kept w64 d.ensures.1.east tt) ∙ ap (λ (u : Vector). nat_abs u.east) {x = d.result} {y = direction_of τ} d.ensures.0 in
    let base = c.magnitude-base.ensures ∙ ap nat_abs north in
    let most : c.magnitude-sine.result ≤ 16384 = omega (arith, sine, m.sine) in
    record {
      sine-is = sine;
      base-is = base;
      product = mul-le-mul c.requires.0 most;
      some = omega (arith, base, m.base);
    }

pub overflow_add-d : goal.overflow_add-d
overflow_add-d c = search overflow depth 20 fits 5000

pub overflow_mul-result : goal.overflow_mul-result
overflow_mul-result c = omega (arith, (parts c).product)

pub nonzero_div-result : goal.nonzero_div-result
nonzero_div-result c = omega (arith, (parts c).some)

pub returns : goal.returns
unfolding tangent_of
returns c =
    let R = c.args.radius in
    let τ = c.args.turn in
    let p = parts c in
    let e : R * c.magnitude-sine.result / c.magnitude-base.result ≡ tangent_of R τ = λ i. R * p.sine-is i / p.base-is i in
    record { value = e; upper_bound = omega (arith, e, tangent-le R τ c.requires.0 c.requires.1); tangent = (subst (IsTangent R τ) (sym e) (is-tangent R τ c.requires.1), λ t i. tangent-only R τ t c.requires.1 i ∙ sym e) }
