-- `put_u16` writes the two bytes of a number. Assumes nothing.
use mathlib.Core.Path.{◌≡◌, ap, ◌∙◌}
use mathlib.Core.List.{List, [], ◌∷◌}
use Prim.Native.Nat.{ℕ, ◌/◌, ◌%◌}
use native.Mathlib.Omega.{arith}
use Rattle.records.specs.Numbers.{u16_bytes}
use Rattle.buffers.specs.Splice.{over}
use Rattle.writer.proofs.put_u16.Goals as goal

pub returns : goal.returns
unfolding u16_bytes
returns c =
    let n = c.args.value in
    let high : n / 256 % 256 ≡ n / 256 = omega (arith, c.ranges.value.fits) in
    c.put.ensures.part_after
    ∙ ap (λ (l : List ℕ). over l c.args.part.now) (c.to_be_bytes.ensures ∙ (λ i. high i ∷ n % 256 ∷ []))
