-- `put_u32` writes the four bytes of a number. Assumes nothing.
use mathlib.Core.Path.{◌≡◌, ap, ◌∙◌}
use mathlib.Core.List.{List, [], ◌∷◌}
use Prim.Native.Nat.{ℕ, ◌/◌, ◌%◌}
use native.Mathlib.Omega.{arith}
use Rattle.records.specs.Numbers.{u32_bytes}
use Rattle.buffers.specs.Splice.{over}
use Rattle.writer.proofs.put_u32.Goals as goal

pub returns : goal.returns
unfolding u32_bytes
returns c =
    let n = c.args.value in
    let first : n / 16777216 % 256 ≡ n / 65536 / 256 = omega (arith, c.ranges.value.fits) in
    let third : n / 256 % 256 ≡ n % 65536 / 256 = omega arith in
    let last : n % 256 ≡ n % 65536 % 256 = omega arith in
    c.put.ensures.part_after
    ∙ ap (λ (l : List ℕ). over l c.args.part.now) (c.to_be_bytes.ensures ∙ (λ i. first i ∷ n / 65536 % 256 ∷ third i ∷ last i ∷ []))
