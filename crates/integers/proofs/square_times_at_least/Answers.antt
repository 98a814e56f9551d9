-- `square_times_at_least` compares y²·a with x²·b, both products in full. Assumes nothing.
use mathlib.Core.Path.{◌∙◌, ap}
use Prim.Native.Nat.{ℕ, ◌*◌}
use lib.Dec.{leb}
use Rattle.integers.proofs.WideLaws.{order-is}
use Rattle.integers.proofs.square_times_at_least.Goals as goal

pub returns : goal.returns
returns c =
    let yya = c.long_product.ensures in
    let xxb = c.long_product-2.ensures in
    let left = yya.value ∙ ap (λ (n : ℕ). n * c.args.a) c.product-yy.ensures.value in
    let right = xxb.value ∙ ap (λ (n : ℕ). n * c.args.b) c.product-xx.ensures.value in
    c.ge.ensures ∙ order-is _ _ yya.limbs xxb.limbs ∙ (λ i. leb (right i) (left i))
