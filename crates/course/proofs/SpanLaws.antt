-- A vector between two others, less than half a circle apart, lies on that side of any vector on which both of them lie. Assumes nothing.
use mathlib.Core.Path.{◌≡◌, sym, ◌∙◌}
use native.Mathlib.Omega.{arith}
use lib.IntN.{ℤ, pos, ◌+ℤ◌, ◌-ℤ◌, ◌*ℤ◌, +ℤ_comm}
use lib.Signed.{◌≤ℤ◌, ◌<ℤ◌}
use Rattle.integers.proofs.Ring.{v, add, sub, mul, same}
use Rattle.integers.proofs.SignLaws.{Factors, not_negative, negative}
use Rattle.course.specs.declared.Vector.{Vector}
use Rattle.course.specs.Vectors.{cross}

-- ---- products of three in another order, of sums and of differences
outer : (x y z : ℤ) → x *ℤ y *ℤ z ≡ z *ℤ y *ℤ x
outer x y z = same (mul (mul (v x) (v y)) (v z)) (mul (mul (v z) (v y)) (v x)) (omega arith)

last : (x y z : ℤ) → x *ℤ y *ℤ z ≡ x *ℤ z *ℤ y
last x y z = same (mul (mul (v x) (v y)) (v z)) (mul (mul (v x) (v z)) (v y)) (omega arith)

first : (x y z : ℤ) → x *ℤ (y *ℤ z) ≡ y *ℤ (x *ℤ z)
first x y z = same (mul (v x) (mul (v y) (v z))) (mul (v y) (mul (v x) (v z))) (omega arith)

less-times : (x y z : ℤ) → (x -ℤ y) *ℤ z ≡ x *ℤ z -ℤ y *ℤ z
less-times x y z = same (mul (sub (v x) (v y)) (v z)) (sub (mul (v x) (v z)) (mul (v y) (v z))) (omega arith)

times-less : (x y z : ℤ) → x *ℤ (y -ℤ z) ≡ x *ℤ y -ℤ x *ℤ z
times-less x y z = same (mul (v x) (sub (v y) (v z))) (sub (mul (v x) (v y)) (mul (v x) (v z))) (omega arith)

times-plus : (x y z : ℤ) → x *ℤ (y +ℤ z) ≡ x *ℤ y +ℤ x *ℤ z
times-plus x y z = same (mul (v x) (add (v y) (v z))) (add (mul (v x) (v y)) (mul (v x) (v z))) (omega arith)

pairwise : (w x y z : ℤ) → w +ℤ x -ℤ (y +ℤ z) ≡ w -ℤ y +ℤ (x -ℤ z)
pairwise w x y z = same (sub (add (v w) (v x)) (add (v y) (v z))) (add (sub (v w) (v y)) (sub (v x) (v z))) (omega arith)

by_way : (x y z : ℤ) → x -ℤ y ≡ x -ℤ z +ℤ (z -ℤ y)
by_way x y z = same (sub (v x) (v y)) (add (sub (v x) (v z)) (sub (v z) (v y))) (omega arith)

-- ---- cross(u, w)·x = cross(x, w)·u + cross(u, x)·w, in each part
module _ (a b c d e f : ℤ) where
  part-north : (a *ℤ d -ℤ b *ℤ c) *ℤ e ≡ (e *ℤ d -ℤ f *ℤ c) *ℤ a +ℤ (a *ℤ f -ℤ b *ℤ e) *ℤ c
  part-north =
      less-times (a *ℤ d) (b *ℤ c) e
      ∙ (λ i. outer a d e i -ℤ last b c e i)
      ∙ by_way (e *ℤ d *ℤ a) (b *ℤ e *ℤ c) (f *ℤ c *ℤ a)
      ∙ (λ i. e *ℤ d *ℤ a -ℤ f *ℤ c *ℤ a +ℤ ((outer f c a ∙ last a c f) i -ℤ b *ℤ e *ℤ c))
      ∙ sym (λ i. less-times (e *ℤ d) (f *ℤ c) a i +ℤ less-times (a *ℤ f) (b *ℤ e) c i)

  part-east : (a *ℤ d -ℤ b *ℤ c) *ℤ f ≡ (e *ℤ d -ℤ f *ℤ c) *ℤ b +ℤ (a *ℤ f -ℤ b *ℤ e) *ℤ d
  part-east =
      less-times (a *ℤ d) (b *ℤ c) f
      ∙ (λ i. last a d f i -ℤ outer b c f i)
      ∙ by_way (a *ℤ f *ℤ d) (f *ℤ c *ℤ b) (b *ℤ e *ℤ d)
      ∙ +ℤ_comm (a *ℤ f *ℤ d -ℤ b *ℤ e *ℤ d) (b *ℤ e *ℤ d -ℤ f *ℤ c *ℤ b)
      ∙ (λ i. (last b e d ∙ outer b d e) i -ℤ f *ℤ c *ℤ b +ℤ (a *ℤ f *ℤ d -ℤ b *ℤ e *ℤ d))
      ∙ sym (λ i. less-times (e *ℤ d) (f *ℤ c) b i +ℤ less-times (a *ℤ f) (b *ℤ e) d i)

-- and so of the cross product with any (p, q)
module _ (p q l m n : ℤ) where
  inside : (e f : ℤ) → l *ℤ (p *ℤ f -ℤ q *ℤ e) ≡ p *ℤ (l *ℤ f) -ℤ q *ℤ (l *ℤ e)
  inside e f = times-less l (p *ℤ f) (q *ℤ e) ∙ (λ i. first l p f i -ℤ first l q e i)

  sorted : (a b c d : ℤ) → p *ℤ (m *ℤ b +ℤ n *ℤ d) -ℤ q *ℤ (m *ℤ a +ℤ n *ℤ c) ≡ m *ℤ (p *ℤ b -ℤ q *ℤ a) +ℤ n *ℤ (p *ℤ d -ℤ q *ℤ c)
  sorted a b c d =
      (λ i. times-plus p (m *ℤ b) (n *ℤ d) i -ℤ times-plus q (m *ℤ a) (n *ℤ c) i)
      ∙ (λ i. first p m b i +ℤ first p n d i -ℤ (first q m a i +ℤ first q n c i))
      ∙ pairwise (m *ℤ (p *ℤ b)) (n *ℤ (p *ℤ d)) (m *ℤ (q *ℤ a)) (n *ℤ (q *ℤ c))
      ∙ sym (λ i. times-less m (p *ℤ b) (q *ℤ a) i +ℤ times-less n (p *ℤ d) (q *ℤ c) i)

  crossed : (a b c d e f : ℤ) → l *ℤ e ≡ m *ℤ a +ℤ n *ℤ c → l *ℤ f ≡ m *ℤ b +ℤ n *ℤ d
      → l *ℤ (p *ℤ f -ℤ q *ℤ e) ≡ m *ℤ (p *ℤ b -ℤ q *ℤ a) +ℤ n *ℤ (p *ℤ d -ℤ q *ℤ c)
  crossed a b c d e f north east = inside e f ∙ (λ i. p *ℤ east i -ℤ q *ℤ north i) ∙ sorted a b c d

-- ---- x lies between u and w: at u or past it, and not yet at w
abbrev pub Spanned : Vector → Vector → Vector → Type 0
Spanned u w x = Factors (cross u w) (cross x w) (cross u x)

module _ (u w x g : Vector) (s : Spanned u w x) where
  shares : cross u w *ℤ cross g x ≡ cross x w *ℤ cross g u +ℤ cross u x *ℤ cross g w
  unfolding cross
  shares =
      let a = u.north in
      let b = u.east in
      let c = w.north in
      let d = w.east in
      let e = x.north in
      let f = x.east in
      crossed g.north g.east (a *ℤ d -ℤ b *ℤ c) (e *ℤ d -ℤ f *ℤ c) (a *ℤ f -ℤ b *ℤ e) a b c d e f (part-north a b c d e f) (part-east a b c d e f)

  pub span_right : pos 0 ≤ℤ cross g u → pos 0 ≤ℤ cross g w → pos 0 ≤ℤ cross g x
  span_right = not_negative (cross u w) (cross x w) (cross u x) (cross g u) (cross g w) (cross g x) s shares

  pub span_left : cross g u <ℤ pos 0 → cross g w ≤ℤ pos 0 → cross g x <ℤ pos 0
  span_left = negative (cross u w) (cross x w) (cross u x) (cross g u) (cross g w) (cross g x) s shares
