-- `opposite` decides whether two legs are exactly opposite. Assumes nothing.
use mathlib.Core.Path.{◌≡◌, refl, sym, ap, ◌∙◌}
use mathlib.Core.Bool.{Bool, true, false, ◌&&◌}
use Prim.Native.Nat.{ℕ}
use lib.Dec.{eqb}
use lib.IntN.{ℤ, pos}
use lib.Signed.{lt_z}
use mir.Syntax.{w64}
use Rattle.integers.proofs.BoundLaws.{kept}
use Rattle.plane.specs.Half.{cross_size, dot3_of, opposite_of}
use Rattle.plane.proofs.opposite.Goals as goal

-- the second test decides
last-true : (a b : Bool) → b ≡ true → (a && b) ≡ a
last-true true b h = h
last-true false b h = refl

last-false : (a b : Bool) → b ≡ false → (a && b) ≡ false
last-false true b h = h
last-false false b h = refl

pub returns-then-dot3-lt0 : goal.returns-then-dot3-lt0
unfolding opposite_of
returns-then-dot3-lt0 c =
    let s = c.args in
    let p : lt_z (dot3_of s.a s.b) (pos 0) ≡ true = let d = c.dot3.ensures in sym (ap (λ (z : ℤ). lt_z z (pos 0)) (kept w64 d.1 tt ∙ d.0)) ∙ c.if-dot3-lt0.true in
    ap (λ (n : ℕ). eqb n 0) c.cross_size.ensures ∙ sym (last-true (eqb (cross_size s.a s.b) 0) (lt_z (dot3_of s.a s.b) (pos 0)) p)

pub returns-else-dot3-lt0 : goal.returns-else-dot3-lt0
unfolding opposite_of
returns-else-dot3-lt0 c =
    let s = c.args in
    let p : lt_z (dot3_of s.a s.b) (pos 0) ≡ false = let d = c.dot3.ensures in sym (ap (λ (z : ℤ). lt_z z (pos 0)) (kept w64 d.1 tt ∙ d.0)) ∙ c.if-dot3-lt0.false in
    c.if-dot3-lt0.false ∙ sym (last-false (eqb (cross_size s.a s.b) 0) (lt_z (dot3_of s.a s.b) (pos 0)) p)
