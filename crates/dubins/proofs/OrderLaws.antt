-- The least length is the same in whatever order the cases are tried; only which of equal ones is kept depends on it. Assumes nothing.
use Rattle.std.proofs.Common.{Option, Some, None}
use mathlib.Core.Path.{◌≡◌, refl, ◌∙◌}
use Prim.Native.Nat.{ℕ, ◌<◌, min}
use native.Mathlib.Omega.{arith}
use native.Mathlib.Decide.{dec_lt}
use Rattle.dubins.specs.declared.Case.TheVariants.{Rsr, Rsl, Lsr, Lsl}
use Rattle.dubins.specs.declared.Ends.{Ends}
use Rattle.dubins.specs.declared.Path.{Path}
use Rattle.dubins.specs.Choice.{case_path, shorter_of}
use Rattle.dubins.specs.Ways.{Measures}
use Rattle.dubins.proofs.ShortestLaws.{earlier-wins, later-wins}

-- both missing, or as long
abbrev Same : Option Path → Option Path → Type 0
Same None None = Unit {0}
Same (Some p) (Some q) = p.length ≡ q.length
Same None (Some q) = ⊥
Same (Some p) None = ⊥

same_refl : (f : Option Path) → Same f f
same_refl None = tt
same_refl (Some p) = refl

same-trans : (f g h : Option Path) → Same f g → Same g h → Same f h
same-trans None None None a b = tt
same-trans (Some p) (Some q) (Some r) a b = a ∙ b
same-trans None (Some q) h a b = absurd a
same-trans (Some p) None h a b = absurd a
same-trans None None (Some r) a b = absurd b
same-trans (Some p) (Some q) None a b = absurd b

same-measures : (f g : Option Path) (n : ℕ) → Same f g → Measures f n → Measures g n
same-measures None None n a m = m
same-measures (Some p) (Some q) n a m = (m.0 ∙ a, m.1)
same-measures None (Some q) n a m = absurd a
same-measures (Some p) None n a m = absurd a

-- of two paths one is kept, as long as the lesser
record Kept (p q : Path) : Type 0 where
  path : Path
  here : shorter_of (Some p) (Some q) ≡ Some path
  long : path.length ≡ min p.length q.length

kept : (p q : Path) → Kept p q
kept p q = by-dec (dec_lt q.length p.length)
  where
    by-dec : Dec (q.length < p.length) → Kept p q
    by-dec (yes h) = record { path = q; here = later-wins p q h; long = omega arith }
    by-dec (no h) = record { path = p; here = earlier-wins p q (omega arith); long = omega arith }

-- what comes after two as long ones comes to as much
same_after : (f g a : Option Path) → Same f g → Same (shorter_of f a) (shorter_of g a)
unfolding shorter_of
same_after f g None e = e
same_after None None (Some r) e = refl
same_after (Some p) (Some q) (Some r) e =
    let k = kept p r in
    let l = kept q r in
    simp (k.here, l.here) (omega (arith, e, k.long, l.long))
same_after None (Some q) (Some r) e = absurd e
same_after (Some p) None (Some r) e = absurd e

-- two cases in either order
either_first : (f a b : Option Path) → Same (shorter_of (shorter_of f a) b) (shorter_of (shorter_of f b) a)
unfolding shorter_of
either_first f a None = same_refl (shorter_of f a)
either_first f None (Some q) = same_refl (shorter_of f (Some q))
either_first None (Some p) (Some q) =
    let k = kept p q in
    let l = kept q p in
    simp (k.here, l.here) (omega (arith, k.long, l.long))
either_first (Some o) (Some p) (Some q) =
    let k = kept o p in
    let l = kept o q in
    let m = kept k.path q in
    let n = kept l.path p in
    simp (k.here, l.here, m.here, n.here) (of_three o.length p.length q.length k.long l.long m.long n.long)
  where
    of_three : (o p q : ℕ) {k l m n : ℕ} → k ≡ min o p → l ≡ min o q → m ≡ min k q → n ≡ min l p → m ≡ n
    of_three o p q ek el em en = omega arith

-- LSL before RSR
pub left-first : (ends : Ends) (n : ℕ) → Measures (shorter_of (shorter_of None (case_path ends Lsl)) (case_path ends Rsr)) n
    → Measures (shorter_of (shorter_of None (case_path ends Rsr)) (case_path ends Lsl)) n
left-first ends n =
    let one = case_path ends Rsr in
    let four = case_path ends Lsl in
    same-measures (shorter_of (shorter_of None four) one) (shorter_of (shorter_of None one) four) n (either_first None four one)

-- LSL before RSL and LSR
pub outer-first : (ends : Ends) (n : ℕ) → Measures (shorter_of (shorter_of (shorter_of (shorter_of None (case_path ends Rsr)) (case_path ends Lsl)) (case_path ends Rsl)) (case_path ends Lsr)) n
    → Measures (shorter_of (shorter_of (shorter_of (shorter_of None (case_path ends Rsr)) (case_path ends Rsl)) (case_path ends Lsr)) (case_path ends Lsl)) n
outer-first ends n =
    let one = shorter_of None (case_path ends Rsr) in
    let two = case_path ends Rsl in
    let three = case_path ends Lsr in
    let four = case_path ends Lsl in
    let tried = shorter_of (shorter_of (shorter_of one four) two) three in
    let last = shorter_of (shorter_of (shorter_of one two) three) four in
    same-measures tried last n
    (same-trans tried (shorter_of (shorter_of (shorter_of one two) four) three) last
    (same_after (shorter_of (shorter_of one four) two) (shorter_of (shorter_of one two) four) three (either_first one four two)) (either_first (shorter_of one two) four three))
