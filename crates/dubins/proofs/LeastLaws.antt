-- What a case is long at least, whatever its course: its two turns come to the turn between the leg's courses, and squares tell whether its straight
-- part reaches a number. Assumes nothing.
use Rattle.std.proofs.Common.{Option}
use mathlib.Core.Path.{◌≡◌, refl, sym, ap, ◌∙◌}
use mathlib.Core.Bool.{Bool, true, false, not}
use Prim.Native.Nat.{ℕ, ◌+◌, ◌-◌, ◌*◌, ◌%◌, ◌≤◌, ◌<◌}
use native.Mathlib.Nat.{mul-le-mul, le_refl}
use native.Mathlib.Omega.{arith}
use lib.Dec.{leb}
use borrow.Author.Tests.{leb-true, leb-false, le-leb, lt-leb}
use Rattle.conditions.specs.Choose.{choose}
use Rattle.integers.specs.Root.{root_of}
use Rattle.integers.proofs.RootLaws.{root-least}
use Rattle.integers.proofs.WrapLaws.{wrap-sub}
use Rattle.course.specs.declared.Vector.{Vector}
use Rattle.course.specs.Bearing.{bearing_of}
use Rattle.course.proofs.BearingLaws.{bearing-low}
use Rattle.plane.specs.Level.{arc_of, square_of}
use Rattle.dubins.specs.declared.Case.{Case}
use Rattle.dubins.specs.declared.Path.{Path}
use Rattle.dubins.specs.declared.Ends.{Ends}
use Rattle.dubins.specs.declared.Circles.{Circles}
use Rattle.dubins.specs.Cases.{starts_right, ends_right, same_side, circles_of, case_exists, straight_of, straight_course, arc_turn, case_length, path_of}
use Rattle.dubins.specs.Choice.{case_path, shorter_of}
use Rattle.dubins.specs.Ways.{no_length, Measures}
use Rattle.dubins.proofs.ShortestLaws.{case-there, earlier-stays}

-- ---- turns, as remainders
turn-right : (a b : ℕ) → a < 4096 → arc_turn a b true ≡ (b + 4096 - a) % 4096
unfolding arc_turn choose
turn-right a b h = wrap-sub b a (omega arith)

turn-left : (a b : ℕ) → b < 4096 → arc_turn a b false ≡ (a + 4096 - b) % 4096
unfolding arc_turn choose
turn-left a b h = wrap-sub a b (omega arith)

-- a remainder is at most the sum of the parts', and of two opposite differences one is at most the greater part's
remainder-of-sum : (x y z : ℕ) → x + y ≡ z + 4096 → z % 4096 ≤ x % 4096 + y % 4096
remainder-of-sum x y z e = omega arith

remainder-of-difference : (x y z w m : ℕ) → z + y ≡ x + 4096 → w + x ≡ y + 4096 → m ≤ z % 4096 → m ≤ w % 4096 → m ≤ x % 4096 + y % 4096
remainder-of-difference x y z w m e f g h = omega arith

module _ (l θ a : ℕ) (hl : l < 4096) (hθ : θ < 4096) (ha : a < 4096) where
  -- both turns to one side
  pub like-sides : (side : Bool) → arc_turn l a side ≤ arc_turn l θ side + arc_turn θ a side
  like-sides true = simp (turn-right l a hl, turn-right l θ hl, turn-right θ a hθ) (remainder-of-sum _ _ _ (omega arith))
  like-sides false = simp (turn-left l a ha, turn-left l θ hθ, turn-left θ a ha) (remainder-of-sum _ _ _ (omega arith))

  -- and to either
  pub any-sides : (m : ℕ) → m ≤ arc_turn l a true → m ≤ arc_turn l a false → (start end : Bool) → m ≤ arc_turn l θ start + arc_turn θ a end
  any-sides m r f true true = omega (arith, r, like-sides true)
  any-sides m r f false false = omega (arith, f, like-sides false)
  any-sides m r f true false =
      simp (turn-right l θ hl, turn-left θ a ha)
      (remainder-of-difference _ _ (a + 4096 - l) (l + 4096 - a) m (omega arith) (omega arith) (rw (turn-right l a hl) at r) (rw (turn-left l a ha) at f))
  any-sides m r f false true =
      simp (turn-left l θ hθ, turn-right θ a hθ)
      (remainder-of-difference _ _ (l + 4096 - a) (a + 4096 - l) m (omega arith) (omega arith) (rw (turn-left l a ha) at f) (rw (turn-right l a hl) at r))

-- where both circles lie on the same side
pub like-ends : (case : Case) → same_side case ≡ true → ends_right case ≡ starts_right case
unfolding same_side choose
like-ends case = by-sides (starts_right case) (ends_right case)
  where
    by-sides : (s e : Bool) → choose s e (not e) ≡ true → e ≡ s
    by-sides true true h = refl
    by-sides false false h = refl
    by-sides true false h = h
    by-sides false true h = sym h

-- ---- lengths
arc-grows : (R t u : ℕ) → t ≤ u → arc_of R t ≤ arc_of R u
unfolding arc_of
arc-grows R t u h = omega (arith, mul-le-mul (le_refl R) h)

-- the straight part, and the arcs of the least turns
pub case-reaches : (ends : Ends) (case : Case) (s θ m length : ℕ) → m ≤ arc_turn ends.leave θ (starts_right case) + arc_turn θ ends.arrive (ends_right case)
    → length ≤ s + arc_of ends.radius m → length ≤ case_length ends case s θ
unfolding case_length
case-reaches ends case s θ m length h k = omega (arith, k, arc-grows ends.radius m _ h)

-- the straight part, and the arcs themselves
pub case-parts : (ends : Ends) (case : Case) (s θ : ℕ) → case_length ends case s θ ≡ s + case_length ends case 0 θ
unfolding case_length
case-parts ends case s θ = omega arith

-- ---- as long as a number
-- two tests that are passed alike
alike : (a b c d : ℕ) → (a ≤ b → c ≤ d) → (b < a → d < c) → leb a b ≡ leb c d
alike a b c d f g = by-test (leb a b) refl
  where
    by-test : (t : Bool) → leb a b ≡ t → t ≡ leb c d
    by-test true e = sym (le-leb c d (f (leb-true a b e)))
    by-test false e = sym (lt-leb c d (g (leb-false a b e)))

-- asked of squares: of the straight part, what is left of the number beyond the arcs
module _ (case : Case) (R : ℕ) (v : Vector) (length arcs : ℕ) (h : arcs < length) where
  by-root : (n : ℕ) → leb length (root_of n + arcs) ≡ leb ((length - arcs) * (length - arcs)) n
  by-root n = alike length (root_of n + arcs) (length - arcs) (root_of n) (λ k. omega arith) (λ k. omega arith) ∙ root-least n (length - arcs)

  pub outer-asked : same_side case ≡ true → leb length (straight_of case R v + arcs) ≡ leb ((length - arcs) * (length - arcs)) (square_of v)
  unfolding straight_of choose
  outer-asked e = simp e (by-root (square_of v))

  pub inner-asked : same_side case ≡ false → leb length (straight_of case R v + arcs) ≡ leb ((length - arcs) * (length - arcs) + 4 * R * R) (square_of v)
  unfolding straight_of choose
  inner-asked e = simp e (by-root (square_of v - 4 * R * R) ∙ moved)
    where
      -- a square above 0 is no square of a negative number
      more : 1 ≤ (length - arcs) * (length - arcs)
      more = let k : 1 ≤ length - arcs = omega arith in mul-le-mul k k

      moved : leb ((length - arcs) * (length - arcs)) (square_of v - 4 * R * R) ≡ leb ((length - arcs) * (length - arcs) + 4 * R * R) (square_of v)
      moved =
          alike ((length - arcs) * (length - arcs)) (square_of v - 4 * R * R) ((length - arcs) * (length - arcs) + 4 * R * R) (square_of v) (λ k. omega (arith, more))
          (λ k. omega (arith, more))

-- a case that is as long is not taken
pub not-shorter : (ends : Ends) (case : Case) (best : ℕ) (circles : Circles) → case_exists ends case ≡ true → circles ≡ circles_of ends case → best < no_length
    → (let s = straight_of case ends.radius circles.v in best ≤ case_length ends case s (straight_course case ends.radius s circles.v))
    → (f : Option Path) → Measures f best → shorter_of f (case_path ends case) ≡ f
unfolding path_of
not-shorter ends case best circles there e low long f k =
    ap (shorter_of f) (case-there ends case circles _ _ there e refl refl) ∙ earlier-stays f best k _ best low (le_refl best) long

pub course-low : (case : Case) (R s : ℕ) (v : Vector) → straight_course case R s v < 4096
unfolding straight_course
course-low case R s v = bearing-low _

-- the course of a case on one side is known without its straight part
pub outer-course : (case : Case) (R s : ℕ) (v : Vector) → same_side case ≡ true → bearing_of v ≡ straight_course case R s v
unfolding straight_course choose
outer-course case R s v e = simp e
