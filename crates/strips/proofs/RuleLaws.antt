-- The first rule that a strip breaks, by what is true of its courses, and what the number says of the rules. Assumes nothing.
use mathlib.Core.Path.{◌≡◌, ap, ◌∙◌}
use mathlib.Core.Bool.{true, false}
use Prim.Native.Nat.{ℕ, ◌+◌, ◌-◌, ◌≤◌, ◌<◌}
use native.Mathlib.Omega.{arith}
use lib.Dec.{eqb, leb}
use borrow.Author.Tests.{eqb-true, eqb-false, eq-eqb, ne_eqb, leb-true, leb-false, le-leb, lt-leb}
use Rattle.conditions.specs.Choose.{choose}
use Rattle.conditions.proofs.Bools.{by_bool}
use Rattle.course.specs.Bearing.{bearing_of}
use Rattle.plane.specs.declared.Point.{Point}
use Rattle.plan.specs.declared.Plan.{Plan}
use Rattle.plan.specs.Places.{plan_course}
use Rattle.strips.specs.Strips.{first_place, last_place, strip_leg, Opposed}
use Rattle.strips.specs.Check.{opposed_of, rule_broken}

-- the second point of a strip stands behind the first
pub behind : {j i : ℕ} → 1 ≤ j → i ≡ first_place j → i + 1 ≡ last_place j
behind l e = omega (arith, l, e)

pub opposed-means : (χ ψ : ℕ) → opposed_of χ ψ ≡ true → Opposed χ ψ
unfolding opposed_of
opposed-means χ ψ h = eqb-true _ _ h

pub not-opposed : (χ ψ : ℕ) → opposed_of χ ψ ≡ false → Opposed χ ψ → ⊥
unfolding opposed_of
not-opposed χ ψ h = eqb-false _ _ h

module _ (at : ℕ → Point) (course : ℕ → ℕ) (j : ℕ) where
  abbrev leave : ℕ
  leave = course (first_place j)

  abbrev arrive : ℕ
  arrive = course (last_place j)

  abbrev along : ℕ
  along = bearing_of (strip_leg at j)

  abbrev before : ℕ
  before = course (first_place (j - 1))

  -- ---- the number
  pub number-one : (leave ≡ arrive → ⊥) → rule_broken at course j ≡ 1
  unfolding rule_broken choose
  number-one n = rw (ne_eqb leave arrive n)

  pub number-two : leave ≡ arrive → (leave ≡ along → ⊥) → rule_broken at course j ≡ 2
  unfolding rule_broken choose
  number-two e n = rw (eq-eqb leave arrive e, ne_eqb leave along n)

  pub number-three : leave ≡ arrive → leave ≡ along → 2 ≤ j → opposed_of leave before ≡ false → rule_broken at course j ≡ 3
  unfolding rule_broken choose
  number-three e b l o = rw (eq-eqb leave arrive e, eq-eqb leave along b, le-leb 2 j l, o)

  pub number-first : leave ≡ arrive → leave ≡ along → j < 2 → rule_broken at course j ≡ 0
  unfolding rule_broken choose
  number-first e b l = rw (eq-eqb leave arrive e, eq-eqb leave along b, lt-leb 2 j l)

  pub number-later : leave ≡ arrive → leave ≡ along → 2 ≤ j → opposed_of leave before ≡ true → rule_broken at course j ≡ 0
  unfolding rule_broken choose
  number-later e b l o = rw (eq-eqb leave arrive e, eq-eqb leave along b, le-leb 2 j l, o)

  -- ---- what it says: each number with its reason
  pub data Judged : Type 0 where
    breaks1 : rule_broken at course j ≡ 1 → (leave ≡ arrive → ⊥) → Judged
    breaks2 : rule_broken at course j ≡ 2 → leave ≡ arrive → (leave ≡ along → ⊥) → Judged
    breaks3 : rule_broken at course j ≡ 3 → leave ≡ arrive → leave ≡ along → 2 ≤ j → (Opposed leave before → ⊥) → Judged
    breaks0 : rule_broken at course j ≡ 0 → leave ≡ arrive → leave ≡ along → (2 ≤ j → Opposed leave before) → Judged

  later : leave ≡ arrive → leave ≡ along → 2 ≤ j → Judged
  later e b l =
      by_bool (opposed_of leave before)
      (λ o. breaks0 (number-later e b l o) e b (λ _. opposed-means leave before o))
      (λ o. breaks3 (number-three e b l o) e b l (not-opposed leave before o))

  third : leave ≡ arrive → leave ≡ along → Judged
  third e b =
      by_bool (leb 2 j)
      (λ l. later e b (leb-true 2 j l))
      (λ l. breaks0 (number-first e b (leb-false 2 j l)) e b (λ m. absurd (omega (arith, m, leb-false 2 j l))))

  second : leave ≡ arrive → Judged
  second e =
      by_bool (eqb leave along)
      (λ b. third e (eqb-true leave along b))
      (λ b. breaks2 (number-two e (eqb-false leave along b)) e (eqb-false leave along b))

  pub judged : Judged
  judged =
      by_bool (eqb leave arrive)
      (λ e. second (eqb-true leave arrive e))
      (λ e. breaks1 (number-one (eqb-false leave arrive e)) (eqb-false leave arrive e))

-- ---- what was read at a place that has another name
pub course-there : (p : Plan) {i k χ : ℕ} → χ ≡ plan_course p i → i ≡ k → χ ≡ plan_course p k
course-there p e s = e ∙ ap (plan_course p) s
