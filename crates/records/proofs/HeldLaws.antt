-- Parts as the code holds them, and after one record more: a tally, and the numbers in which an element is stored or only counted. Assumes
-- nothing.
use mathlib.Core.Path.{◌≡◌, refl, ap, ◌∙◌}
use mathlib.Core.Bool.{true, false}
use mathlib.Core.List.{List, [], ◌∷◌, ◌++◌}
use Prim.Native.Nat.{ℕ, zero, suc, ◌+◌, ◌*◌, ◌≤◌, ◌<◌}
use native.Mathlib.Omega.{arith}
use lib.IntN.{ℤ, pos}
use lib.ListN.{length, get_or, set, length-append}
use Rattle.plane.specs.declared.Point.{Point}
use Rattle.plan.specs.Limits.{most_points}
use Rattle.plan.specs.declared.Plan.{Plan}
use Rattle.plan.specs.Places.{padded, plan_numbers}
use Rattle.plan.specs.Loaded.{plan_of}
use Rattle.plan.proofs.BlockLaws.{padded-length, joined, Blocks, numbers-joined, set-joined, loaded-length}
use Rattle.records.specs.declared.Tally.{Tally}
use Rattle.records.specs.Kinds.{Parts, with_point, with_radius, with_course}
use Rattle.records.specs.Held.{counted, tally_of, numbers_in}

-- ---- one more in an array
padded-more : {A B : Type 0} (f : A → B) (n : ℕ) (d : B) (xs : List A) (x : A) → length xs < n
    → set (padded f n d xs) (length xs) (f x) ≡ padded f n d (xs ++ (x ∷ []))
unfolding padded
padded-more f zero d xs x h = absurd (omega arith)
padded-more f (suc n) d [] x h = refl
padded-more {B = B} f (suc n) d (y ∷ xs) x h = ap (λ (l : List B). f y ∷ l) (padded-more f n d xs x (omega arith))

padded-full : {A B : Type 0} (f : A → B) (n : ℕ) (d : B) (xs : List A) (x : A) → n ≤ length xs → padded f n d (xs ++ (x ∷ [])) ≡ padded f n d xs
unfolding padded
padded-full f zero d xs x h = refl
padded-full f (suc n) d [] x h = absurd (omega arith)
padded-full {B = B} f (suc n) d (y ∷ xs) x h = ap (λ (l : List B). f y ∷ l) (padded-full f n d xs x (omega arith))

abbrev kept : {A : Type 0} → (A → ℤ) → List A → List ℤ
kept f xs = padded f most_points (pos 0) xs

module _ {A : Type 0} (f : A → ℤ) (xs : List A) (x : A) {i : ℕ} (e : i ≡ counted (length xs)) where
  stored : i < most_points → set (kept f xs) i (f x) ≡ kept f (xs ++ (x ∷ []))
  stored room =
      let k : i ≡ length xs = omega arith in
      rw k (padded-more f most_points (pos 0) xs x (omega arith))

  over : most_points ≤ i → kept f (xs ++ (x ∷ [])) ≡ kept f xs
  over full = padded-full f most_points (pos 0) xs x (omega arith)

-- ---- one more in a count
counted-more : {A : Type 0} (xs : List A) (x : A) → counted (counted (length xs) + 1) ≡ counted (length (xs ++ (x ∷ [])))
counted-more xs x = rw length-append (omega arith)

-- ---- the fields of a tally, and after one record more
module _ {t : Tally} (a : Parts) (shown : t ≡ tally_of a) where
  pub same-radius : t.radius ≡ a.radius
  unfolding tally_of
  same-radius = ap (λ (x : Tally). x.radius) shown

  pub same_count : t.count ≡ counted (length a.points)
  unfolding tally_of
  same_count = ap (λ (x : Tally). x.count) shown

  pub same-given : t.given ≡ counted (length a.courses)
  unfolding tally_of
  same-given = ap (λ (x : Tally). x.given) shown

  pub same-follows : t.follows ≡ a.at_point
  unfolding tally_of
  same-follows = ap (λ (x : Tally). x.follows) shown

  pub point-tallied : (p : Point) {n : ℕ} → n ≡ counted (t.count + 1)
      → ◌≡◌ {A = Tally} (record { radius = t.radius; count = n; given = t.given; follows = true }) (tally_of (with_point a p))
  unfolding tally_of
  point-tallied p e = rw (e, shown, counted-more a.points p)

  pub radius-tallied : {n : ℕ}
      → ◌≡◌ {A = Tally} (record { radius = n; count = t.count; given = t.given; follows = false }) (tally_of (with_radius a n))
  unfolding tally_of
  radius-tallied = rw shown

  pub course-tallied : (c : ℕ) {n : ℕ} → n ≡ counted (t.given + 1)
      → ◌≡◌ {A = Tally} (record { radius = t.radius; count = t.count; given = n; follows = false }) (tally_of (with_course a c))
  unfolding tally_of
  course-tallied c e = rw (e, shown, counted-more a.courses c)

-- ---- the numbers, after one record more
abbrev plan_in : Parts → Plan
plan_in a = plan_of 0 a.radius a.points a.courses

pub numbers-length : (a : Parts) → length (numbers_in a) ≡ plan_numbers
numbers-length a = loaded-length 0 a.radius a.points a.courses

-- the blocks while a point is stored, each kind of its numbers after the other
abbrev held : List Point → List Point → List Point → List ℕ → List (List ℤ)
held ns es ds cs = kept (λ (q : Point). q.north) ns ∷ kept (λ (q : Point). q.east) es ∷ kept (λ (q : Point). q.down) ds ∷ kept pos cs ∷ []

-- a number stored in the k-th
module _ (ns es ds : List Point) (cs : List ℕ) (k i : ℕ) (x : ℤ) where
  put_in : {b : List ℤ} → k < 4 → i < most_points → set (get_or (held ns es ds cs) k []) i x ≡ b
      → set (joined (held ns es ds cs)) (k * most_points + i) x ≡ joined (set (held ns es ds cs) k b)
  put_in h l e =
      let s : Blocks (held ns es ds cs) = (padded-length _ most_points _ ns, (padded-length _ most_points _ es, (padded-length _ most_points _ ds, (padded-length _ most_points _ cs, tt)))) in
      set-joined k i x (held ns es ds cs) s h l ∙ ap (λ (y : List ℤ). joined (set (held ns es ds cs) k y)) e

module _ (a : Parts) {i : ℕ} where
  module _ (p : Point) (e : i ≡ counted (length a.points)) where
    pub point-put : i < most_points
        → set (set (set (numbers_in a) (0 * most_points + i) p.north) (1 * most_points + i) p.east) (2 * most_points + i) p.down ≡ numbers_in (with_point a p)
    point-put l =
        let ps = a.points in
        let qs = a.points ++ (p ∷ []) in
        let cs = a.courses in
        let n = put_in ps ps ps cs 0 i p.north (omega arith) l (stored (λ (q : Point). q.north) ps p e l) in
        let m = put_in qs ps ps cs 1 i p.east (omega arith) l (stored (λ (q : Point). q.east) ps p e l) in
        let d = put_in qs qs ps cs 2 i p.down (omega arith) l (stored (λ (q : Point). q.down) ps p e l) in
        rw (numbers-joined (plan_in a), n, m, d, numbers-joined (plan_in (with_point a p)))

    pub point-over : most_points ≤ i → numbers_in (with_point a p) ≡ numbers_in a
    point-over h =
        rw (over (λ (q : Point). q.north) a.points p e h, over (λ (q : Point). q.east) a.points p e h, over (λ (q : Point). q.down) a.points p e h)

  module _ (c : ℕ) (e : i ≡ counted (length a.courses)) where
    pub course-put : i < most_points → set (numbers_in a) (3 * most_points + i) (pos c) ≡ numbers_in (with_course a c)
    course-put l =
        let ps = a.points in
        rw (numbers-joined (plan_in a), put_in ps ps ps a.courses 3 i (pos c) (omega arith) l (stored pos a.courses c e l), numbers-joined (plan_in (with_course a c)))

    pub course-over : most_points ≤ i → numbers_in (with_course a c) ≡ numbers_in a
    course-over h = rw (over pos a.courses c e h)
