-- The points and courses of a plan, place by place: what is left to write from a place on. Assumes nothing.
use mathlib.Core.Path.{◌≡◌, refl, sym, ap, ◌∙◌}
use Rattle.std.proofs.Common.{Some, None}
use Rattle.std.specs.Bool.{then_some}
use mathlib.Core.List.{List, [], ◌∷◌, ◌++◌, append_assoc}
use Prim.Native.Nat.{ℕ, zero, suc, ◌+◌, ◌-◌, ◌*◌, ◌≤◌, ◌<◌}
use native.Mathlib.Omega.{arith}
use lib.Dec.{ltb}
use lib.ListN.{length, length-append}
use borrow.Author.Tests.{ltb-true, ltb-false}
use Rattle.conditions.proofs.Bools.{by_bool}
use Rattle.plane.specs.declared.Point.{Point}
use Rattle.plan.specs.declared.Plan.{Plan}
use Rattle.plan.specs.Places.{plan_point, plan_course}
use Rattle.plan.specs.Stands.{given_of, There, Aiming}
use Rattle.plan.proofs.StandLaws.{aiming_of}
use Rattle.plan.proofs.LoadedLaws.{given-le}
use Rattle.records.specs.Walk.{flat}
use Rattle.records.proofs.WrittenLaws.{point-length, u16-length}
use Rattle.buffers.specs.Splice.{splice}
use Rattle.writer.specs.File.{listed, point_records, points_of, courses_of, plan_records, Writable}
use Rattle.writer.specs.Pieces.{record_bytes, radius_bytes, place_bytes, places_bytes}
use Rattle.buffers.proofs.SpliceLaws.{further, unchanged}
use Rattle.writer.proofs.PieceLaws.{area-is}

-- ---- f at the first n places, from i on
pub listed-length : {A : Type 0} (f : ℕ → A) (k i : ℕ) → length (listed f k i) ≡ k
unfolding listed
listed-length f zero i = refl
listed-length f (suc k) i = ap suc (listed-length f k (i + 1))

module _ {A : Type 0} (f : ℕ → A) (n i : ℕ) where
  opened : i < n → listed f (n - i) i ≡ f i ∷ listed f (n - (i + 1)) (i + 1)
  unfolding listed
  opened h = let e : n - i ≡ suc (n - (i + 1)) = omega arith in rw e

  ended : n ≤ i → listed f (n - i) i ≡ []
  unfolding listed
  ended h = let e : n - i ≡ 0 = omega arith in rw e

-- ---- records of points and courses
records-length : (ps : List Point) (χs : List ℕ) → length χs ≤ length ps → length (flat (point_records ps χs)) ≡ 14 * length ps + 4 * length χs
unfolding point_records flat
records-length [] [] h = refl
records-length [] (χ ∷ χs) h = absurd (omega arith)
records-length (p ∷ ps) [] h = simp (length-append, point-length) (omega (arith, records-length ps [] (omega arith)))
records-length (p ∷ ps) (χ ∷ χs) h = simp (length-append, point-length, u16-length) (omega (arith, records-length ps χs (omega arith)))

module _ (p : Point) (ps : List Point) where
  one-aimed : (χ : ℕ) (χs : List ℕ) → flat (point_records (p ∷ ps) (χ ∷ χs)) ≡ place_bytes p (Some χ) ++ flat (point_records ps χs)
  unfolding point_records flat place_bytes record_bytes
  one-aimed χ χs = simp append_assoc

  one-bare : flat (point_records (p ∷ ps) []) ≡ place_bytes p None ++ flat (point_records ps [])
  unfolding point_records flat place_bytes record_bytes
  one-bare = refl

-- the point at place i, where the first n places have a course
one_place : (i n : ℕ) (p : Point) (ps : List Point) (f : ℕ → ℕ)
    → flat (point_records (p ∷ ps) (listed f (n - i) i)) ≡ place_bytes p (then_some (ltb i n) (f i)) ++ flat (point_records ps (listed f (n - (i + 1)) (i + 1)))
one_place i n p ps f =
    by_bool (ltb i n) (λ t. rw (t, opened f n i (ltb-true i n t)) (one-aimed p ps (f i) (listed f (n - (i + 1)) (i + 1))))
    (λ t.
    let l = ltb-false i n t in
    rw (t, ended f n i l, ended f n (i + 1) (omega arith)) (one-bare p ps))

-- place i of a plan whose first places have a course
abbrev place_of : Plan → ℕ → ℕ → List ℕ
place_of p given i = place_bytes (plan_point p i) (then_some (ltb i given) (plan_course p i))

-- what is left from place i on
unfoldable pub rest_of : Plan → ℕ → List ℕ
rest_of p i = flat (point_records (listed (plan_point p) (p.head.count - i) i) (listed (plan_course p) (given_of p.head.mode p.head.count - i) i))

rest_all : (p : Plan) → rest_of p 0 ≡ places_bytes p
unfolding rest_of places_bytes
rest_all p =
    let a : p.head.count - 0 ≡ p.head.count = omega arith in
    let b : given_of p.head.mode p.head.count - 0 ≡ given_of p.head.mode p.head.count = omega arith in
    rw (a, b)

-- before place i: what is left, written from offset `at` on, gives what the whole gives
pub record Underway (p : Plan) (from : ℕ) (old : List ℕ) (at i : ℕ) (now : List ℕ) : Type 0 where
  pub kept : length now ≡ length old
  pub room : at + length (rest_of p i) ≤ length now
  pub same : splice at (rest_of p i) now ≡ splice from (places_bytes p) old

pub starts : (p : Plan) (from : ℕ) (old : List ℕ) → from + length (places_bytes p) ≤ length old → Underway p from old from 0 old
starts p from old h = record { kept = refl; room = rw (rest_all p) h; same = rw (rest_all p) }

-- ---- a plan
module _ (p : Plan) where
  pub places-length : length (places_bytes p) ≡ 14 * p.head.count + 4 * given_of p.head.mode p.head.count
  unfolding places_bytes
  places-length =
      let g = given-le p.head.mode p.head.count in
      let a : length (points_of p) ≡ p.head.count = listed-length (plan_point p) p.head.count 0 in
      let b : length (courses_of p) ≡ given_of p.head.mode p.head.count = listed-length (plan_course p) (given_of p.head.mode p.head.count) 0 in
      records-length (points_of p) (courses_of p) (omega arith) ∙ rw (a, b)

  pub area-length-is : length (flat (plan_records p)) ≡ length (radius_bytes p.head.radius) + 14 * p.head.count + 4 * given_of p.head.mode p.head.count
  area-length-is = rw (area-is p) (simp length-append (omega (arith, places-length)))

  rest-next : (i : ℕ) → i < p.head.count
      → rest_of p i ≡ place_of p (given_of p.head.mode p.head.count) i ++ rest_of p (i + 1)
  unfolding rest_of
  rest-next i h =
      rw (opened (plan_point p) p.head.count i h)
      (one_place i (given_of p.head.mode p.head.count) (plan_point p i) (listed (plan_point p) (p.head.count - (i + 1)) (i + 1)) (plan_course p))

  rest_end : (i : ℕ) → p.head.count ≤ i → rest_of p i ≡ []
  unfolding rest_of point_records flat
  rest_end i h = rw (ended (plan_point p) p.head.count i h)

  module _ (from : ℕ) (old : List ℕ) (at i : ℕ) (now : List ℕ) (u : Underway p from old at i now) where
    pub ends : p.head.count ≤ i → now ≡ splice from (places_bytes p) old
    ends h = sym (unchanged at now) ∙ ap (λ (l : List ℕ). splice at l now) (sym (rest_end i h)) ∙ u.same

    module _ (within : i < p.head.count) (given : ℕ) (is : given ≡ given_of p.head.mode p.head.count) where
      next : rest_of p i ≡ place_of p given i ++ rest_of p (i + 1)
      next = rw is (rest-next i within)

      pub fits : at + length (place_of p given i) ≤ length now
      fits = omega (arith, u.room, simp length-append at (ap length next))

      pub goes_on : (to : ℕ) (after : List ℕ) → length after ≡ length now
          → (after ≡ splice at (place_of p given i) now) × (to ≡ at + length (place_of p given i))
          → Underway p from old to (i + 1) after
      goes_on to after k e =
          record {
            kept = k ∙ u.kept;
            room = omega (arith, u.room, k, e.1, simp length-append at (ap length next));
            same =
                rw (e.0, e.1)
                (further at (length (place_of p given i)) (place_of p given i) (rest_of p (i + 1)) now refl (omega (arith, u.room))
                ∙ ap (λ (l : List ℕ). splice at l now) (sym next)
                ∙ u.same);
          }

-- ---- what is read at a place
pub reads_at : (p : Plan) → Writable p → (i : ℕ) → i < p.head.count → There p.norths p.easts p.downs i × Aiming p.courses i
reads_at p w i h =
    let m = w.most in
    let l = w.long in
    (record { north = omega (arith, l.north); east = omega (arith, l.east); down = omega (arith, l.down) }, aiming_of p l w.aimed i (omega arith))
