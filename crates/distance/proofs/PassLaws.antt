-- The pass from the last leg to the first: what it carries at the start, and over a leg of each mode. Assumes nothing.
use mathlib.Core.Path.{◌≡◌, refl, sym, ap, ◌∙◌, subst}
use mathlib.Core.Bool.{true}
use Prim.Native.Nat.{ℕ, ◌+◌, ◌-◌, ◌≤◌, ◌<◌}
use native.Mathlib.Omega.{arith}
use Rattle.integers.specs.Root.{root_of}
use Rattle.integers.proofs.RootLaws.{root-lt}
use Rattle.plane.specs.declared.Point.{Point}
use Rattle.plane.specs.Level.{vector_length, arc_of}
use Rattle.fillets.specs.Corners.{lesser_turn, turn_between, corner_turn, tangent_of}
use Rattle.dubins.specs.Choice.{shortest_of, found_length}
use Rattle.plan.specs.declared.LevelLeg.{LevelLeg}
use Rattle.plan.specs.declared.Mode.{Mode}
use Rattle.plan.specs.declared.Mode.TheVariants.{Lines, Fillets, Dubins}
use Rattle.plan.specs.declared.Plan.{Plan}
use Rattle.plan.specs.Limits.{most_points, most_radius}
use Rattle.plan.specs.Places.{plan_point, plan_course}
use Rattle.plan.specs.Rules.{ends_at, tangent_at}
use Rattle.plan.specs.Stands.{IsLevelLeg, ByMode}
use Rattle.plan.specs.Long.{Long}
use Rattle.plan.specs.Lent.{PointPlaced, CourseThere}
use Rattle.plan.proofs.FilletLegLaws.{tangent-first, tangent-corner, tangent-last}
use Rattle.plan.proofs.StandLaws.{stands-lengths, placed-of, aiming_of}
use Rattle.manager.specs.declared.State.{State}
use Rattle.manager.specs.State.{valid_of}
use Rattle.manager.proofs.StateLaws.{valid-stands, valid-means}
use Rattle.distance.specs.declared.Rounding.{Rounding}
use Rattle.distance.specs.declared.Carry.{Carry}
use Rattle.distance.specs.Lengths.{total, level_length, leg_length, corner_arc, plan_length}
use Rattle.distance.specs.Pass.{Sound, CornerThere, Rounded, AddedUp}
use Rattle.distance.proofs.SumLaws.{total-next, lines-arcs, dubins-arcs, length-end, length-next}

-- ---- a plan that 14 has passed
pub sound-of : (s : State) → valid_of s ≡ true → Sound s.plan
unfolding level_length
sound-of s h = record { stands = (valid-means s h).stands; lengths = stands-lengths s.plan (valid-stands s h) }

-- what is read of it, where all numbers are there
module _ (p : Plan) (s : Sound p) (long : Long p.norths p.easts p.downs p.courses) (i : ℕ) (l : 1 ≤ i) (h : i < p.head.count) where
  below : i < most_points
  below = omega (arith, h, s.stands.most)

  pub leg-placed : PointPlaced p (i - 1) × PointPlaced p i
  leg-placed = let placed = placed-of p long s.stands.ranged in (placed (i - 1) (omega (arith, below)), placed i below)

  pub leg-aimed : p.head.mode ≡ Dubins → (CourseThere p (i - 1) × CourseThere p i) × (p.head.radius ≤ most_radius)
  leg-aimed m =
      let d : ByMode Dubins p = subst (λ (x : Mode). ByMode x p) m s.stands.mode in
      let aiming = aiming_of p long d.1.0 in
      ((aiming (i - 1) (omega (arith, below)), aiming i below), d.0)

  module _ (m : p.head.mode ≡ Fillets) where
    rounds : ByMode Fillets p
    rounds = subst (λ (x : Mode). ByMode x p) m s.stands.mode

    pub rounding-radius : p.head.radius ≤ most_radius
    rounding-radius = rounds.0

    pub corner-there : 2 ≤ i → CornerThere p i
    corner-there k =
        let placed = placed-of p long s.stands.ranged in
        let a : i - 1 - 1 ≡ i - 2 = omega arith in
        let b : i - 1 + 1 ≡ i = omega arith in
        record {
          before = placed (i - 2) (omega (arith, below));
          corner = placed (i - 2 + 1) (omega (arith, below));
          turn = rw (a, b) at (rounds.1 (i - 1) (omega arith) (omega arith));
        }

-- the last leg
pub last-placed : (p : Plan) → Sound p → Long p.norths p.easts p.downs p.courses
    → (2 ≤ p.head.count) × (PointPlaced p (p.head.count - 2) × PointPlaced p (p.head.count - 2 + 1))
last-placed p s long =
    let placed = placed-of p long s.stands.ranged in
    let l = s.stands.least in
    let m = s.stands.most in
    (omega arith, (placed (p.head.count - 2) (omega arith), placed (p.head.count - 2 + 1) (omega arith)))

-- ---- modes differ
pub lines_none : Lines ≡ Fillets → ⊥
lines_none h = let z : ◌≡◌ {A = ℕ} 0 1 = cc in omega arith

pub dubins-none : Dubins ≡ Fillets → ⊥
dubins-none h = let z : ◌≡◌ {A = ℕ} 0 1 = cc in omega arith

-- ---- corners
-- the turn between two legs that were worked out
pub corner-turn : (at : ℕ → Point) (i : ℕ) (before leg : LevelLeg) (turn : ℕ) → 2 ≤ i → IsLevelLeg (at (i - 2)) (at (i - 2 + 1)) before → IsLevelLeg (at (i - 1)) (at i) leg
    → turn ≡ lesser_turn before.bearing leg.bearing → turn ≡ corner_turn (at (i - 2)) (at (i - 1)) (at i)
unfolding corner_turn turn_between
corner-turn at i before leg turn l b a t =
    let y : i - 2 + 1 ≡ i - 1 = omega arith in
    t ∙ (λ j. lesser_turn ((rw y at b.bearing) j) (a.bearing j))

module _ (R n : ℕ) (at : ℕ → Point) where
  -- the last point
  pub last-rounded : (leg : LevelLeg) → 2 ≤ n → IsLevelLeg (at (n - 2)) (at (n - 2 + 1)) leg → Rounded R n at (n - 1) (record { arc = 0; tangent = 0; leg = leg })
  unfolding total
  last-rounded leg h l =
      let a : n - 2 ≡ n - 1 - 1 = omega arith in
      let b : n - 2 + 1 ≡ n - 1 = omega arith in
      let z : n - 1 - (n - 1) ≡ 0 = omega arith in
      let y : n - 1 - (n - 1 + 1) ≡ 0 = omega arith in
      record {
        tangent = sym (tangent-last R n at (n - 1) (omega arith) (omega arith));
        arc = λ _. rw (z, y);
        most = omega arith;
        leg = λ _. rw (b, a) at l;
      }

  -- the first point
  pub first-rounded : (leg : LevelLeg) (i : ℕ) → i ≡ 0 → Rounded R n at i (record { arc = 0; tangent = 0; leg = leg })
  first-rounded leg i e =
      record {
        tangent = sym (ap (tangent_at R n at) e ∙ tangent-first R n at);
        arc = λ l. absurd (omega arith);
        most = omega arith;
        leg = λ l. absurd (omega arith);
      }

  -- a corner between two legs
  module _ (i : ℕ) (before leg : LevelLeg) (turn : ℕ) (l : 2 ≤ i) (h : i < n) (b : IsLevelLeg (at (i - 2)) (at (i - 2 + 1)) before)
      (a : IsLevelLeg (at (i - 1)) (at i) leg) (t : turn ≡ lesser_turn before.bearing leg.bearing) where
    turns : turn ≡ corner_turn (at (i - 1 - 1)) (at (i - 1)) (at (i - 1 + 1))
    turns =
        let x : i - 2 ≡ i - 1 - 1 = omega arith in
        let z : i ≡ i - 1 + 1 = omega arith in
        corner-turn at i before leg turn l b a t ∙ (λ j. corner_turn (at (x j)) (at (i - 1)) (at (z j)))

    pub corner-rounded : (arc tangent : ℕ) → arc ≡ arc_of R turn → arc ≤ 125633 → tangent ≡ tangent_of R turn
        → Rounded R n at (i - 1) (record { arc = arc; tangent = tangent; leg = before })
    unfolding corner_arc
    corner-rounded arc tangent e m g =
        let x : i - 2 ≡ i - 1 - 1 = omega arith in
        let y : i - 2 + 1 ≡ i - 1 = omega arith in
        let c : arc ≡ corner_arc Fillets R at (i - 1) = e ∙ ap (arc_of R) turns in
        let s = total-next (corner_arc Fillets R at) (n - 1) (i - 1) (omega arith) in
        record {
          tangent = g ∙ ap (tangent_of R) turns ∙ sym (tangent-corner R n at (i - 1) (omega arith) (omega arith));
          arc = λ _. omega (arith, s, c);
          most = m;
          leg = λ _. rw (y, x) at b;
        }

-- ---- the pass
module _ (p : Plan) where
  abbrev n : ℕ
  n = p.head.count

  pub added-start : (r : Rounding) → 1 ≤ n → (p.head.mode ≡ Fillets → Rounded p.head.radius n (plan_point p) (n - 1) r)
      → AddedUp p (n - 1) (record { left = 0; corner = r })
  added-start r h k =
      let e : n - 1 + 1 ≡ n = omega arith in
      record {
        inside = omega arith;
        left = sym (ap (plan_length p) e ∙ length-end p.head.mode p.head.radius n (plan_point p) (plan_course p));
        most = omega arith;
        corner = k;
      }

  module _ (i : ℕ) (c : Carry) (l : 1 ≤ i) (w : AddedUp p i c) where
    -- over a leg of any mode
    added_next : (arc leg left : ℕ) (r : Rounding) → left ≡ c.left + arc + leg → leg ≡ leg_length p.head.mode p.head.radius n (plan_point p) (plan_course p) i
        → total (corner_arc p.head.mode p.head.radius (plan_point p)) (n - 1 - i) i ≡ arc + total (corner_arc p.head.mode p.head.radius (plan_point p)) (n - 1 - (i + 1)) (i + 1)
        → arc + leg ≤ 3000000 → (p.head.mode ≡ Fillets → Rounded p.head.radius n (plan_point p) (i - 1) r)
        → AddedUp p (i - 1) (record { left = left; corner = r })
    added_next arc leg left r e f a m k =
        let z : i - 1 + 1 ≡ i = omega arith in
        let s = length-next p.head.mode p.head.radius n (plan_point p) (plan_course p) i arc leg w.inside f a in
        let h = w.inside in
        let b = w.most in
        record {
          inside = omega arith;
          left = e ∙ (λ j. w.left j + arc + leg) ∙ s ∙ ap (plan_length p) (sym z);
          most = omega arith;
          corner = k;
        }

    pub lines_next : p.head.mode ≡ Lines → (leg : ℕ) → leg ≡ level_length (plan_point p) i → leg ≤ 2828427
        → AddedUp p (i - 1) (record { left = c.left + leg; corner = c.corner })
    unfolding leg_length
    lines_next m leg e b =
        added_next 0 leg (c.left + leg) c.corner (omega arith) (rw m e)
        (rw m (omega (arith, lines-arcs p.head.radius (plan_point p) (n - 1 - i) i, lines-arcs p.head.radius (plan_point p) (n - 1 - (i + 1)) (i + 1))))
        (omega arith) (λ f. absurd (lines_none (sym m ∙ f)))

    pub dubins-next : p.head.mode ≡ Dubins → (leg : ℕ) → leg ≡ found_length (shortest_of (ends_at p.head.radius (plan_point p) (plan_course p) (i - 1) i)) → leg ≤ 2828427
        → AddedUp p (i - 1) (record { left = c.left + leg; corner = c.corner })
    unfolding leg_length
    dubins-next m leg e b =
        added_next 0 leg (c.left + leg) c.corner (omega arith) (rw m e)
        (rw m (omega (arith, dubins-arcs p.head.radius (plan_point p) (n - 1 - i) i, dubins-arcs p.head.radius (plan_point p) (n - 1 - (i + 1)) (i + 1))))
        (omega arith) (λ f. absurd (dubins-none (sym m ∙ f)))

    module _ (m : p.head.mode ≡ Fillets) (s : Sound p) (r : Rounding) (k : Rounded p.head.radius n (plan_point p) (i - 1) r) where
      -- the root of the carried leg is its length, and both tangent lengths fit it
      pub root_is : root_of c.corner.leg.squared ≡ level_length (plan_point p) i
      unfolding level_length vector_length
      root_is = ap root_of ((w.corner m).leg l).squared

      pub root-most : root_of c.corner.leg.squared ≤ 2828427
      root-most = omega (arith, root-lt c.corner.leg.squared 2828428 (omega (arith, ((w.corner m).leg l).most)))

      pub tangents-fit : r.tangent + c.corner.tangent ≤ root_of c.corner.leg.squared
      tangents-fit = omega (arith, s.lengths m i l w.inside, k.tangent, (w.corner m).tangent, root_is)

      pub fillets-next : (leg : ℕ) → leg ≡ root_of c.corner.leg.squared - (r.tangent + c.corner.tangent)
          → AddedUp p (i - 1) (record { left = c.left + c.corner.arc + leg; corner = r })
      unfolding leg_length
      fillets-next leg e =
          added_next c.corner.arc leg (c.left + c.corner.arc + leg) r refl
          (rw m (omega (arith, e, root_is, k.tangent, (w.corner m).tangent)))
          (rw m ((w.corner m).arc l)) (omega (arith, e, root-most, (w.corner m).most)) (λ _. k)
