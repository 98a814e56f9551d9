-- Every guide function commands a line or a circle, of plain numbers. Assumes nothing.
use Rattle.std.proofs.Common.{Option, Some, None}
use mathlib.Core.Path.{◌≡◌, subst}
use mathlib.Core.Bool.{Bool, true, false}
use Prim.Native.Nat.{ℕ, ◌+◌, ◌≤◌}
use lib.Dec.{eqb, ltb, leb→le}
use lib.IntN.{pos}
use Rattle.conditions.specs.Choose.{choose}
use Rattle.integers.proofs.BoundLaws.{within-weaken, within-lit}
use Rattle.course.specs.declared.Vector.{Vector}
use Rattle.course.specs.Vectors.{Near}
use Rattle.course.specs.Offset.{offset_of}
use Rattle.course.proofs.VectorLaws.{near_le}
use Rattle.course.proofs.DirectionLaws.{direction-near}
use Rattle.course.proofs.OffsetLaws.{offset_near}
use Rattle.plane.specs.declared.Point.{Point}
use Rattle.plane.specs.declared.Leg.{Leg}
use Rattle.plane.specs.Area.{InArea, IsLeg, leg_of, level_of}
use Rattle.plane.specs.Level.{plus, sideways_of}
use Rattle.plane.proofs.LevelLaws.{plus-near}
use Rattle.plane.proofs.LegLaws.{leg-is}
use Rattle.units.proofs.QuotientLaws.{metres-plain, direction-plain}
use Rattle.fillets.specs.Corners.{corner_turn, corner_of}
use Rattle.fillets.proofs.TangentLaws.{tangent-le}
use Rattle.fillets.proofs.CornerLaws.{rounded-is}
use Rattle.dubins.specs.declared.Case.{Case}
use Rattle.dubins.specs.declared.Ends.{Ends}
use Rattle.dubins.specs.declared.Path.{Path}
use Rattle.dubins.specs.Cases.{starts_right, ends_right, centre_of, circles_of, case_exists, touch_of, path_of}
use Rattle.dubins.specs.Choice.{case_path, shortest_of, Wins, IsShortest}
use Rattle.dubins.proofs.ShortestLaws.{shortest-is}
use Rattle.guidance.specs.declared.Guidance.{Guidance}
use Rattle.guidance.specs.Commands.{place_metres, leg_metres, line_command, course_command, circle_command, PlainMetres, IsCommand, CommandMeans}
use Rattle.guidance.specs.declared.View.{View}
use Rattle.guidance.specs.Guide.{leg_guide, line_guide, circle_guide, fillet_line, fillet_circle, fillet_guide, last_leg_guide, straight_guide, dubins_guide}

pub command-means : CommandMeans
command-means = record { metres = λ m p. (p.north, (p.east, p.down)); line = λ s d p. p; circle = λ c r s p. p; nothing = λ h. h }

-- ---- places and legs in metres
level-near : (p : Point) → InArea p → Near 500000 (level_of p)
unfolding level_of
level-near p h = record { north = h.north; east = h.east }

pub place-plain : (v : Vector) (p : Point) → Near 1000000 v → InArea p → PlainMetres (place_metres v p.down)
unfolding place_metres
place-plain v p h k = record { north = metres-plain _ h.north; east = metres-plain _ h.east; down = metres-plain _ (within-weaken k.down tt) }

pub leg-plain : (l : Leg) → IsLeg l → PlainMetres (leg_metres l)
unfolding leg_metres
leg-plain l h = record { north = metres-plain _ h.north; east = metres-plain _ h.east; down = metres-plain _ (within-weaken h.down tt) }

-- ---- lines and circles
pub line-is : (a b : Point) → InArea a → InArea b → IsCommand (line_command a b)
unfolding line_command
line-is a b h k = record { there = tt; plain = (place-plain (level_of a) a (near_le (leb→le 500000 1000000 tt) (level-near a h)) h, leg-plain (leg_of a b) (leg-is a b h k)) }

pub course-is : (z : Vector) (p : Point) (θ : ℕ) → Near 1000000 z → InArea p → IsCommand (course_command z p.down θ)
unfolding course_command
course-is z p θ h k =
    let d = direction-near θ in
    record {
      there = tt;
      plain = (place-plain z p h k, record { north = direction-plain _ d.north; east = direction-plain _ d.east; down = direction-plain (pos 0) (within-lit tt) });
    }

pub circle-is : (centre : Vector) (p : Point) (R : ℕ) (right : Bool) → Near 1000000 centre → InArea p → R ≤ 10000 → IsCommand (circle_command centre p.down R right)
unfolding circle_command
circle-is centre p R right h k r =
    record { there = tt; plain = (place-plain centre p h k, metres-plain (pos R) (within-weaken {m = 10000} (record { within = r }) tt)) }

-- ---- lines, and the last leg
module _ (a b : Point) (h : InArea a) (k : InArea b) where
  pub leg-command : (passed : Bool) (p : Point) → IsCommand (leg_guide a b passed p).command
  unfolding leg_guide
  leg-command passed p = line-is a b h k

  pub line-guide-command : (c p : Point) → IsCommand (line_guide a b c p).command
  unfolding line_guide
  line-guide-command c p = leg-command _ p

  pub last-leg-command : (view : View) (p : Point) → IsCommand (last_leg_guide view a b p).command
  unfolding last_leg_guide
  last-leg-command view p = leg-command _ p

either : (t : Bool) (g h : Guidance) → IsCommand g.command → IsCommand h.command → IsCommand (choose t g h).command
unfolding choose
either true g h p q = p
either false g h p q = q

circle-command : (centre : Vector) (height : Point) (R : ℕ) (right passed : Bool) (p : Point) → Near 1000000 centre → InArea height → R ≤ 10000
    → IsCommand (circle_guide centre height R right passed p).command
unfolding circle_guide
circle-command centre height R right passed p h k r = circle-is centre height R right h k r

-- ---- fillets
centre-near : (a b c : Point) (R : ℕ) → InArea b → R ≤ 10000 → corner_turn a b c ≤ 1792 → Near 1000000 (corner_of a b c R).centre
unfolding corner_of
centre-near a b c R h r t =
    near_le (leb→le 560280 1000000 tt) (rounded-is (level_of b) _ _ (level-near b h) (tangent-le R (corner_turn a b c) r t) _ _ R r).centre

pub fillet-command : (a b c : Point) (R phase : ℕ) (p : Point) → InArea a → InArea b → R ≤ 10000 → corner_turn a b c ≤ 1792 → IsCommand (fillet_guide a b c R phase p).command
unfolding fillet_guide fillet_line fillet_circle
fillet-command a b c R phase p h k r t =
    either (eqb phase 1) _ _ (leg-command a b h k _ p) (circle-command _ b R _ _ p (centre-near a b c R k r t) k r)

-- ---- Dubins: how far the parts of a leg's path go
abbrev Reaches : Path → Type 0
Reaches path = Near 1000000 path.start × (Near 1000000 path.end × Near 1000000 path.z1)

abbrev FoundReaches : Option Path → Type 0
FoundReaches (Some path) = Reaches path
FoundReaches None = Unit {0}

module _ (ends : Ends) (h : InArea ends.start) (k : InArea ends.end) (r : ends.radius ≤ 10000) where
  turned-near : (n : ℕ) (v : Vector) (χ : ℕ) → Near n v → Near (n + 10000) (plus v (offset_of ends.radius χ))
  turned-near n v χ q = plus-near v (offset_of ends.radius χ) q (near_le r (offset_near ends.radius χ))

  centre-of-near : (p : Point) (χ : ℕ) (right : Bool) → InArea p → Near 510000 (centre_of p ends.radius χ right)
  unfolding centre_of
  centre-of-near p χ right q = turned-near 500000 (level_of p) (sideways_of χ right) (level-near p q)

  case-reaches : (case : Case) (s θ : ℕ) → Reaches (path_of ends case (circles_of ends case) s θ)
  unfolding path_of circles_of touch_of
  case-reaches case s θ =
      let start = centre-of-near ends.start ends.leave (starts_right case) h in
      let end = centre-of-near ends.end ends.arrive (ends_right case) k in
      (near_le (leb→le 510000 1000000 tt) start, (near_le (leb→le 510000 1000000 tt) end, near_le (leb→le 520000 1000000 tt) (turned-near 510000 _ _ start)))

  found-reaches : (t : Bool) (path : Path) → Reaches path → FoundReaches (choose t (Some path) None)
  unfolding choose
  found-reaches true path q = q
  found-reaches false path q = tt

  shortest-reaches : (path : Path) → shortest_of ends ≡ Some path → Reaches path
  unfolding case_path
  shortest-reaches path e =
      let w : Wins ends path = subst (IsShortest ends) e (shortest-is ends) in
      subst FoundReaches w.own (found-reaches (case_exists ends path.case) _ (case-reaches path.case _ _))

  straight-command : (path : Path) (p : Point) → Near 1000000 path.z1 → IsCommand (straight_guide ends.start path p).command
  unfolding straight_guide
  straight-command path p q = course-is path.z1 ends.start path.course q h

  pub dubins-command : (path : Path) (phase : ℕ) (p : Point) → shortest_of ends ≡ Some path → IsCommand (dubins_guide ends path phase p).command
  unfolding dubins_guide
  dubins-command path phase p e =
      let q = shortest-reaches path e in
      either (eqb phase 3) _ _ (straight-command path p q.1.1)
      (either (ltb phase 3) _ _ (circle-command path.start ends.start ends.radius _ _ p q.0 h r)
      (circle-command path.end ends.end ends.radius _ _ p q.1.0 k r))
