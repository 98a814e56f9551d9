-- A fillet plan whose turns are all easy and whose legs are all long enough for two of them: refusals 11 and 12 refuse nothing. Assumes nothing.
use mathlib.Core.Path.{◌≡◌, refl, sym, ap, ◌∙◌}
use Prim.Native.Nat.{ℕ, ◌+◌, ◌-◌, ◌*◌, ◌/◌, ◌≤◌, ◌<◌}
use native.Mathlib.Omega.{arith}
use lib.Dec.{ltb}
use borrow.Author.Tests.{le-ltb}
use Rattle.conditions.proofs.ChooseLaws.{choose-false}
use Rattle.refusals.specs.Outcome.{good, and_then}
use Rattle.refusals.specs.Sweep.{Done, done}
use Rattle.plane.specs.declared.Point.{Point}
use Rattle.plane.specs.Level.{level_leg_of, square_of}
use Rattle.fillets.specs.Corners.{corner_turn, easy_turn, tangent_of}
use Rattle.plan.specs.declared.Mode.TheVariants.{Fillets}
use Rattle.plan.specs.Limits.{most_turn}
use Rattle.plan.specs.Rules.{corner_number, tangent_at, tangent_number, leg_number, corner_at, corners_of, legs_of}
use Rattle.plan.specs.Stands.{LongAt, EasyAt}
use Rattle.plan.proofs.TangentNumberLaws.{tangent-none, easy-passes}
use Rattle.plan.proofs.FilletLegLaws.{tangent-first, tangent-corner, tangent-last}
use Rattle.plan.proofs.SweptLaws.{Swept, swept-start, swept-next, swept-stop}
use Rattle.plan.proofs.RuleLaws.{corners-pass}

module _ (R n : ℕ) (at : ℕ → Point) (course : ℕ → ℕ) where
  abbrev pub least : ℕ
  least = 5 * R / 2 * (5 * R / 2)

  -- the corners and the legs before place i have passed, and the turn before it is easy
  pub record Easily (i : ℕ) : Type 0 where
    pub corners : Swept (corner_at Fillets at) (n - 1) i
    pub legs : Swept (leg_number Fillets R n at course) n i
    pub before : ℕ
    pub tangent : tangent_of R before ≡ tangent_at R n at (i - 1)
    pub easy : before ≤ easy_turn

  pub easily-start : Easily 1
  easily-start = record { corners = swept-start; legs = swept-start; before = 0; tangent = tangent-none R ∙ sym (tangent-first R n at); easy = omega arith }

  -- the leg to place i, by the turn there
  leg-passes : (i turn : ℕ) → Easily i → LongAt least at i → turn ≤ easy_turn → tangent_of R turn ≡ tangent_at R n at i → 0 ≡ leg_number Fillets R n at course i
  unfolding leg_number
  leg-passes i turn e long l t =
      easy-passes (at (i - 1)) (at i) (square_of (level_leg_of (at (i - 1)) (at i))) R e.before turn refl e.easy l long
      ∙ (λ j. tangent_number (at (i - 1)) (at i) (e.tangent j + t j))

  corner-passes : (i : ℕ) → corner_turn (at (i - 1)) (at i) (at (i + 1)) ≤ easy_turn → 0 ≡ corner_at Fillets at i
  unfolding corner_number
  corner-passes i l =
      let turn = corner_turn (at (i - 1)) (at i) (at (i + 1)) in
      sym (choose-false (ltb most_turn turn) 11 0 (le-ltb most_turn turn (omega arith)))

  pub easily-next : (i : ℕ) → Easily i → i + 1 < n → EasyAt least at i → Easily (i + 1)
  easily-next i e h p =
      let turn = corner_turn (at (i - 1)) (at i) (at (i + 1)) in
      let d : i ≡ i + 1 - 1 = omega arith in
      let t = sym (tangent-corner R n at i e.corners.low h) in
      record {
        corners = swept-next e.corners (omega arith) (corner-passes i p.turn) refl;
        legs = swept-next e.legs (omega arith) (leg-passes i turn e p.long p.turn t) refl;
        before = turn;
        tangent = t ∙ ap (tangent_at R n at) d;
        easy = p.turn;
      }

  -- at the last point, which is no corner
  pub easily-last : (i : ℕ) → Easily i → i + 1 ≡ n → LongAt least at i
      → and_then (corners_of Fillets n at) (λ (_ : Done). legs_of Fillets R n at course) ≡ good done
  unfolding corners_of legs_of
  easily-last i e h long =
      let t = tangent-none R ∙ sym (tangent-last R n at i e.corners.low h) in
      let legs = swept-next e.legs (omega arith) (leg-passes i 0 e long (omega arith) t) refl in
      corners-pass Fillets R n at course (swept-stop e.corners (omega arith)) ∙ swept-stop legs (omega arith)
