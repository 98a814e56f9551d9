-- Which numbers the rules of a plan give: 8 to 12 and 17, and no other. Assumes nothing.
use mathlib.Core.Path.{◌≡◌}
use mathlib.Core.Logic.{◌⊎◌, inl, inr}
use mathlib.Core.Bool.{Bool}
use Prim.Native.Nat.{ℕ, ◌-◌, ◌≤◌}
use native.Mathlib.Omega.{arith}
use Rattle.conditions.specs.Choose.{choose}
use Rattle.refusals.specs.Numbers.{point_count, course_count, short_leg, no_case}
use Rattle.refusals.specs.Sweep.{Done}
use Rattle.refusals.proofs.GivenLaws.{Gives, Names, gives-check, gives_then, gives-sweep, names-none, names-either}
use Rattle.plane.specs.declared.Point.{Point}
use Rattle.dubins.specs.declared.Ends.{Ends}
use Rattle.plan.specs.declared.Mode.{Mode}
use Rattle.plan.specs.declared.Mode.TheVariants.{Lines, Fillets, Dubins}
use Rattle.plan.specs.Rules.{pair_number, corner_number, tangent_number, ends_number, leg_number, pair_at, corner_at, pairs_of, corners_of, legs_of, geometry_on, rules_on}

abbrev pub GivenByRules : ℕ → Type 0
GivenByRules number = ((point_count ≤ number) × (number ≤ short_leg)) ⊎ (number ≡ no_case)

-- ---- one rule at a place: a test with its number and 0, the fault first or last
fault-first : (b : Bool) (n : ℕ) → GivenByRules n → Names GivenByRules (choose b n 0)
fault-first b n g = names-either GivenByRules b n 0 (λ h. g) (names-none GivenByRules)

fault-last : (b : Bool) (n : ℕ) → GivenByRules n → Names GivenByRules (choose b 0 n)
fault-last b n g = names-either GivenByRules b 0 n (names-none GivenByRules) (λ h. g)

pair-names : (a b : Point) → Names GivenByRules (pair_number a b)
unfolding pair_number
pair-names a b = fault-first _ _ (inl (omega arith, omega arith))

corner-names : (mode : Mode) (a b c : Point) → Names GivenByRules (corner_number mode a b c)
unfolding corner_number
corner-names Lines a b c = fault-first _ _ (inl (omega arith, omega arith))
corner-names Fillets a b c = fault-first _ _ (inl (omega arith, omega arith))
corner-names Dubins a b c = names-none GivenByRules

tangent-names : (a b : Point) (tangents : ℕ) → Names GivenByRules (tangent_number a b tangents)
unfolding tangent_number
tangent-names a b tangents = fault-last _ _ (inl (omega arith, omega arith))

ends-names : (ends : Ends) → Names GivenByRules (ends_number ends)
unfolding ends_number
ends-names ends = names-either GivenByRules _ _ _ (fault-last _ _ (inr (omega arith))) (λ h. inl (omega arith, omega arith))

-- ---- and at all places
module _ (R n : ℕ) (at : ℕ → Point) (course : ℕ → ℕ) where
  leg-names : (mode : Mode) (i : ℕ) → Names GivenByRules (leg_number mode R n at course i)
  unfolding leg_number
  leg-names Lines i = names-none GivenByRules
  leg-names Fillets i = tangent-names _ _ _
  leg-names Dubins i = ends-names _

  geometry-gives : (mode : Mode) → Gives GivenByRules (geometry_on mode R n at course)
  unfolding geometry_on pairs_of corners_of legs_of
  geometry-gives mode =
      let pairs = gives-sweep GivenByRules (pair_at at) (λ j. pair-names _ _) (n - 1) 1 in
      let corners = gives-sweep GivenByRules (corner_at mode at) (λ j. corner-names mode _ _ _) (n - 1 - 1) 1 in
      let legs = gives-sweep GivenByRules (leg_number mode R n at course) (leg-names mode) (n - 1) 1 in
      gives_then GivenByRules _ _ pairs (λ (_ : Done). gives_then GivenByRules _ _ corners (λ (_ : Done). legs))

  pub rules-give : (mode : Mode) (given : ℕ) → Gives GivenByRules (rules_on mode R given n at course)
  unfolding rules_on
  rules-give mode given =
      gives-check GivenByRules _ point_count _ (inl (omega arith, omega arith))
      (gives-check GivenByRules _ point_count _ (inl (omega arith, omega arith))
      (gives-check GivenByRules _ course_count _ (inl (omega arith, omega arith)) (geometry-gives mode)))
