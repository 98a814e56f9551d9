-- Clauses 6.6, 7.18, 8.3, 15.1, 20.4 to 20.6: the check of a state for strips and the row of a strip, as they are worked out, and what the check
-- owes the definition of a strip plan. Assumes nothing.
use Rattle.std.specs.Prelude.{◌≡◌, Bool, true, false, List, ℕ, ◌+◌, ◌-◌, ◌%◌, ◌≤◌, eqb, leb, Result, Ok, Err, ℤ, pos, ◌-ℤ◌}
use Rattle.conditions.specs.Choose.{choose}
use Rattle.conditions.specs.Both.{both}
use Rattle.conditions.specs.Between.{between}
use Rattle.refusals.specs.Numbers.{no_state, not_strips}
use Rattle.refusals.specs.Outcome.{Outcome, good, refused}
use Rattle.refusals.specs.Sweep.{Done, sweep}
use Rattle.integers.specs.Wrap.{wrap_of}
use Rattle.course.specs.Bearing.{bearing_of}
use Rattle.plane.specs.declared.Point.{Point}
use Rattle.plane.specs.Level.{vector_length}
use Rattle.plan.specs.declared.Mode.{Mode}
use Rattle.plan.specs.declared.Mode.TheVariants.{Lines, Fillets, Dubins}
use Rattle.plan.specs.declared.Plan.{Plan}
use Rattle.plan.specs.Limits.{most_points}
use Rattle.plan.specs.Places.{plan_point, plan_course}
use Rattle.plan.specs.Stands.{Placed, Aiming}
use Rattle.manager.specs.declared.State.{State}
use Rattle.manager.specs.State.{valid_of}
use Rattle.strips.specs.declared.Fault.{Fault}
use Rattle.strips.specs.declared.Strip.{Strip}
use Rattle.strips.specs.Strips.{first_place, last_place, strips_in, strip_leg, Paired, StripPlan, FirstFault}

-- ---- 20.4: the first rule that strip j breaks, 0 where it keeps all three. Once the first is kept, the strip has one course.
unfoldable pub opposed_of : ℕ → ℕ → Bool
opposed_of χ ψ = eqb (wrap_of (pos χ -ℤ pos ψ)) 2048

unfoldable pub rule_broken : (ℕ → Point) → (ℕ → ℕ) → ℕ → ℕ
rule_broken at course j =
    choose (eqb (course (first_place j)) (course (last_place j)))
    (choose (eqb (course (first_place j)) (bearing_of (strip_leg at j)))
    (choose (leb 2 j) (choose (opposed_of (course (first_place j)) (course (first_place (j - 1)))) 0 3) 0)
    2)
    1

-- the first strip that breaks one: the rule, and the strip as its place
abbrev pub rule_at : (ℕ → Point) → (ℕ → ℕ) → ℕ → ℕ
rule_at at course i = rule_broken at course (i + 1)

unfoldable pub fault_of : (ℕ → Point) → (ℕ → ℕ) → ℕ → Outcome Done
fault_of at course n = sweep (rule_at at course) (strips_in n - 0) 0

-- ---- 20.5, 7.18: the answer: a refusal with a place and a rule, or how many strips there are; what is not said is 0
pub record Checked : Type 0 where
  pub refusal : ℕ
  pub place : ℕ
  pub rule : ℕ
  pub strips : ℕ

abbrev pub refused_check : ℕ → ℕ → ℕ → Checked
refused_check number place rule = record { refusal = number; place = place; rule = rule; strips = 0 }

unfoldable pub is_dubins : Mode → Bool
is_dubins Lines = false
is_dubins Fillets = false
is_dubins Dubins = true

unfoldable pub paired_of : Mode → ℕ → Bool
paired_of mode n = both (is_dubins mode) (eqb (n % 2) 0)

unfoldable pub fault_check : ℕ → Outcome Done → Checked
fault_check n (good d) = record { refusal = 0; place = 0; rule = 0; strips = strips_in n }
fault_check n (refused rule strip) = refused_check not_strips strip rule

unfoldable pub plan_check : Plan → Checked
plan_check p =
    choose (paired_of p.head.mode p.head.count) (fault_check p.head.count (fault_of (plan_point p) (plan_course p) p.head.count))
    (refused_check not_strips 0 0)

-- 20.5: 14 comes first
unfoldable pub check_of : State → Checked
check_of s = choose (valid_of s) (plan_check s.plan) (refused_check no_state 0 0)

-- as functions answer it, and the numbers of such an answer
unfoldable pub checked_as : Checked → Result ℕ Fault
checked_as c = choose (eqb c.refusal 0) (Ok c.strips) (Err (record { refusal = c.refusal; place = c.place; rule = c.rule }))

abbrev pub numbered : Result ℕ Fault → Checked
numbered (Ok strips) = record { refusal = 0; place = 0; rule = 0; strips = strips }
numbered (Err fault) = refused_check fault.refusal fault.place fault.rule

-- ---- 20.6: the row of a strip, and zeros where there is none
abbrev pub strip_of : (ℕ → Point) → (ℕ → ℕ) → ℕ → Strip
strip_of at course j = record { number = j; course = course (first_place j); length = vector_length (strip_leg at j) }

abbrev pub no_strip : Strip
no_strip = record { number = 0; course = 0; length = 0 }

unfoldable pub strip_row : State → ℕ → Strip
strip_row s j = choose (between 1 (check_of s).strips j) (strip_of (plan_point s.plan) (plan_course s.plan) j) no_strip

-- ---- 20.5: what the check owes the definition, both ways
pub record Tied (s : State) (r : Checked) : Type 0 where
  pub unsound : valid_of s ≡ false → r ≡ refused_check 14 0 0
  pub unpaired : valid_of s ≡ true → (Paired s.plan → ⊥) → r ≡ refused_check 18 0 0
  -- of a sound Dubins plan with an even number of points: 0 exactly where it is a strip plan, and else the first fault
  pub passes : valid_of s ≡ true → StripPlan s.plan → r ≡ record { refusal = 0; place = 0; rule = 0; strips = strips_in s.plan.head.count }
  pub means : r.refusal ≡ 0 → (valid_of s ≡ true) × StripPlan s.plan
  pub faults : valid_of s ≡ true → Paired s.plan → (StripPlan s.plan → ⊥)
      → (r ≡ refused_check 18 r.place r.rule) × FirstFault (plan_point s.plan) (plan_course s.plan) s.plan.head.count r.place r.rule

-- which fixes the answer: no two answers keep it
abbrev pub OneAnswer : Type 0
OneAnswer = (s : State) (r q : Checked) → Tied s r → Tied s q → r ≡ q

-- ---- what the functions ask of lent numbers: the places of strip j are there, its points lie in the area, and its courses are courses, as is that
-- of the strip before
pub record StripThere (norths easts downs courses : List ℤ) (j : ℕ) : Type 0 where
  pub least : 1 ≤ j
  pub most : j ≤ most_points
  pub first : Placed norths easts downs (first_place j)
  pub last : Placed norths easts downs (last_place j)
  pub leave : Aiming courses (first_place j)
  pub arrive : Aiming courses (last_place j)
  pub before : 2 ≤ j → Aiming courses (first_place (j - 1))

-- the same of a plan; for proofs alone
abbrev pub PlanStripThere : Plan → ℕ → Type 0
PlanStripThere p = StripThere p.norths p.easts p.downs p.courses

-- so of each strip; for proofs alone
abbrev pub StripsThere : Plan → Type 0
StripsThere p = (j : ℕ) → 1 ≤ j → j ≤ strips_in p.head.count → PlanStripThere p j
