-- Holds clauses 6.1, 6.2, 7.1 to 7.18: what the definitions of this crate come to: the numbers, the order of a chain, and the lowest place of a
-- sweep. A definition that is changed together with the code that it describes is refused here. Assumes nothing.
use Rattle.std.specs.Prelude.{◌≡◌, true, false, Bool, List, [], ◌∷◌, ℕ, suc, ◌+◌, ◌-◌, ◌≤◌, ◌<◌, Some, None, Ok, Err}
use Rattle.refusals.specs.declared.Refusal.{Refusal}
use Rattle.refusals.specs.Numbers.{file_too_short, no_mark, no_version, no_serial, wrong_area, wrong_record, too_new, point_count, course_count, equal_neighbours, sharp_corner, short_leg, no_position, no_state, other_serial, no_room, no_case, not_strips, misfit}
use Rattle.refusals.specs.Outcome.{Outcome, good, refused, check, and_then, refusal_of, is_good}
use Rattle.refusals.specs.Sweep.{Done, done, sweep, every, noted, passed_of}

-- the numbers by their names, in the order of section 7, and that of 17.5
abbrev pub named : List ℕ
named =
    file_too_short ∷ no_mark ∷ no_version ∷ no_serial ∷ wrong_area ∷ wrong_record ∷ too_new ∷ point_count ∷ course_count ∷ equal_neighbours ∷ sharp_corner ∷ short_leg
    ∷ no_position ∷ no_state ∷ other_serial ∷ no_room ∷ no_case ∷ not_strips ∷ misfit ∷ []

abbrev pub refusal : ℕ → ℕ → Refusal
refusal number place = record { number = number; place = place }

-- a test that passes goes on, one that fails is the refusal; so is the first refusal of a chain
pub record CheckChain : Type 0 where
  pub passes : (n : ℕ) (o : Outcome Done) → check true n o ≡ o
  pub fails : (n : ℕ) (o : Outcome Done) → check false n o ≡ refused n 0
  pub onward : (f : Done → Outcome Done) → and_then (good done) f ≡ f done
  pub stops : (n p : ℕ) (f : Done → Outcome Done) → and_then (refused n p) f ≡ refused n p
  pub shown : (n p : ℕ) → (refusal_of {A = Done} (refused n p) ≡ refusal n p) × (is_good {A = Done} (refused n p) ≡ false)
  pub clean : (refusal_of (good done) ≡ refusal 0 0) × (is_good (good done) ≡ true)
  pub answered : (n p : ℕ) → passed_of {A = Done} (refused n p) ≡ Err (refusal n p)
  pub passed : passed_of (good done) ≡ Ok tt
  pub number_noted : (n : ℕ) → noted (suc n) ≡ Some (suc n)
  pub none_noted : noted 0 ≡ None

-- k places from i on, counted from 0 there and from 1 in a refusal
pub record Lowest (k i : ℕ) : Type 0 where
  pub first : (f : ℕ → ℕ) (j : ℕ) → i ≤ j → j < i + k → ((m : ℕ) → i ≤ m → m < j → f m ≡ 0) → (f j ≡ 0 → ⊥) → sweep f k i ≡ refused (f j) (j + 1)
  pub none : (f : ℕ → ℕ) → ((m : ℕ) → i ≤ m → m < i + k → f m ≡ 0) → sweep f k i ≡ good done
  pub all : (f : ℕ → Bool) → ((m : ℕ) → i ≤ m → m < i + k → f m ≡ true) → every f k i ≡ true
  pub each : (f : ℕ → Bool) → every f k i ≡ true → (m : ℕ) → i ≤ m → m < i + k → f m ≡ true

-- the literals: numbers; a chain whose second check fails; places 0, 1 and 2 with the numbers 0, 0 and 1
pub record Literals : Type 0 where
  pub numbers : named ≡ 1 ∷ 2 ∷ 3 ∷ 4 ∷ 5 ∷ 6 ∷ 7 ∷ 8 ∷ 9 ∷ 10 ∷ 11 ∷ 12 ∷ 13 ∷ 14 ∷ 15 ∷ 16 ∷ 17 ∷ 18 ∷ 100 ∷ []
  pub second : check true 8 (check false 9 (good done)) ≡ refused 9 0
  pub third : sweep (λ (j : ℕ). j - 1) 3 0 ≡ refused 1 3

pub record Order : Type 0 where
  pub literals : Literals
  pub chain : CheckChain
  pub lowest : (k i : ℕ) → Lowest k i
