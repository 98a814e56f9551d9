-- Clause 6.1: a chain of checks: what passes goes on, the first refusal stands. Assumes nothing.
use Rattle.std.specs.Prelude.{Bool, true, false, ℕ}
use Rattle.refusals.specs.declared.Refusal.{Refusal}

-- a value, or a refusal's number and place
pub data Outcome (A : Type 0) : Type 0 where
  good : A → Outcome A
  refused : ℕ → ℕ → Outcome A

-- go on where the test passes, else refuse with the number at place 0
unfoldable pub check : {A : Type 0} → Bool → ℕ → Outcome A → Outcome A
check true number rest = rest
check false number rest = refused number 0

unfoldable pub and_then : {A B : Type 0} → Outcome A → (A → Outcome B) → Outcome B
and_then (good a) f = f a
and_then (refused number place) f = refused number place

-- as the struct that functions answer
unfoldable pub refusal_of : {A : Type 0} → Outcome A → Refusal
refusal_of (good a) = record { number = 0; place = 0 }
refusal_of (refused number place) = record { number = number; place = place }

unfoldable pub is_good : {A : Type 0} → Outcome A → Bool
is_good (good a) = true
is_good (refused number place) = false
