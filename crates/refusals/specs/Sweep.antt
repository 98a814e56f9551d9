-- Clause 6.2: sweeps over places, from i on, k of them; the lowest that is refused stands. Assumes nothing.
use Rattle.std.specs.Prelude.{Bool, true, ℕ, zero, suc, ◌+◌, eqb, Option, Some, None, Result, Ok, Err}
use Rattle.conditions.specs.Choose.{choose}
use Rattle.conditions.specs.Both.{both}
use Rattle.refusals.specs.declared.Refusal.{Refusal}
use Rattle.refusals.specs.Outcome.{Outcome, good, refused}

-- what a chain hands on that has no value
pub data Done : Type 0 where
  done : Done

-- the first place whose number is not 0 is refused with it. Places are counted from 0 here and from 1 in a refusal.
unfoldable pub sweep : (ℕ → ℕ) → ℕ → ℕ → Outcome Done
sweep number zero i = good done
sweep number (suc k) i = choose (eqb (number i) 0) (sweep number k (i + 1)) (refused (number i) (i + 1))

-- whether a test passes at each place
unfoldable pub every : (ℕ → Bool) → ℕ → ℕ → Bool
every test zero i = true
every test (suc k) i = both (test i) (every test k (i + 1))

-- a number as the check of one place answers it: none where it passes
unfoldable pub noted : ℕ → Option ℕ
noted zero = None
noted (suc n) = Some (suc n)

-- whether an outcome passed, as functions answer it
unfoldable pub passed_of : {A : Type 0} → Outcome A → Result Unit Refusal
passed_of (good a) = Ok tt
passed_of (refused number place) = Err (record { number = number; place = place })

-- the next answer, unless something was found before; for proofs alone
unfoldable pub unless_found : Result Unit Refusal → Result Unit Refusal → Result Unit Refusal
unless_found (Ok u) next = next
unless_found (Err refusal) next = Err refusal
