-- Which numbers a chain of checks and a sweep give: those of their checks and rules, and no other. Assumes nothing.
use mathlib.Core.Path.{◌≡◌, refl, subst}
use mathlib.Core.Bool.{Bool, true, false}
use Prim.Native.Nat.{ℕ, zero, suc, ◌+◌}
use lib.Dec.{eqb}
use borrow.Author.Tests.{eqb-false}
use Rattle.conditions.specs.Choose.{choose}
use Rattle.refusals.specs.Outcome.{Outcome, good, refused, check, and_then}
use Rattle.refusals.specs.Sweep.{Done, sweep}

-- an outcome that is refused has a number of which P holds
abbrev pub Gives : {A : Type 0} → (ℕ → Type 0) → Outcome A → Type 0
Gives P (good a) = Unit {0}
Gives P (refused number place) = P number

-- so has a rule, whose number is 0 where it passes
abbrev pub Names : (ℕ → Type 0) → ℕ → Type 0
Names P number = (number ≡ 0 → ⊥) → P number

pub gives-wider : {A : Type 0} (P Q : ℕ → Type 0) (o : Outcome A) → ((number : ℕ) → P number → Q number) → Gives P o → Gives Q o
gives-wider P Q (good a) w h = tt
gives-wider P Q (refused n p) w h = w n h

module _ (P : ℕ → Type 0) where
  pub gives-means : {A : Type 0} (o : Outcome A) (number place : ℕ) → Gives P o → o ≡ refused number place → P number
  gives-means o number place h e = subst (Gives P) e h

  -- ---- chains
  pub gives-check : {A : Type 0} (b : Bool) (n : ℕ) (o : Outcome A) → P n → Gives P o → Gives P (check b n o)
  unfolding check
  gives-check true n o p h = h
  gives-check false n o p h = p

  pub gives_then : {A B : Type 0} (o : Outcome A) (g : A → Outcome B) → Gives P o → ((a : A) → Gives P (g a)) → Gives P (and_then o g)
  unfolding and_then
  gives_then (good a) g h k = k a
  gives_then (refused n p) g h k = h

  -- ---- rules, and a sweep of them
  pub names-none : Names P 0
  names-none h = absurd (h refl)

  pub names-either : (b : Bool) (m n : ℕ) → Names P m → Names P n → Names P (choose b m n)
  unfolding choose
  names-either true m n h k = h
  names-either false m n h k = k

  gives-step : (b : Bool) (o : Outcome Done) (n p : ℕ) → eqb n 0 ≡ b → Gives P o → Names P n → Gives P (choose b o (refused n p))
  unfolding choose
  gives-step true o n p e h k = h
  gives-step false o n p e h k = k (eqb-false n 0 e)

  pub gives-sweep : (f : ℕ → ℕ) → ((j : ℕ) → Names P (f j)) → (k i : ℕ) → Gives P (sweep f k i)
  unfolding sweep
  gives-sweep f h zero i = tt
  gives-sweep f h (suc k) i = gives-step (eqb (f i) 0) (sweep f k (i + 1)) (f i) (i + 1) refl (gives-sweep f h k (i + 1)) (h i)
