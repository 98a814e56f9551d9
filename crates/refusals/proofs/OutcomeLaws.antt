-- Chains of checks: which refusal stands, and what a chain that passes says of its parts. Assumes nothing.
use mathlib.Core.Path.{◌≡◌, refl, sym}
use mathlib.Core.Bool.{Bool, true, false}
use Prim.Native.Nat.{ℕ}
use native.Mathlib.Omega.{arith}
use lib.Dec.{eqb}
use Rattle.conditions.specs.Choose.{choose}
use Rattle.conditions.proofs.Bools.{clash}
use Rattle.refusals.specs.Outcome.{Outcome, good, refused, check, and_then, refusal_of, is_good}

-- ---- a check
pub check-true : {A : Type 0} (b : Bool) (n : ℕ) (o : Outcome A) → b ≡ true → check b n o ≡ o
unfolding check
check-true b n o h = rw h

pub check-false : {A : Type 0} (b : Bool) (n : ℕ) (o : Outcome A) → b ≡ false → check b n o ≡ refused n 0
unfolding check
check-false b n o h = rw h

pub check-first : {A : Type 0} (b : Bool) (n : ℕ) (o : Outcome A) → is_good (check b n o) ≡ true → b ≡ true
unfolding is_good check
check-first true n o h = refl
check-first false n o h = h

pub check-rest : {A : Type 0} (b : Bool) (n : ℕ) (o : Outcome A) → is_good (check b n o) ≡ true → is_good o ≡ true
unfolding is_good check
check-rest true n o h = h
check-rest false n o h = clash false h refl

-- ---- a refusal is not a value
pub never-good : {A X : Type 0} {n p : ℕ} {a : A} → refused n p ≡ good a → X
never-good h = let z : ◌≡◌ {A = ℕ} 0 1 = cc in absurd (omega arith)

-- what a chain that gives a value says of its parts
pub check-means : {A : Type 0} (b : Bool) (n : ℕ) (o : Outcome A) (a : A) → check b n o ≡ good a → (b ≡ true) × (o ≡ good a)
unfolding check
check-means true n o a h = (refl, h)
check-means false n o a h = never-good h

pub then-means : {A B : Type 0} (o : Outcome A) (g : A → Outcome B) (b : B) → and_then o g ≡ good b → (a : A) × ((o ≡ good a) × (g a ≡ good b))
unfolding and_then
then-means (good a) g b h = (a, (refl, h))
then-means (refused n p) g b h = never-good h

-- ---- one outcome after another
pub then-stops : {A B : Type 0} (o : Outcome A) (n p : ℕ) (g : A → Outcome B) → o ≡ refused n p → and_then o g ≡ refused n p
unfolding and_then
then-stops o n p g e = rw e

pub then-good : {A B : Type 0} (o : Outcome A) (a : A) (g : A → Outcome B) → o ≡ good a → and_then o g ≡ g a
unfolding and_then
then-good o a g h = rw h

pub then-refused : {A B : Type 0} (o : Outcome A) (g : A → Outcome B) → ((refusal_of o).number ≡ 0 → ⊥) → refusal_of (and_then o g) ≡ refusal_of o
unfolding refusal_of and_then
then-refused (good a) g h = absurd (h refl)
then-refused (refused n p) g h = refl

pub good-first : {A B : Type 0} (o : Outcome A) (g : A → Outcome B) → is_good (and_then o g) ≡ true → is_good o ≡ true
unfolding is_good and_then
good-first (good a) g h = refl
good-first (refused n p) g h = h

-- ---- no refusal has the number 0
abbrev pub Proper : {A : Type 0} → Outcome A → Type 0
Proper o = is_good o ≡ eqb (refusal_of o).number 0

pub proper-good : {A : Type 0} (a : A) → Proper (good a)
unfolding is_good refusal_of
proper-good a = refl

pub proper-check : {A : Type 0} (b : Bool) (n : ℕ) (o : Outcome A) → eqb n 0 ≡ false → Proper o → Proper (check b n o)
unfolding check is_good refusal_of
proper-check true n o e h = h
proper-check false n o e h = sym e

pub proper-then : {A B : Type 0} (o : Outcome A) (g : A → Outcome B) → Proper o → ((a : A) → Proper (g a)) → Proper (and_then o g)
unfolding and_then is_good refusal_of
proper-then (good a) g h k = k a
proper-then (refused n p) g h k = h

-- the refusal of one after another: the first's, or else the second's
pub then-refusal : {A B : Type 0} (o : Outcome A) (q : Outcome B) → Proper o
    → refusal_of (and_then o (λ (_ : A). q)) ≡ choose (eqb (refusal_of o).number 0) (refusal_of q) (refusal_of o)
unfolding and_then is_good refusal_of choose
then-refusal (good a) q h = refl
then-refusal (refused n p) q h = rw (sym h)
