-- The numbers are those of section 7, a chain stops at its first refusal, and a sweep at its lowest place. Assumes nothing.
use mathlib.Core.Path.{◌≡◌, refl, ◌∙◌}
use Prim.Native.Nat.{ℕ, zero, suc, ◌+◌, ◌≤◌, ◌<◌}
use native.Mathlib.Omega.{arith}
use lib.Dec.{eqb}
use borrow.Author.Tests.{eqb-true, eqb-false, eq-eqb, ne_eqb}
use Rattle.conditions.proofs.ChooseLaws.{choose-true, choose-false}
use Rattle.conditions.proofs.Bools.{by_bool}
use Rattle.refusals.specs.Outcome.{good, refused, check, and_then, refusal_of, is_good}
use Rattle.refusals.specs.Sweep.{done, sweep, noted, passed_of}
use Rattle.refusals.specs.Order.{CheckChain, Lowest, Order}
use Rattle.refusals.proofs.Anchors.{literals}
use Rattle.refusals.proofs.SweepLaws.{every-means, every_of}

chain : CheckChain
unfolding check and_then refusal_of is_good passed_of noted
chain =
    record {
      passes = λ n o. refl;
      fails = λ n o. refl;
      onward = λ f. refl;
      stops = λ n p f. refl;
      shown = λ n p. (refl, refl);
      clean = (refl, refl);
      answered = λ n p. refl;
      passed = refl;
      number_noted = λ n. refl;
      none_noted = refl;
    }

-- past a place that passes
past : (f : ℕ → ℕ) (k i : ℕ) → f i ≡ 0 → sweep f (suc k) i ≡ sweep f k (i + 1)
unfolding sweep
past f k i h = choose-true (eqb (f i) 0) (sweep f k (i + 1)) (refused (f i) (i + 1)) (eq-eqb (f i) 0 h)

first : (f : ℕ → ℕ) (k i j : ℕ) → i ≤ j → j < i + k → ((m : ℕ) → i ≤ m → m < j → f m ≡ 0) → (f j ≡ 0 → ⊥) → sweep f k i ≡ refused (f j) (j + 1)
unfolding sweep
first f zero i j a b h n = absurd (omega arith)
first f (suc k) i j a b h n =
    by_bool (eqb i j)
    (λ t.
    let e : i ≡ j = eqb-true i j t in
    rw e (choose-false (eqb (f j) 0) (sweep f k (j + 1)) (refused (f j) (j + 1)) (ne_eqb (f j) 0 n)))
    (λ t.
    let e : i ≡ j → ⊥ = eqb-false i j t in
    past f k i (h i (omega arith) (omega arith)) ∙ first f k (i + 1) j (omega arith) (omega arith) (λ m c d. h m (omega arith) d) n)

none : (f : ℕ → ℕ) (k i : ℕ) → ((m : ℕ) → i ≤ m → m < i + k → f m ≡ 0) → sweep f k i ≡ good done
unfolding sweep
none f zero i h = refl
none f (suc k) i h = past f k i (h i (omega arith) (omega arith)) ∙ none f k (i + 1) (λ m c d. h m (omega arith) (omega arith))

lowest : (k i : ℕ) → Lowest k i
lowest k i =
    record {
      first = λ f j. first f k i j;
      none = λ f. none f k i;
      all = λ f h. every_of f k i h;
      each = λ f h. every-means f k i h;
    }

pub order : Order
order = record { literals = literals; chain = chain; lowest = lowest }
