-- Sweeps: a loop's three steps (stop, next, hit), and what a sweep that passes says of every place. Assumes nothing.
use mathlib.Core.Path.{◌≡◌, refl, sym, ap, ◌∙◌}
use mathlib.Core.Bool.{Bool, true, false}
use Prim.Native.Nat.{ℕ, zero, suc, ◌+◌, ◌-◌, ◌≤◌, ◌<◌}
use native.Mathlib.Omega.{arith}
use lib.Dec.{eqb, ltb}
use borrow.Author.Tests.{eqb-true, eqb-false, ne_eqb, lt-ltb, le-ltb}
use Rattle.conditions.specs.Choose.{choose}
use Rattle.conditions.specs.Both.{both}
use Rattle.conditions.proofs.ChooseLaws.{choose-true, choose-false}
use Rattle.conditions.proofs.Bools.{by_bool, clash, both-on, both-off, both-off-second, both-last, both_first, both-second, both-swap, both-both}
use Rattle.refusals.specs.Outcome.{Outcome, good, refused, and_then, refusal_of, is_good}
use Rattle.std.proofs.Common.{Option, Some, None, Err}
use Rattle.std.specs.Option.{is_some}
use Rattle.std.specs.Result.{is_ok}
use Rattle.refusals.specs.Sweep.{Done, done, sweep, every, noted, passed_of, unless_found}
use Rattle.refusals.proofs.OutcomeLaws.{Proper}

-- ---- from place i up to n
module _ (f : ℕ → ℕ) (n i : ℕ) where
  pub sweep-stop : n ≤ i → sweep f (n - i) i ≡ good done
  unfolding sweep
  sweep-stop h = let e : n - i ≡ 0 = omega arith in rw e

  pub sweep-next : i < n → f i ≡ 0 → sweep f (n - i) i ≡ sweep f (n - (i + 1)) (i + 1)
  unfolding sweep choose
  sweep-next h t = let e : n - i ≡ suc (n - (i + 1)) = omega arith in rw (e, t)

  pub sweep-hit : i < n → (f i ≡ 0 → ⊥) → sweep f (n - i) i ≡ refused (f i) (i + 1)
  unfolding sweep choose
  sweep-hit h t =
      let e : n - i ≡ suc (n - (i + 1)) = omega arith in
      let u : eqb (f i) 0 ≡ false = ne_eqb (f i) 0 t in
      rw (e, u)

module _ (f : ℕ → Bool) (n i : ℕ) where
  pub every-stop : n ≤ i → every f (n - i) i ≡ true
  unfolding every
  every-stop h = let e : n - i ≡ 0 = omega arith in rw e

  pub every-next : i < n → f i ≡ true → every f (n - i) i ≡ every f (n - (i + 1)) (i + 1)
  unfolding every both
  every-next h t = let e : n - i ≡ suc (n - (i + 1)) = omega arith in rw (e, t)

  pub every-hit : i < n → f i ≡ false → every f (n - i) i ≡ false
  unfolding every both
  every-hit h t = let e : n - i ≡ suc (n - (i + 1)) = omega arith in rw (e, t)

-- ---- where every place passes
pub sweep-zeros : (f : ℕ → ℕ) → ((j : ℕ) → f j ≡ 0) → (k i : ℕ) → sweep f k i ≡ good done
unfolding sweep choose
sweep-zeros f h zero i = refl
sweep-zeros f h (suc k) i = rw (h i) (sweep-zeros f h k (i + 1))

-- ---- what passes
pub every-means : (f : ℕ → Bool) (k i : ℕ) → every f k i ≡ true → (j : ℕ) → i ≤ j → j < i + k → f j ≡ true
unfolding every
every-means f zero i h j a b = absurd (omega arith)
every-means f (suc k) i h j a b =
    by_bool (eqb i j)
    (λ t. let e : i ≡ j = eqb-true i j t in rw (← e) (both_first (f i) (every f k (i + 1)) h))
    (λ t. let n : i ≡ j → ⊥ = eqb-false i j t in every-means f k (i + 1) (both-second (f i) (every f k (i + 1)) h) j (omega arith) (omega arith))

pub every_of : (f : ℕ → Bool) (k i : ℕ) → ((j : ℕ) → i ≤ j → j < i + k → f j ≡ true) → every f k i ≡ true
unfolding every
every_of f zero i h = refl
every_of f (suc k) i h =
    both-on (f i) (every f k (i + 1)) (h i (omega arith) (omega arith)) ∙ every_of f k (i + 1) (λ j a b. h j (omega arith) (omega arith))

-- ---- a sweep in parts: by the places, by the tests, and a test that changes at place n
pub every-split : (f : ℕ → Bool) (k m i : ℕ) → every f (k + m) i ≡ both (every f k i) (every f m (i + k))
unfolding every both
every-split f zero m i =
    let d : 0 + m ≡ m = omega arith in
    let e : i ≡ i + 0 = omega arith in
    λ t. every f (d t) (e t)
every-split f (suc k) m i =
    let d : suc k + m ≡ suc (k + m) = omega arith in
    let e : i + 1 + k ≡ i + suc k = omega arith in
    ap (λ (n : ℕ). every f n i) d
    ∙ ap (both (f i)) (every-split f k m (i + 1) ∙ ap (λ (j : ℕ). both (every f k (i + 1)) (every f m j)) e)
    ∙ sym (both-both (f i) (every f k (i + 1)) (every f m (i + suc k)))

pub every-both : (f g : ℕ → Bool) (k i : ℕ) → every (λ (j : ℕ). both (f j) (g j)) k i ≡ both (every f k i) (every g k i)
unfolding every both
every-both f g zero i = refl
every-both f g (suc k) i =
    ap (both (both (f i) (g i))) (every-both f g k (i + 1)) ∙ both-swap (f i) (g i) (every f k (i + 1)) (every g k (i + 1))

pub every-same : (f g : ℕ → Bool) (k i : ℕ) → ((j : ℕ) → i ≤ j → j < i + k → f j ≡ g j) → every f k i ≡ every g k i
unfolding every
every-same f g zero i h = refl
every-same f g (suc k) i h =
    let e = h i (omega arith) (omega arith) in
    let r = every-same f g k (i + 1) (λ j a b. h j (omega arith) (omega arith)) in
    λ t. both (e t) (r t)

pub every-change : (f g : ℕ → Bool) (n m : ℕ) → n ≤ m → every (λ (j : ℕ). choose (ltb j n) (f j) (g j)) (m - 0) 0 ≡ both (every f (n - 0) 0) (every g (m - n) n)
every-change f g n m l =
    let h : ℕ → Bool = λ (j : ℕ). choose (ltb j n) (f j) (g j) in
    let e : m - 0 ≡ n - 0 + (m - n) = omega arith in
    let z : 0 + (n - 0) ≡ n = omega arith in
    let a = every-same h f (n - 0) 0 (λ j a b. choose-true (ltb j n) (f j) (g j) (lt-ltb j n (omega arith))) in
    let b = every-same h g (m - n) n (λ j a b. choose-false (ltb j n) (f j) (g j) (le-ltb j n a)) in
    ap (λ (k : ℕ). every h k 0) e
    ∙ every-split h (n - 0) (m - n) 0
    ∙ ap (λ (j : ℕ). both (every h (n - 0) 0) (every h (m - n) j)) z
    ∙ (λ t. both (a t) (b t))

good-step : (b : Bool) (o : Outcome Done) (n p : ℕ) → is_good (choose b o (refused n p)) ≡ true → (b ≡ true) × (is_good o ≡ true)
unfolding choose is_good
good-step true o n p h = (refl, h)
good-step false o n p h = clash false h refl

pub sweep-means : (f : ℕ → ℕ) (k i : ℕ) → is_good (sweep f k i) ≡ true → (j : ℕ) → i ≤ j → j < i + k → f j ≡ 0
unfolding sweep
sweep-means f zero i h j a b = absurd (omega arith)
sweep-means f (suc k) i h j a b =
    let g = good-step (eqb (f i) 0) (sweep f k (i + 1)) (f i) (i + 1) h in
    by_bool (eqb i j)
    (λ t. let e : i ≡ j = eqb-true i j t in rw (← e) (eqb-true (f i) 0 g.0))
    (λ t. let n : i ≡ j → ⊥ = eqb-false i j t in sweep-means f k (i + 1) g.1 j (omega arith) (omega arith))

-- ---- no refusal of a sweep has the number 0
proper-step : (b : Bool) (o : Outcome Done) (n p : ℕ) → eqb n 0 ≡ b → Proper o → Proper (choose b o (refused n p))
unfolding choose is_good refusal_of
proper-step true o n p e h = h
proper-step false o n p e h = sym e

pub proper-sweep : (f : ℕ → ℕ) (k i : ℕ) → Proper (sweep f k i)
unfolding sweep is_good refusal_of
proper-sweep f zero i = refl
proper-sweep f (suc k) i = proper-step (eqb (f i) 0) (sweep f k (i + 1)) (f i) (i + 1) refl (proper-sweep f k (i + 1))

pub good-is : (o : Outcome Done) → is_good o ≡ true → o ≡ good done
unfolding is_good
good-is (good done) h = refl
good-is (refused n p) h = clash false h refl

-- from the number 0 that the code saw
pub sweep-clean : (f : ℕ → ℕ) (k i : ℕ) → (refusal_of (sweep f k i)).number ≡ 0 → is_good (sweep f k i) ≡ true
sweep-clean f k i h = proper-sweep f k i ∙ ap (λ (n : ℕ). eqb n 0) h

pub sweep-done : (f : ℕ → ℕ) (k i : ℕ) → (refusal_of (sweep f k i)).number ≡ 0 → sweep f k i ≡ good done
sweep-done f k i h = good-is (sweep f k i) (sweep-clean f k i h)

-- ---- one place more: what the sweep has found so far, or else that place
choose-then : (b : Bool) (o : Outcome Done) (n p : ℕ) (q : Outcome Done)
    → choose b (and_then o (λ (_ : Done). q)) (refused n p) ≡ and_then (choose b o (refused n p)) (λ (_ : Done). q)
unfolding choose and_then
choose-then true o n p q = refl
choose-then false o n p q = refl

sweep-more : (f : ℕ → ℕ) (k i : ℕ) → sweep f (suc k) i ≡ and_then (sweep f k i) (λ (_ : Done). sweep f 1 (i + k))
unfolding sweep and_then
sweep-more f zero i = let e : i ≡ i + 0 = omega arith in ap (sweep f 1) e
sweep-more f (suc k) i =
    let e : i + 1 + k ≡ i + suc k = omega arith in
    ap (λ (o : Outcome Done). choose (eqb (f i) 0) o (refused (f i) (i + 1))) (sweep-more f k (i + 1))
    ∙ choose-then (eqb (f i) 0) (sweep f k (i + 1)) (f i) (i + 1) (sweep f 1 (i + 1 + k))
    ∙ ap (λ (j : ℕ). and_then (sweep f (suc k) i) (λ (_ : Done). sweep f 1 j)) e

then-answer : (o q : Outcome Done) → passed_of (and_then o (λ (_ : Done). q)) ≡ unless_found (passed_of o) (passed_of q)
unfolding and_then passed_of unless_found
then-answer (good d) q = refl
then-answer (refused n p) q = refl

pub sweep-grown : (f : ℕ → ℕ) (k i : ℕ) → passed_of (sweep f (suc k) i) ≡ unless_found (passed_of (sweep f k i)) (passed_of (sweep f 1 (i + k)))
sweep-grown f k i = ap passed_of (sweep-more f k i) ∙ then-answer (sweep f k i) (sweep f 1 (i + k))

-- ---- a sweep with no way out, which sums what does not pass: the sum so far is 0, and every place that is left passes
abbrev pub passing : (ℕ → Bool) → ℕ → ℕ → ℕ → Bool
passing f sum n i = both (eqb sum 0) (every f (n - i) i)

-- one place more, which adds x: 0 exactly where it passes
pub passing-next : (f : ℕ → Bool) (sum x n i : ℕ) → i < n → (t : Bool) → f i ≡ t → eqb x 0 ≡ t → passing f sum n i ≡ passing f (sum + x) n (i + 1)
passing-next f sum x n i h true p q =
    let e : sum ≡ sum + x = omega (arith, eqb-true x 0 q) in
    ap (both (eqb sum 0)) (every-next f n i h p) ∙ ap (λ (m : ℕ). both (eqb m 0) (every f (n - (i + 1)) (i + 1))) e
passing-next f sum x n i h false p q =
    let e : sum + x ≡ 0 → ⊥ = λ k. eqb-false x 0 q (omega (arith, k)) in
    both-off-second (eqb sum 0) (every f (n - i) i) (every-hit f n i h p)
    ∙ sym (both-off (eqb (sum + x) 0) (every f (n - (i + 1)) (i + 1)) (ne_eqb (sum + x) 0 e))

-- and all of them
pub passing-all : (f : ℕ → Bool) (sum n i : ℕ) → n ≤ i → passing f sum n i ≡ eqb sum 0
passing-all f sum n i h = both-last (eqb sum 0) (every f (n - i) i) (every-stop f n i h)

-- ---- a sweep whose checks answer an Option: what was answered of a place says whether it passes
abbrev tag : Option ℕ → ℕ
tag None = 0
tag (Some n) = n + 1

noted-tag : (m : ℕ) (r : Option ℕ) → r ≡ noted m → tag r ≡ tag (noted m)
noted-tag m r h = ap tag h

pub noted-none : (m : ℕ) → None ≡ noted m → m ≡ 0
unfolding noted
noted-none zero h = refl
noted-none (suc m) h = let e : 0 ≡ suc m + 1 = noted-tag (suc m) None h in absurd (omega (arith, e))

pub noted-some : (m n : ℕ) → Some n ≡ noted m → (n ≡ m) × (m ≡ 0 → ⊥)
unfolding noted
noted-some zero n h = let e : n + 1 ≡ 0 = noted-tag zero (Some n) h in absurd (omega (arith, e))
noted-some (suc m) n h = let e : n + 1 ≡ suc m + 1 = noted-tag (suc m) (Some n) h in (omega (arith, e), λ z. omega (arith, z))

module _ (f : ℕ → ℕ) (start end i : ℕ) {place : ℕ} (whole : sweep f (end - start) start ≡ sweep f (end - i) i) (at : place ≡ i) where
  pub noted-hit : {n : ℕ} → i < end → Some n ≡ noted (f place) → Err (record { number = n; place = place + 1 }) ≡ passed_of (sweep f (end - start) start)
  unfolding passed_of
  noted-hit {n} b h =
      let e = noted-some (f place) n h in
      rw (whole ∙ sweep-hit f end i b (λ z. e.1 (ap f at ∙ z)), e.0, at)

  pub noted-next : i < end → None ≡ noted (f place) → sweep f (end - start) start ≡ sweep f (end - (i + 1)) (i + 1)
  noted-next b h = whole ∙ sweep-next f end i b (ap f (sym at) ∙ noted-none (f place) h)

-- whether a place passes, by whether its check answers a number
pub noted-apart : (m : ℕ) → is_some (noted m) ≡ true → eqb m 0 ≡ false
unfolding noted
noted-apart zero h = clash false h refl
noted-apart (suc m) h = ne_eqb (suc m) 0 (λ z. omega (arith, z))

pub noted-passes : (m : ℕ) → is_some (noted m) ≡ false → eqb m 0 ≡ true
unfolding noted
noted-passes zero h = refl
noted-passes (suc m) h = clash true refl h

pub answer-good : (o : Outcome Done) → is_ok (passed_of o) ≡ is_good o
unfolding passed_of is_good
answer-good (good d) = refl
answer-good (refused n p) = refl
