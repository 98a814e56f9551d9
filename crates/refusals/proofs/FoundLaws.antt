-- What a sweep that refuses has found: a place that does not pass, its number, and that no place before it fails. Assumes nothing.
use mathlib.Core.Path.{◌≡◌, sym, ap, ◌∙◌, subst}
use Prim.Native.Nat.{ℕ, zero, suc, ◌+◌, ◌-◌, ◌≤◌, ◌<◌}
use native.Mathlib.Omega.{arith}
use lib.Dec.{eqb}
use borrow.Author.Tests.{eqb-true, eqb-false}
use Rattle.conditions.proofs.ChooseLaws.{choose-true, choose-false}
use Rattle.conditions.proofs.Bools.{by_bool}
use Rattle.refusals.specs.Outcome.{Outcome, refused, refusal_of}
use Rattle.refusals.specs.Sweep.{Done, sweep}
use Rattle.refusals.proofs.OutcomeLaws.{never-good}

pub record Found (f : ℕ → ℕ) (k i number place : ℕ) : Type 0 where
  pub low : i < place
  pub high : place ≤ i + k
  pub value : f (place - 1) ≡ number
  pub fails : number ≡ 0 → ⊥
  pub before : (m : ℕ) → i ≤ m → m + 1 < place → f m ≡ 0

-- two refusals that are equal
module _ {n p m q : ℕ} (e : ◌≡◌ {A = Outcome Done} (refused n p) (refused m q)) where
  same_number : n ≡ m
  unfolding refusal_of
  same_number = ap (λ (o : Outcome Done). (refusal_of o).number) e

  same_place : p ≡ q
  unfolding refusal_of
  same_place = ap (λ (o : Outcome Done). (refusal_of o).place) e

pub found_of : (f : ℕ → ℕ) (k i number place : ℕ) → sweep f k i ≡ refused number place → Found f k i number place
unfolding sweep
found_of f zero i number place h = never-good (sym h)
found_of f (suc k) i number place h =
    by_bool (eqb (f i) 0)
    (λ t.
    let z = eqb-true (f i) 0 t in
    let r = found_of f k (i + 1) number place (sym (choose-true (eqb (f i) 0) (sweep f k (i + 1)) (refused (f i) (i + 1)) t) ∙ h) in
    record {
      low = omega (arith, r.low);
      high = omega (arith, r.high);
      value = r.value;
      fails = r.fails;
      before = λ m a b.
          by_bool (eqb i m)
          (λ u. subst (λ (j : ℕ). f j ≡ 0) (eqb-true i m u) z)
          (λ u. let n : i ≡ m → ⊥ = eqb-false i m u in r.before m (omega arith) b);
    })
    (λ t.
    let e = sym (choose-false (eqb (f i) 0) (sweep f k (i + 1)) (refused (f i) (i + 1)) t) ∙ h in
    let p : i + 1 ≡ place = same_place e in
    let q : place - 1 ≡ i = omega arith in
    record {
      low = omega arith;
      high = omega arith;
      value = ap f q ∙ same_number e;
      fails = λ z. eqb-false (f i) 0 t (same_number e ∙ z);
      before = λ m a b. absurd (omega arith);
    })
