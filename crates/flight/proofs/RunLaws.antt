-- Runs: `run` is a chain and the only one, equal states give alike runs, a valid state answers every fix that it should, and every command is
-- plain. Assumes nothing.
use mathlib.Core.Path.{◌≡◌, refl, sym, ap, subst, ◌∙◌}
use mathlib.Core.Bool.{true}
use mathlib.Core.Logic.{◌↔◌}
use mathlib.Core.List.{List, [], ◌∷◌}
use Prim.Native.Nat.{ℕ}
use Rattle.plan.specs.declared.Plan.{Plan}
use Rattle.manager.specs.declared.State.{State}
use Rattle.manager.specs.declared.Stepped.{Stepped}
use Rattle.manager.specs.State.{valid_of}
use Rattle.manager.specs.Flies.{Flies}
use Rattle.manager.proofs.FliesLaws.{flies}
use Rattle.flight.specs.Run.{Named, step_by, run, Chain, none, next, Alike, AlikeRuns, ended, onward, Answered, PlainRun}

-- ---- the only chain
run-chains : (s : State) (xs : List Named) → Chain s xs (run s xs)
unfolding run
run-chains s [] = none s
run-chains s (x ∷ xs) = next s x xs (run (step_by s x).state xs) (run-chains (step_by s x).state xs)

chain_runs : {s : State} {xs : List Named} {os : List Stepped} → Chain s xs os → os ≡ run s xs
unfolding run
chain_runs (none s) = refl
chain_runs (next s x xs os rest) = ap (λ (l : List Stepped). step_by s x ∷ l) (chain_runs rest)

pub only-chain : (s : State) (xs : List Named) (os : List Stepped) → Chain s xs os ↔ (os ≡ run s xs)
only-chain s xs os = (λ c. chain_runs c, λ e. subst (λ (l : List Stepped). Chain s xs l) (sym e) (run-chains s xs))

-- ---- alike runs
alike_self : (a : Stepped) → Alike a a
alike_self a =
    record {
      refusal = refl;
      place = refl;
      command = refl;
      heading = refl;
      index = refl;
      phase = refl;
      finished = refl;
      state = refl;
    }

runs-self : (os : List Stepped) → AlikeRuns os os
runs-self [] = ended
runs-self (a ∷ os) = onward a a os os (alike_self a) (runs-self os)

pub alike_runs : (s t : State) → s ≡ t → (xs : List Named) → AlikeRuns (run s xs) (run t xs)
alike_runs s t e xs = subst (λ (u : State). AlikeRuns (run s xs) (run u xs)) e (runs-self (run s xs))

-- ---- each step's laws along the run
flies-by : (s : State) (x : Named) → Flies s x.serial x.fix (step_by s x)
flies-by s x = flies s x.serial x.fix

pub answered-run : (s : State) (n : ℕ) → valid_of s ≡ true → s.plan.head.serial ≡ n → (xs : List Named) → Answered n xs (run s xs)
unfolding run
answered-run s n v e [] = tt
answered-run s n v e (x ∷ xs) =
    let f = flies-by s x in
    (λ k p at. f.accepted v (k ∙ sym e) p at, answered-run (step_by s x).state n (f.onward v) (ap (λ (p : Plan). p.head.serial) f.keeps ∙ e) xs)

pub plain-run : (s : State) (xs : List Named) → PlainRun (run s xs)
unfolding run
plain-run s [] = tt
plain-run s (x ∷ xs) = ((flies-by s x).plain, plain-run (step_by s x).state xs)
