-- Which numbers a load gives: 1 to 12 and 17, and no other; so none gives 18. Assumes nothing.
use mathlib.Core.Path.{◌≡◌}
use mathlib.Core.Logic.{◌⊎◌, inl, inr, ⊎_elim}
use mathlib.Core.List.{List}
use Prim.Native.Nat.{ℕ, ◌≤◌}
use native.Mathlib.Omega.{arith}
use Rattle.refusals.specs.Numbers.{no_version, not_strips}
use Rattle.refusals.specs.Outcome.{Outcome, good, refused}
use Rattle.refusals.specs.Sweep.{Done}
use Rattle.refusals.proofs.GivenLaws.{Gives, gives-wider, gives-means, gives-check, gives_then}
use Rattle.plan.proofs.GivenLaws.{GivenByRules, rules-give}
use Rattle.manager.specs.declared.State.{State}
use Rattle.records.specs.Kinds.{Parts, no_parts}
use Rattle.records.specs.Gather.{header_length}
use Rattle.records.proofs.GatherLaws.{GivenByRecords, gather-gives}
use Rattle.wpl.specs.Header.{version_of, serial_of, header_of}
use Rattle.wpl.specs.Load.{records_of, parts_of, settle_of, rules_in, finish_of, body_of, load_of, loaded_of}
use Rattle.wpl.specs.Starts.{GivenByLoad}
use Rattle.wpl.proofs.HeaderLaws.{GivenByHeader, header-gives}

-- ---- the numbers of each part are among those of a load
header-wider : (number : ℕ) → GivenByHeader number → GivenByLoad number
header-wider number g = inl (omega (arith, g.0), omega (arith, g.1))

records-wider : (number : ℕ) → GivenByRecords number → GivenByLoad number
records-wider number g = inl (omega (arith, g.0), omega (arith, g.1))

rules-wider : (number : ℕ) → GivenByRules number → GivenByLoad number
rules-wider number = ⊎_elim (λ g. inl (omega (arith, g.0), omega (arith, g.1))) (λ e. inr e)

-- ---- from the last part to the whole
finish-gives : (serial : ℕ) (a : Parts) → Gives GivenByLoad (finish_of serial a)
unfolding finish_of rules_in
finish-gives serial a =
    gives_then GivenByLoad (rules_in a) _ (gives-wider GivenByRules GivenByLoad (rules_in a) rules-wider (rules-give _ _ _ _ _ _)) (λ (_ : Done). tt)

module _ (r : ℕ) (f : List ℕ) where
  body-gives : Gives GivenByLoad (body_of r f)
  unfolding body_of parts_of settle_of
  body-gives =
      let parts = gather-gives r (version_of f) (records_of f) header_length no_parts in
      gives_then GivenByLoad (parts_of r f) _ (gives-wider GivenByRecords GivenByLoad (parts_of r f) records-wider parts)
      (λ (a : Parts). gives_then GivenByLoad (settle_of (records_of f) a) _ tt (finish-gives (serial_of f)))

  load_gives : Gives GivenByLoad (load_of r f)
  unfolding load_of
  load_gives =
      let header = gives-wider GivenByHeader GivenByLoad (header_of f) header-wider (header-gives f) in
      gives-check GivenByLoad _ no_version _ (inl (omega arith, omega arith)) (gives_then GivenByLoad (header_of f) _ header (λ (_ : Done). body-gives))

  pub load-numbers : (number place : ℕ) → load_of r f ≡ refused number place → GivenByLoad number
  load-numbers number place e = gives-means GivenByLoad (load_of r f) number place load_gives e

-- ---- as the number that is answered, 0 where nothing is refused; 18 is none of them
these : (o : Outcome State) → Gives GivenByLoad o → ((loaded_of o).refusal ≤ 12) ⊎ ((loaded_of o).refusal ≡ 17)
unfolding loaded_of
these (good s) g = inl (omega arith)
these (refused n p) g = ⊎_elim (λ k. inl (omega (arith, k.1))) (λ k. inr k) g

module _ (r : ℕ) (f : List ℕ) where
  pub load-gives-these : ((loaded_of (load_of r f)).refusal ≤ 12) ⊎ ((loaded_of (load_of r f)).refusal ≡ 17)
  load-gives-these = these (load_of r f) (load_gives r f)

  pub load-not-strips : (loaded_of (load_of r f)).refusal ≡ not_strips → ⊥
  load-not-strips e = ⊎_elim (λ k. omega (arith, k, e)) (λ k. omega (arith, k, e)) load-gives-these
