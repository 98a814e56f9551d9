-- The places of the strips of a sound Dubins plan with an even number of points are there. Assumes nothing.
use mathlib.Core.Path.{◌≡◌, refl, subst}
use mathlib.Core.Bool.{true, false}
use Prim.Native.Nat.{ℕ, ◌-◌, ◌%◌}
use native.Mathlib.Omega.{arith}
use borrow.Author.Tests.{eqb-true}
use Rattle.conditions.proofs.Bools.{clash, both_first, both-second}
use Rattle.plan.specs.declared.Mode.{Mode}
use Rattle.plan.specs.declared.Mode.TheVariants.{Lines, Fillets, Dubins}
use Rattle.plan.specs.Long.{Long}
use Rattle.plan.specs.Stands.{ByMode}
use Rattle.plan.proofs.StandLaws.{placed-of, aiming_of}
use Rattle.manager.specs.declared.State.{State}
use Rattle.manager.specs.State.{Valid}
use Rattle.strips.specs.Strips.{first_place, last_place}
use Rattle.strips.specs.Check.{is_dubins, paired_of, StripsThere}

is-dubins : (m : Mode) → is_dubins m ≡ true → m ≡ Dubins
unfolding is_dubins
is-dubins Lines h = clash false h refl
is-dubins Fillets h = clash false h refl
is-dubins Dubins h = refl

module _ (m : Mode) (n : ℕ) (h : paired_of m n ≡ true) where
  pub paired-mode : m ≡ Dubins
  unfolding paired_of
  paired-mode = is-dubins m (both_first _ _ h)

  pub paired-even : n % 2 ≡ 0
  unfolding paired_of
  paired-even = eqb-true (n % 2) 0 (both-second _ _ h)

module _ (s : State) (v : Valid s) (l : Long s.plan.norths s.plan.easts s.plan.downs s.plan.courses) where
  pub strips-there : paired_of s.plan.head.mode s.plan.head.count ≡ true → StripsThere s.plan
  strips-there p j a b =
      let m = v.stands.most in
      let d : ByMode Dubins s.plan = subst (λ (x : Mode). ByMode x s.plan) (paired-mode _ _ p) v.stands.mode in
      let placed = placed-of s.plan l v.stands.ranged in
      let aiming = aiming_of s.plan l d.1.0 in
      record {
        least = a;
        most = omega (arith, a, b, m);
        first = placed (first_place j) (omega (arith, a, b, m));
        last = placed (last_place j) (omega (arith, a, b, m));
        leave = aiming (first_place j) (omega (arith, a, b, m));
        arrive = aiming (last_place j) (omega (arith, a, b, m));
        before = λ _. aiming (first_place (j - 1)) (omega (arith, a, b, m));
      }
