-- A write, check by check, and what is known where none of them refused. Assumes nothing.
use mathlib.Core.Path.{◌≡◌, refl, ap, ◌∙◌}
use mathlib.Core.Bool.{true, false}
use Prim.Native.Nat.{ℕ, ◌≤◌, ◌<◌}
use native.Mathlib.Omega.{arith}
use lib.Dec.{eqb, leb}
use lib.ListN.{length}
use borrow.Author.Tests.{leb-true, le-leb, lt-leb}
use Rattle.conditions.specs.Between.{between}
use Rattle.conditions.proofs.BetweenLaws.{between-test, between-most}
use Rattle.refusals.specs.declared.Refusal.{Refusal}
use Rattle.refusals.specs.Numbers.{no_version, too_new, no_state, no_room}
use Rattle.std.proofs.Common.{Result, Ok, Err}
use Rattle.refusals.specs.Outcome.{good, refused, check, refusal_of, is_good}
use Rattle.refusals.specs.Sweep.{done, passed_of}
use Rattle.refusals.proofs.OutcomeLaws.{Proper, proper-good, proper-check, check-true, check-false, check-first, check-rest}
use Rattle.plan.specs.declared.Mode.{Mode}
use Rattle.plan.specs.declared.Mode.TheVariants.{Lines, Fillets, Dubins}
use Rattle.plan.specs.Limits.{most_points}
use Rattle.plan.specs.Long.{Long}
use Rattle.plan.proofs.StandLaws.{stands-tests, places-mean}
use Rattle.manager.specs.declared.State.{State}
use Rattle.manager.specs.State.{valid_of}
use Rattle.manager.proofs.StateLaws.{valid-stands, valid-means}
use Rattle.records.specs.Versions.{newest}
use Rattle.writer.specs.File.{file_of, Writable}
use Rattle.wpl.specs.Write.{carried_since, write_of}
use Rattle.wpl.proofs.LoadLaws.{passed-is-good, passed-refused}

-- no version before the first carries a plan
pub since-first : (mode : Mode) → 1 ≤ carried_since mode
unfolding carried_since
since-first Lines = omega arith
since-first Fillets = omega arith
since-first Dubins = omega arith

-- what is known where a write succeeds
pub record Passes (s : State) (version room : ℕ) : Type 0 where
  pub valid : valid_of s ≡ true
  pub newer : version ≤ newest
  pub carried : carried_since s.plan.head.mode ≤ version
  pub roomy : length (file_of version s.plan) ≤ room

module _ (s : State) (version room : ℕ) where
  pub not_valid : valid_of s ≡ false → write_of s version room ≡ refused no_state 0
  unfolding write_of
  not_valid v = check-false _ no_state _ v

  module _ (v : valid_of s ≡ true) where
    pub version-wrong : between 1 newest version ≡ false → write_of s version room ≡ refused no_version 0
    unfolding write_of
    version-wrong t = check-true _ no_state _ v ∙ check-false _ no_version _ t

    module _ (t : between 1 newest version ≡ true) where
      pub not_carried : version < carried_since s.plan.head.mode → write_of s version room ≡ refused too_new 0
      unfolding write_of
      not_carried h = check-true _ no_state _ v ∙ check-true _ no_version _ t ∙ check-false _ too_new _ (lt-leb (carried_since s.plan.head.mode) version h)

      last : carried_since s.plan.head.mode ≤ version
          → write_of s version room ≡ check (leb (length (file_of version s.plan)) room) no_room (good (file_of version s.plan))
      unfolding write_of
      last c = check-true _ no_state _ v ∙ check-true _ no_version _ t ∙ check-true _ too_new _ (le-leb (carried_since s.plan.head.mode) version c)

      pub no_room_lem : carried_since s.plan.head.mode ≤ version → room < length (file_of version s.plan) → write_of s version room ≡ refused no_room 0
      no_room_lem c h = last c ∙ check-false _ no_room _ (lt-leb (length (file_of version s.plan)) room h)

      pub passing : carried_since s.plan.head.mode ≤ version → length (file_of version s.plan) ≤ room → Passes s version room
      passing c h = record { valid = v; newer = between-most 1 newest version t; carried = c; roomy = h }

  pub write-passes : Passes s version room → write_of s version room ≡ good (file_of version s.plan)
  write-passes p =
      last p.valid (between-test 1 newest version (omega (arith, since-first s.plan.head.mode, p.carried)) p.newer) p.carried
      ∙ check-true _ no_room _ (le-leb (length (file_of version s.plan)) room p.roomy)

  -- and back
  pub good-passes : is_good (write_of s version room) ≡ true → Passes s version room
  unfolding write_of
  good-passes g =
      let a = check-rest _ no_state _ g in
      let b = check-rest _ no_version _ a in
      let c = check-rest _ too_new _ b in
      record {
        valid = check-first _ no_state _ g;
        newer = between-most 1 newest version (check-first _ no_version _ a);
        carried = leb-true (carried_since s.plan.head.mode) version (check-first _ too_new _ b);
        roomy = leb-true (length (file_of version s.plan)) room (check-first _ no_room _ c);
      }

  -- as the code answers it
  pub failed-write : (n : ℕ) (x : Refusal) → x ≡ refusal_of (check false n (good done)) → write_of s version room ≡ refused n 0
      → ◌≡◌ {A = Result (Unit {0}) Refusal} (Err x) (passed_of (write_of s version room))
  unfolding refusal_of check passed_of
  failed-write n x k h = rw (k, h) refl

  pub write-refused : (x : Refusal) → passed_of (write_of s version room) ≡ Err x → write_of s version room ≡ refused x.number x.place
  write-refused x e = passed-refused (write_of s version room) x e

  pub none-refused : (u : Unit {0}) → passed_of (write_of s version room) ≡ Ok u → Passes s version room
  none-refused u e = good-passes (passed-is-good (write_of s version room) u e)

pub count_most : (s : State) → valid_of s ≡ true → s.plan.head.count ≤ most_points
count_most s v = (valid-means s v).stands.most

-- what the writer asks of the plan of a state that 14 does not refuse
pub writable : (s : State) → Long s.plan.norths s.plan.easts s.plan.downs s.plan.courses → valid_of s ≡ true → Writable s.plan
writable s l v =
    let t = stands-tests s.plan (valid-stands s v) in
    record { long = l; most = t.most; aimed = (places-mean s.plan t.places).1 }
