-- A valid state flies: `Flies` holds of every state and fix. Assumes nothing.
use mathlib.Core.Path.{◌≡◌, refl, sym, subst}
use mathlib.Core.Bool.{Bool, true, false}
use Prim.Native.Nat.{ℕ, ◌-◌}
use native.Mathlib.Omega.{arith}
use lib.Dec.{eqb}
use borrow.Author.Tests.{eq-eqb}
use Rattle.std.specs.Prelude.{Option, Some, None}
use Rattle.conditions.specs.Choose.{choose}
use Rattle.conditions.proofs.Bools.{by_bool}
use Rattle.plane.specs.declared.Point.{Point}
use Rattle.plane.specs.Area.{InArea}
use Rattle.units.specs.declared.Fix.{Fix}
use Rattle.units.specs.Position.{position_of}
use Rattle.std.proofs.Common.{Option}
use Rattle.dubins.specs.declared.Path.{Path}
use Rattle.guidance.specs.declared.Guidance.{Guidance}
use Rattle.guidance.specs.Commands.{PlainCommand, HasCommand, IsCommand}
use Rattle.guidance.specs.declared.View.TheVariants.{Level, InSpace}
use Rattle.guidance.proofs.CommandLaws.{line-guide-command, last-leg-command, fillet-command, dubins-command}
use Rattle.plan.specs.declared.Mode.{Mode}
use Rattle.plan.specs.declared.Mode.TheVariants.{Lines, Fillets, Dubins}
use Rattle.plan.specs.Places.{plan_point}
use Rattle.plan.specs.Stands.{ByMode}
use Rattle.manager.specs.declared.State.{State}
use Rattle.manager.specs.declared.Stepped.{Stepped}
use Rattle.manager.specs.State.{on_last_leg, valid_of, Valid}
use Rattle.manager.specs.Step.{ends_of, path_guide, guide_of, guide_here, refuse_of, moved_of, located_step, step_of}
use Rattle.manager.specs.Flies.{Flies}
use Rattle.manager.proofs.StateLaws.{valid-means, index-most, fillets-corner, valid-path}
use Rattle.manager.proofs.StepLaws.{step-14, step-15, step-located, step-moved, step-plan, step-valid}

-- ---- the command of a valid state
either : (t : Bool) (g h : Guidance) → (t ≡ true → IsCommand g.command) → (t ≡ false → IsCommand h.command) → IsCommand (choose t g h).command
unfolding choose
either true g h p q = p refl
either false g h p q = q refl

module _ (s : State) (v : Valid s) (p : Point) where
  abbrev i : ℕ
  i = s.progress.index

  start-in : InArea (plan_point s.plan (i - 2))
  start-in = v.stands.ranged (i - 2) (omega (arith, v.least, index-most s v))

  end-in : InArea (plan_point s.plan (i - 1))
  end-in = v.stands.ranged (i - 1) (omega (arith, v.least, index-most s v))

  command-by : (m : Mode) → s.plan.head.mode ≡ m → IsCommand (guide_of m s.plan i s.progress.phase p).command
  unfolding guide_of path_guide
  command-by Lines e =
      either (on_last_leg s.plan.head.count i) _ _ (λ t. last-leg-command _ _ start-in end-in InSpace p) (λ t. line-guide-command _ _ start-in end-in _ p)
  command-by Fillets e =
      either (on_last_leg s.plan.head.count i) _ _ (λ t. last-leg-command _ _ start-in end-in Level p)
      (λ t.
      let corner = fillets-corner s v e t in
      fillet-command _ _ _ _ _ p start-in end-in corner.0 corner.1)
  command-by Dubins e =
      let found = valid-path s v e in
      let h : ByMode Dubins s.plan = subst (λ (m : Mode). ByMode m s.plan) e v.stands.mode in
      subst (λ (f : Option Path). IsCommand (path_guide (ends_of s.plan i) s.progress.phase p f).command) (sym found.1)
      (dubins-command (ends_of s.plan i) start-in end-in h.0 found.0 s.progress.phase p found.1)

  guided : IsCommand (guide_here s p).command
  guided = command-by s.plan.head.mode refl

-- ---- the answer to a fix
refuse-plain : (s : State) (number : ℕ) → PlainCommand (refuse_of s number).answer.command
unfolding refuse_of
refuse-plain s number = tt

located-plain : (s : State) → Valid s → (position : Option Point) → PlainCommand (located_step s position).answer.command
unfolding located_step moved_of
located-plain s v (Some p) = (guided s v p).plain
located-plain s v None = refuse-plain s 13

module _ (s : State) (serial : ℕ) (fix : Fix) where
  abbrev Answers : Stepped → Type 0
  Answers r = (r.answer.refusal ≡ 0) × HasCommand r.answer.command

  moved-answers : Valid s → (p : Point) → Answers (moved_of s p)
  unfolding moved_of
  moved-answers v p = (refl, (guided s v p).there)

  accepted : valid_of s ≡ true → serial ≡ s.plan.head.serial → (p : Point) → position_of fix ≡ Some p → Answers (step_of s serial fix)
  accepted h e p at = subst Answers (sym (step-moved s serial fix h (eq-eqb serial s.plan.head.serial e) p at)) (moved-answers (valid-means s h) p)

  plain : PlainCommand (step_of s serial fix).answer.command
  plain =
      by_bool (valid_of s)
      (λ h.
      by_bool (eqb serial s.plan.head.serial) (λ k. rw (step-located s serial fix h k) (located-plain s (valid-means s h) (position_of fix)))
      (λ k. rw (step-15 s serial fix h k) (refuse-plain s 15)))
      (λ h. rw (step-14 s serial fix h) (refuse-plain s 14))

  pub flies : Flies s serial fix (step_of s serial fix)
  flies =
      record {
        accepted = accepted;
        keeps = step-plan s serial fix;
        onward = step-valid s serial fix;
        plain = plain;
      }
