-- A state that is loaded, and every one that a step gives from there, is one that words can keep; so the words after a load hold it, and a list of
-- calls on words that hold a state is a run of it. Assumes nothing.
use mathlib.Core.Path.{◌≡◌, refl, sym, ap, subst, ◌∙◌}
use mathlib.Core.Bool.{Bool, true, false}
use mathlib.Core.List.{List, [], ◌∷◌}
use mathlib.Core.Logic.{⊎_elim}
use Prim.Native.Nat.{ℕ, ◌≤◌, ◌<◌}
use native.Mathlib.Omega.{arith}
use lib.IntN.{ℤ}
use Rattle.conditions.specs.Choose.{choose}
use Rattle.conditions.proofs.ChooseLaws.{choose-true}
use Rattle.conditions.proofs.Bools.{by_bool, clash}
use Rattle.refusals.specs.Outcome.{Outcome, good, refused}
use Rattle.buffers.specs.Splice.{over}
use Rattle.units.specs.declared.Fix.{Fix}
use Rattle.plan.specs.declared.Mode.{Mode}
use Rattle.plan.specs.declared.Mode.TheVariants.{Lines, Fillets, Dubins}
use Rattle.plan.specs.declared.Plan.{Plan}
use Rattle.plan.specs.Limits.{most_radius}
use Rattle.plan.specs.Places.{Filled}
use Rattle.manager.specs.declared.State.{State}
use Rattle.manager.specs.declared.Stepped.{Stepped}
use Rattle.manager.specs.State.{on_last_leg, last_phase, empty_state, valid_of}
use Rattle.manager.specs.Step.{refuse_of, step_of}
use Rattle.manager.proofs.StateLaws.{valid-means, index-most}
use Rattle.manager.proofs.StepLaws.{step-14, step-plan, step-valid}
use Rattle.c_state.specs.Stored.{state_words, Storable}
use Rattle.c_state.proofs.StoredLaws.{empty-words, taken_back}
use Rattle.wpl.specs.Load.{load_of, loaded_of}
use Rattle.wpl.proofs.LoadLaws.{load-filled}
use Rattle.wpl.proofs.StartLaws.{load-parts, load-starts, load-valid}
use Rattle.flight.specs.Run.{run}
use Rattle.flight.specs.Flight.{last_of}
use Rattle.autopilot.specs.Calls.{load_state, fix_words, fix_numbers, fix_number, fix_next}
use Rattle.autopilot.specs.Held.{Hold, LoadHolds}
use Rattle.autopilot.specs.CallList.{Call, fix, write, fixed, written, reply_to, words_after, replies, words_in_the_end, fixes_of, replies_of, CallsRun}
use Rattle.autopilot.proofs.CallLaws.{from-state}

-- ---- a loaded state: its radius and count are in their ranges, and its serial is a word's
module _ (r : ℕ) (f : List ℕ) (s : State) (h : load_of r f ≡ good s) where
  small : (load-parts r f s h).0.radius ≤ most_radius
  small = ⊎_elim (λ z. omega arith) (λ k. k.1) (load-parts r f s h).1.0.radius

  pub load-storable : s.plan.head.serial < 4294967296 → Storable s
  load-storable n =
      record {
        serial = n;
        radius = let e = ap (λ (t : State). t.plan.head.radius) (load-starts r f s h) in omega (arith, e, small);
        count = omega (arith, (valid-means s (load-valid r f s h)).stands.most);
        index = let e = ap (λ (t : State). t.progress.index) (load-starts r f s h) in omega (arith, e);
        phase = let e = ap (λ (t : State). t.progress.phase) (load-starts r f s h) in omega (arith, e);
        filled = load-filled r f s h;
      }

empty-storable : Storable empty_state
empty-storable =
    record {
      serial = omega arith;
      radius = omega arith;
      count = omega arith;
      index = omega arith;
      phase = omega arith;
      filled = record { north = refl; east = refl; down = refl; course = refl };
    }

-- ---- the words after a load
module _ (s : State) (ws : List ℤ) (kept : Storable s) where
  pub hold-over : Hold (over (state_words s) ws) s
  hold-over = record { taken = taken_back s ws kept; kept = kept }

module _ (b : Bool) (r : ℕ) (f : List ℕ) (before after : List ℤ) where
  pub load-holds-none : b ≡ false → LoadHolds b r f before after
  load-holds-none u = record { loaded = λ t. clash b t u; empty = λ t. clash b t u }

  module _ (n : ℕ) (word : n < 4294967296) (e : n ≡ (loaded_of (load_of r f)).state.plan.head.serial) (w : after ≡ load_state b (loaded_of (load_of r f)) before) where
    put : b ≡ true → (o : Outcome State) → load_of r f ≡ o → after ≡ over (state_words (loaded_of o).state) before
    unfolding load_state
    put t o k = w ∙ choose-true _ _ _ t ∙ ap (λ (q : Outcome State). over (state_words (loaded_of q).state) before) k

    pub load-holds : LoadHolds b r f before after
    unfolding loaded_of
    load-holds =
        record {
          loaded =
              λ t s k.
              let x = ap (λ (q : Outcome State). (loaded_of q).state.plan.head.serial) k in
              subst (λ (ws : List ℤ). Hold ws s) (sym (put t (good s) k)) (hold-over s before (load-storable r f s k (omega (arith, word, e, x))));
          empty =
              λ t number place k.
              let p = put t (refused number place) k in
              (p ∙ ap (λ (new : List ℤ). over new before) empty-words, subst (λ (ws : List ℤ). Hold ws empty_state) (sym p) (hold-over empty_state before empty-storable));
        }

-- ---- a step keeps the plan, and its index and phase stay small
phase-most : (m : Mode) (n i : ℕ) → last_phase m n i ≤ 5
unfolding last_phase choose
phase-most Lines n i = omega arith
phase-most Fillets n i = by_bool (on_last_leg n i) (λ t. rw t (omega arith)) (λ t. rw t (omega arith))
phase-most Dubins n i = omega arith

module _ (s : State) (serial : ℕ) (position : Fix) (kept : Storable s) where
  abbrev after : State
  after = (step_of s serial position).state

  moved : valid_of s ≡ true → Storable after
  moved t =
      let v = valid-means after (step-valid s serial position t) in
      let p = step-plan s serial position in
      record {
        serial = subst (λ (q : Plan). q.head.serial < 4294967296) (sym p) kept.serial;
        radius = subst (λ (q : Plan). q.head.radius < 65536) (sym p) kept.radius;
        count = subst (λ (q : Plan). q.head.count < 4294967296) (sym p) kept.count;
        index = omega (arith, index-most after v);
        phase = omega (arith, v.last, phase-most after.plan.head.mode after.plan.head.count after.progress.index);
        filled = subst Filled (sym p) kept.filled;
      }

  stayed : valid_of s ≡ false → Storable after
  unfolding refuse_of
  stayed u = subst Storable (sym (ap (λ (x : Stepped). x.state) (step-14 s serial position u))) kept

  pub step-storable : Storable after
  step-storable = by_bool (valid_of s) moved stayed

-- ---- a list of calls
module _ (ws : List ℤ) (s : State) (h : Hold ws s) (serial : ℕ) (position : Fix) where
  pub hold-next : Hold (words_after ws (fix serial position)) (step_of s serial position).state
  unfolding words_after fix_next
  hold-next =
      subst (λ (o : Outcome State). Hold (fix_next o ws serial position) (step_of s serial position).state) (sym h.taken)
      (hold-over (step_of s serial position).state ws (step-storable s serial position h.kept))

replies-run : (ws : List ℤ) (s : State) → Hold ws s → (cs : List Call) → replies ws cs ≡ replies_of s cs (run s (fixes_of cs))
unfolding words_after replies replies_of fixes_of run reply_to fix_number fix_words fix_numbers
replies-run ws s h [] = refl
replies-run ws s h (fix serial position ∷ cs) =
    λ t.
    fixed (fix_number (h.taken t) serial position) (fix_words (h.taken t) ws serial position) (fix_numbers (h.taken t) serial position)
    ∷ replies-run (words_after ws (fix serial position)) (step_of s serial position).state (hold-next ws s h serial position) cs t
replies-run ws s h (write version room ∷ cs) = λ t. written (sym (from-state ws version room s h.taken) t) ∷ replies-run ws s h cs t

words-run : (ws : List ℤ) (s : State) → Hold ws s → (cs : List Call) → Hold (words_in_the_end ws cs) (last_of s (run s (fixes_of cs)))
unfolding words_after words_in_the_end fixes_of run last_of
words-run ws s h [] = h
words-run ws s h (fix serial position ∷ cs) =
    words-run (words_after ws (fix serial position)) (step_of s serial position).state (hold-next ws s h serial position) cs
words-run ws s h (write version room ∷ cs) = words-run ws s h cs

pub calls-run : CallsRun
calls-run = record { replied = replies-run; ended = words-run }
