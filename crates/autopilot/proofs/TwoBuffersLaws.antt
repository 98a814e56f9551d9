-- Two buffers loaded from one file by an older reader and by the newest, from `demand` (flight/proofs/DemandLaws). Assumes nothing.
use mathlib.Core.Path.{◌≡◌, refl, sym, ap, subst, ◌∙◌}
use mathlib.Core.Bool.{true}
use mathlib.Core.List.{List, [], ◌++◌}
use Prim.Native.Nat.{ℕ, ◌<◌}
use native.Mathlib.Omega.{arith}
use lib.IntN.{ℤ}
use lib.ListN.{length, drop, drop_of_length-le}
use Rattle.conditions.proofs.ChooseLaws.{choose-true}
use Rattle.refusals.specs.Outcome.{Outcome, good}
use Rattle.manager.specs.declared.State.{State}
use Rattle.c_state.specs.Stored.{state_length, state_words}
use Rattle.c_state.proofs.StoredLaws.{words-length}
use Rattle.records.specs.Numbers.{u16_at, u32_at}
use Rattle.wpl.specs.Header.{serial_of}
use Rattle.wpl.specs.Load.{load_of, loaded_of}
use Rattle.wpl.proofs.LoadLaws.{loaded-good, load-filled}
use Rattle.wpl.proofs.StartLaws.{load-serial}
use Rattle.flight.specs.Run.{run}
use Rattle.flight.specs.Flight.{last_of}
use Rattle.flight.proofs.OlderLaws.{same-state}
use Rattle.autopilot.specs.Calls.{load_result, load_state}
use Rattle.autopilot.specs.Held.{Hold}
use Rattle.autopilot.specs.CallList.{replies, words_in_the_end, fixes_of}
use Rattle.autopilot.specs.TwoBuffers.{loaded_by, NotRefused, AreBytes, AlikeBuffers, BuffersFly}
use Rattle.autopilot.proofs.HeldLaws.{load-holds, calls-run}

-- ---- the words of a loaded state fill a buffer of their number, since the plan that a file gives has whole arrays
loaded-full : (r : ℕ) (f : List ℕ) (s : State) → load_of r f ≡ good s → length (state_words s) ≡ state_length
loaded-full r f s h = words-length s (load-filled r f s h)

whole-over : (new a : List ℤ) → length new ≡ state_length → length a ≡ state_length → drop (length new) a ≡ []
whole-over new a h k = drop_of_length-le a {i = length new} (omega arith)

-- ---- both loads give one state
module _ (r : ℕ) (f : List ℕ) where
  state-of : NotRefused r f → load_of r f ≡ good (loaded_of (load_of r f)).state
  unfolding load_result
  state-of n = loaded-good r f (loaded_of (load_of r f)) refl (sym (choose-true true _ _ refl) ∙ n)

  words_are : (a : List ℤ) → NotRefused r f → length a ≡ state_length → loaded_by r f a ≡ state_words (loaded_of (load_of r f)).state ++ []
  unfolding load_state
  words_are a n l =
      let s = (loaded_of (load_of r f)).state in
      choose-true true _ _ refl ∙ ap (λ (rest : List ℤ). state_words s ++ rest) (whole-over (state_words s) a (loaded-full r f s (state-of n)) l)

-- four bytes make a word
serial-word : (f : List ℕ) → AreBytes f → serial_of f < 4294967296
unfolding serial_of u32_at u16_at
serial-word f h = omega (arith, h 5, h 6, h 7, h 8)

loaded-held : (f : List ℕ) → AreBytes f → (b : List ℤ) (s : State) → load_of 3 f ≡ good s → Hold (loaded_by 3 f b) s
unfolding loaded_of
loaded-held f bytes b s h =
    let e = ap (λ (o : Outcome State). (loaded_of o).state.plan.head.serial) h in
    (load-holds true 3 f b (loaded_by 3 f b) (serial_of f) (serial-word f bytes) (sym (load-serial 3 f s h) ∙ sym e) refl).loaded refl s h

pub alike-buffers : AlikeBuffers
alike-buffers r f a b older la lb n m =
    let e : loaded_by r f a ≡ loaded_by 3 f b =
    words_are r f a n la
    ∙ ap (λ (s : State). state_words s ++ []) (same-state f _ (state-of 3 f m) r older _ (state-of r f n))
    ∙ sym (words_are 3 f b m lb) in
    record {
      held = λ bytes s h. loaded-held f bytes b s h;
      equal = e;
      replied = λ cs. ap (λ (ws : List ℤ). replies ws cs) e;
      stay = λ cs. ap (λ (ws : List ℤ). words_in_the_end ws cs) e;
    }

pub buffers-fly : BuffersFly
buffers-fly r f a b two bytes s h =
    let three = two.held bytes s h in
    record {
      held = subst (λ (ws : List ℤ). Hold ws s) (sym two.equal) three;
      replied = λ cs. two.replied cs ∙ calls-run.replied (loaded_by 3 f b) s three cs;
      ended = λ cs. subst (λ (ws : List ℤ). Hold ws (last_of s (run s (fixes_of cs)))) (sym (two.stay cs)) (calls-run.ended (loaded_by 3 f b) s three cs);
    }
