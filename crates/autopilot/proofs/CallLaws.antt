-- A load and a write by their tests: lent slices that are too short, words that hold no state, and the rest. Assumes nothing.
use mathlib.Core.Path.{◌≡◌, refl, sym, ap, ◌∙◌}
use mathlib.Core.Bool.{Bool, true, false}
use mathlib.Core.List.{List, [], ◌∷◌, ◌++◌}
use Prim.Native.Nat.{ℕ, ◌-◌, ◌≤◌}
use lib.IntN.{ℤ}
use lib.ListN.{length, take, drop, length-drop}
use lib.Seq.{length-take-le}
use native.Mathlib.Omega.{arith}
use Rattle.conditions.proofs.ChooseLaws.{choose-true, choose-false}
use Rattle.refusals.specs.Numbers.{misfit, no_state}
use Rattle.refusals.specs.Outcome.{Outcome, good, refused}
use Rattle.refusals.proofs.OutcomeLaws.{then-good, then-stops}
use Rattle.buffers.specs.Splice.{over}
use Rattle.plan.specs.Places.{plan_numbers, numbers_of, Filled}
use Rattle.manager.specs.declared.State.{State}
use Rattle.c_answer.specs.Words.{word_of}
use Rattle.c_state.specs.Stored.{norths_place, state_length, head_words, progress_words, taken_of}
use Rattle.c_state.proofs.StoredLaws.{whole-put}
use Rattle.wpl.specs.declared.Loaded.{Loaded}
use Rattle.wpl.specs.declared.Entered.{Entered}
use Rattle.wpl.specs.declared.Written.{Written}
use Rattle.wpl.specs.Load.{entered_of}
use Rattle.wpl.specs.Write.{write_of, written_of, buffer_of}
use Rattle.autopilot.specs.Calls.{load_result, load_state, load_answer, write_from, write_words, write_result, write_file, write_answer}
use Rattle.autopilot.proofs.LeavesLaws.{Leaves, leaves-unfit, leaves-fit}

-- ---- parts of the words: all numbers, and the state of all kinds of them
module _ (ws : List ℤ) (long : state_length ≤ length ws) where
  pub all-lent : length (take (state_length - norths_place) (drop norths_place ws)) ≡ plan_numbers
  all-lent = length-take-le (state_length - norths_place) (drop norths_place ws) (simp length-drop (omega arith))

-- ---- load
module _ (b : Bool) (x : Loaded) (state : List ℤ) (answer : List ℕ) where
  pub record LoadLeaves (n : ℕ) (ws : List ℤ) (an : List ℕ) : Type 0 where
    pub result : n ≡ load_result b x
    pub words : ws ≡ load_state b x state
    pub answered : an ≡ load_answer b x answer

  pub load-unfit : b ≡ false → LoadLeaves misfit state answer
  unfolding load_result load_state load_answer
  load-unfit h = record { result = sym (choose-false _ _ _ h); words = sym (choose-false _ _ _ h); answered = sym (choose-false _ _ _ h) }

  -- the blocks were filled, and then the words before them
  pub load-fit : b ≡ true → (back now : List ℤ) (an : List ℕ) {y : Entered} → Filled x.state.plan → norths_place ≤ length state → y ≡ entered_of x
      → back ≡ numbers_of x.state.plan
      → now ≡ over (head_words y.head ++ progress_words y.progress) (take norths_place state ++ (back ++ drop (state_length - norths_place) (drop norths_place state)))
      → an ≡ over (y.refusal ∷ word_of y.place ∷ []) answer
      → LoadLeaves y.refusal now an
  unfolding load_result load_state load_answer
  load-fit h back now an f l e n p q =
      record {
        result = ap (λ (z : Entered). z.refusal) e ∙ sym (choose-true _ _ _ h);
        words =
            whole-put x.state f state l n
            (p
            ∙ ap
            (λ (z : Entered).
            over (head_words z.head ++ progress_words z.progress) (take norths_place state ++ (back ++ drop (state_length - norths_place) (drop norths_place state))))
            e)
            ∙ sym (choose-true _ _ _ h);
        answered = q ∙ ap (λ (z : Entered). over (z.refusal ∷ word_of z.place ∷ []) answer) e ∙ sym (choose-true _ _ _ h);
      }

-- ---- write
left : (o : Outcome (List ℕ)) → ((written_of o).refusal ≡ 0 → ⊥) → (file : List ℕ) → buffer_of o file ≡ file
unfolding written_of buffer_of
left (good bytes) h file = absurd (h refl)
left (refused number place) h file = refl

module _ (b : Bool) (o : Outcome (List ℕ)) (file answer : List ℕ) where
  abbrev WriteLeaves : ℕ → List ℕ → List ℕ → Type 0
  WriteLeaves = Leaves (write_result b o) (write_file b o file) (write_answer b o answer) file

  pub write-unfit : b ≡ false → WriteLeaves misfit file answer
  unfolding write_result write_file write_answer
  write-unfit = leaves-unfit b (written_of o).refusal (buffer_of o file) (write_words (written_of o)) file answer

  pub write-fit : b ≡ true → (x : Written) (bytes an : List ℕ) → x ≡ written_of o → bytes ≡ buffer_of o file → an ≡ over (write_words x) answer
      → WriteLeaves x.refusal bytes an
  unfolding write_result write_file write_answer
  write-fit h x bytes an e f a =
      leaves-fit b (written_of o).refusal (buffer_of o file) (write_words (written_of o)) file answer h x.refusal bytes an
      (ap (λ (y : Written). y.refusal) e) f (a ∙ ap (λ (y : Written). over (write_words y) answer) e) (λ n. left o n file)

  -- words that hold no state
  pub write-none : b ≡ true → (n : ℕ) (an : List ℕ) → o ≡ refused no_state 0 → n ≡ no_state → an ≡ over (n ∷ 0 ∷ 0 ∷ []) answer → WriteLeaves n file an
  unfolding written_of buffer_of word_of
  write-none h n an e k a =
      write-fit h (record { refusal = n; place = 0; length = 0 }) file an
      (ap (λ (m : ℕ). record { refusal = m; place = 0; length = 0 }) k ∙ ap written_of (sym e)) (ap (λ (p : Outcome (List ℕ)). buffer_of p file) (sym e)) a

module _ (ws : List ℤ) (version room : ℕ) where
  pub from-none : taken_of ws ≡ refused no_state 0 → write_from ws version room ≡ refused no_state 0
  unfolding write_from
  from-none e = then-stops (taken_of ws) no_state 0 _ e

  pub from-state : (s : State) → taken_of ws ≡ good s → write_of s version room ≡ write_from ws version room
  unfolding write_from
  from-state s e = sym (then-good (taken_of ws) s _ e)
