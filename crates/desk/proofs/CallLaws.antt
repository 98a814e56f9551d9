-- The desk's calls: lent slices that are too short, and the rest. Assumes nothing.
use mathlib.Core.Path.{◌≡◌, sym, ap, ◌∙◌}
use mathlib.Core.Bool.{Bool, true, false}
use mathlib.Core.List.{List, [], ◌∷◌}
use Prim.Native.Nat.{ℕ, ◌≤◌, ◌<◌}
use lib.ListN.{length}
use borrow.Author.Tests.{leb-true, le-leb, lt-leb}
use Rattle.conditions.proofs.ChooseLaws.{choose-true, choose-false}
use Rattle.conditions.proofs.Bools.{both_first, both-second}
use Rattle.buffers.specs.Splice.{over}
use Rattle.refusals.specs.Numbers.{misfit}
use Rattle.desk.specs.Calls.{call_result, words_fit, words_answer, most_note, note_fits, note_buffer, note_answer}

pub fits-means : (buffer answer : ℕ) → note_fits buffer answer ≡ true → (most_note ≤ buffer) × (1 ≤ answer)
unfolding note_fits
fits-means buffer answer h = (leb-true most_note buffer (both_first _ _ h), leb-true 1 answer (both-second _ _ h))

module _ (b : Bool) (note buffer answer : List ℕ) where
  pub record Shows (n : ℕ) (bytes an : List ℕ) : Type 0 where
    pub result : n ≡ call_result b 0
    pub shown : bytes ≡ note_buffer b note buffer
    pub answered : an ≡ note_answer b note answer

  pub show-unfit : b ≡ false → Shows misfit buffer answer
  unfolding call_result words_answer note_buffer note_answer
  show-unfit h = record { result = sym (choose-false _ _ _ h); shown = sym (choose-false _ _ _ h); answered = sym (choose-false _ _ _ h) }

  pub show-fit : b ≡ true → (given bytes an : List ℕ) → given ≡ note → bytes ≡ over given buffer → an ≡ over (length given ∷ []) answer → Shows 0 bytes an
  unfolding call_result words_answer note_buffer note_answer
  show-fit h given bytes an e p q =
      record {
        result = sym (choose-true _ _ _ h);
        shown = p ∙ ap (λ (x : List ℕ). over x buffer) e ∙ sym (choose-true _ _ _ h);
        answered = q ∙ ap (λ (x : List ℕ). over (length x ∷ []) answer) e ∙ sym (choose-true _ _ _ h);
      }

-- ---- an answer of words alone
module _ (least : ℕ) (answer : List ℕ) where
  pub words-short : length answer < least → words_fit least answer ≡ false
  unfolding words_fit
  words-short h = lt-leb least (length answer) h

  pub words_long : least ≤ length answer → words_fit least answer ≡ true
  unfolding words_fit
  words_long h = le-leb least (length answer) h

module _ (b : Bool) (refusal : ℕ) (words answer : List ℕ) where
  pub record Tells (n : ℕ) (an : List ℕ) : Type 0 where
    pub result : n ≡ call_result b refusal
    pub told : an ≡ words_answer b words answer

  pub tell-unfit : b ≡ false → Tells misfit answer
  unfolding call_result words_answer
  tell-unfit h = record { result = sym (choose-false _ _ _ h); told = sym (choose-false _ _ _ h) }

  pub tell-fit : b ≡ true → (n : ℕ) (given an : List ℕ) → n ≡ refusal → given ≡ words → an ≡ over given answer → Tells n an
  unfolding call_result words_answer
  tell-fit h n given an r e p = record { result = r ∙ sym (choose-true _ _ _ h); told = p ∙ ap (λ (x : List ℕ). over x answer) e ∙ sym (choose-true _ _ _ h) }
