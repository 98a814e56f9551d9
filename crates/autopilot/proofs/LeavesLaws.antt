-- What a call leaves that writes a buffer and an answer: with slices that are too short, and with others. Assumes nothing.
use mathlib.Core.Path.{◌≡◌, refl, sym, ◌∙◌}
use mathlib.Core.Bool.{Bool, true, false}
use mathlib.Core.List.{List}
use Prim.Native.Nat.{ℕ}
use Rattle.conditions.specs.Choose.{choose}
use Rattle.conditions.proofs.ChooseLaws.{choose-true, choose-false}
use Rattle.refusals.specs.Numbers.{misfit}
use Rattle.buffers.specs.Splice.{over}
use Rattle.autopilot.specs.Held.{Untouched}

-- the result, the buffer and the answer that are wanted, and the buffer before the call
pub record Leaves (result' : ℕ) (buffer' answer' buffer : List ℕ) (n : ℕ) (after an : List ℕ) : Type 0 where
  pub result : n ≡ result'
  pub written : after ≡ buffer'
  pub answered : an ≡ answer'
  pub kept : Untouched n buffer after

module _ (b : Bool) (number : ℕ) (filled words buffer answer : List ℕ) where
  abbrev Left : ℕ → List ℕ → List ℕ → Type 0
  Left = Leaves (choose b number misfit) (choose b filled buffer) (choose b (over words answer) answer) buffer

  pub leaves-unfit : b ≡ false → Left misfit buffer answer
  leaves-unfit h = record { result = sym (choose-false _ _ _ h); written = sym (choose-false _ _ _ h); answered = sym (choose-false _ _ _ h); kept = λ _. refl }

  pub leaves-fit : b ≡ true → (n : ℕ) (after an : List ℕ) → n ≡ number → after ≡ filled → an ≡ over words answer → ((number ≡ 0 → ⊥) → filled ≡ buffer)
      → Left n after an
  leaves-fit h n after an e f a k =
      record {
        result = e ∙ sym (choose-true _ _ _ h);
        written = f ∙ sym (choose-true _ _ _ h);
        answered = a ∙ sym (choose-true _ _ _ h);
        kept = λ m. f ∙ k (λ z. m (e ∙ z));
      }
