-- The floats of a command one after another, and what a kind, a sense and a refusal choose. Assumes nothing.
use mathlib.Core.Path.{◌≡◌, refl, ◌∙◌}
use mathlib.Core.List.{List, ◌++◌}
use Prim.Native.Nat.{ℕ, zero, suc, ◌+◌, ◌*◌, ◌≤◌, ◌<◌}
use native.Mathlib.Numerals.{add-one}
use native.Mathlib.Omega.{arith}
use lib.Ieee.{Float, nan}
use lib.ListN.{length, get_or, take}
use lib.Seq.{length-take-le}
use Rattle.std.proofs.lemmas.List.{get_or-take}
use borrow.Author.Tests.{eq-eqb, ne_eqb}
use Rattle.conditions.proofs.ChooseLaws.{choose-true, choose-false}
use Rattle.text.specs.Ascii.{ascii}
use Rattle.text.specs.Parts.{count_text, float_text, refusal_text}
use Rattle.text.specs.declared.Text.{Text}
use Rattle.text.specs.Added.{Fits, AtMost, Added}
use Rattle.text.proofs.AddedLaws.{nothing, joined}
use Rattle.report.specs.Listing.{space}
use Rattle.report.specs.Fix.{floats_to, sense_text, command_text, answer_word, guided_text}

-- ---- float by float
floats-next : (xs : List Float) (i : ℕ) → floats_to xs (i + 1) ≡ floats_to xs i ++ (space ++ float_text (get_or xs i nan))
unfolding floats_to
floats-next xs i = rw add-one

-- before float i of n
pub record Floating (xs : List Float) (n : ℕ) (old now : Text) (i : ℕ) : Type 0 where
  pub inside : i ≤ n
  pub done : Added (floats_to xs i) old now
  pub short : AtMost (9 * i) old now

module _ (xs : List Float) (n : ℕ) (old : Text) (room : Fits (9 * n) old) where
  pub starts : Floating xs n old old 0
  unfolding floats_to
  starts = record { inside = omega arith; done = nothing old (omega (arith, room)); short = omega arith }

  module _ (now : Text) (i : ℕ) (u : Floating xs n old now i) where
    pub goes_on : (between new : Text) → i < n → Added space now between
        → Added (float_text (get_or xs i nan)) between new × (new.at ≡ between.at + 8) → Floating xs n old new (i + 1)
    goes_on between new h v w =
        record {
          inside = omega arith;
          done = rw (floats-next xs i) (joined u.done (joined v w.0));
          short = omega (arith, u.short, v.wrote.ends, w.1);
        }

-- all floats of a front are the first ones of the whole
first-floats : (xs : List Float) (n i : ℕ) → i ≤ n → n ≤ length xs → floats_to (take n xs) i ≡ floats_to xs i
unfolding floats_to
first-floats xs n zero h k = refl
first-floats xs n (suc i) h k =
    rw (first-floats xs n i (omega arith) k, get_or-take n xs i nan (omega arith))

pub floats-front : (xs : List Float) (n : ℕ) → n ≤ length xs → floats_to (take n xs) (length (take n xs)) ≡ floats_to xs n
floats-front xs n k = rw (length-take-le n xs k) (first-floats xs n n (omega arith) k)

-- ---- what is chosen
pub sense-right : (sense : ℕ) → sense ≡ 1 → sense_text sense ≡ ascii " sense 1"
unfolding sense_text
sense-right sense h = choose-true _ _ _ (eq-eqb sense 1 h)

pub sense-left : (sense : ℕ) → (sense ≡ 1 → ⊥) → sense_text sense ≡ ascii " sense -1"
unfolding sense_text
sense-left sense h = choose-false _ _ _ (ne_eqb sense 1 h)

module _ (kind sense : ℕ) (xs : List Float) where
  pub is-line : kind ≡ 1 → command_text kind sense xs ≡ ascii " line" ++ floats_to xs 6
  unfolding command_text
  is-line h = choose-true _ _ _ (eq-eqb kind 1 h)

  pub is-circle : kind ≡ 2 → command_text kind sense xs ≡ ascii " circle" ++ (floats_to xs 4 ++ sense_text sense)
  unfolding command_text
  is-circle h = choose-false _ _ _ (ne_eqb kind 1 (λ e. omega arith)) ∙ choose-true _ _ _ (eq-eqb kind 2 h)

  pub is-nothing : (kind ≡ 1 → ⊥) → (kind ≡ 2 → ⊥) → command_text kind sense xs ≡ ascii " nothing"
  unfolding command_text
  is-nothing h k = choose-false _ _ _ (ne_eqb kind 1 h) ∙ choose-false _ _ _ (ne_eqb kind 2 k)

module _ (a : List ℕ) (xs : List Float) where
  pub guided : answer_word a 0 ≡ 0 → guided_text a xs ≡ command_text (answer_word a 2) (answer_word a 3) xs ++ count_text (ascii " heading ") (answer_word a 4)
  unfolding guided_text
  guided h = choose-true _ _ _ (eq-eqb (answer_word a 0) 0 h)

  pub not-guided : (answer_word a 0 ≡ 0 → ⊥) → guided_text a xs ≡ space ++ refusal_text (answer_word a 0) (answer_word a 1)
  unfolding guided_text
  not-guided h = choose-false _ _ _ (ne_eqb (answer_word a 0) 0 h)
