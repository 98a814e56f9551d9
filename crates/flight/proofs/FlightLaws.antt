-- A flight by what it starts from: refused, or flown to its end. Two flights of one file. Assumes nothing.
use mathlib.Core.Path.{◌≡◌, ap, ◌∙◌}
use mathlib.Core.Bool.{true, false}
use mathlib.Core.List.{List}
use Prim.Native.Nat.{ℕ}
use lib.ListN.{length}
use lib.Ieee.{Float}
use Rattle.refusals.specs.Outcome.{Outcome, good, refused}
use Rattle.refusals.proofs.OutcomeLaws.{check-true, check-false}
use Rattle.buffers.specs.Splice.{over}
use Rattle.manager.specs.declared.State.{State}
use Rattle.refusals.specs.Numbers.{misfit}
use Rattle.flight.specs.declared.Flown.{Flown}
use Rattle.flight.specs.Run.{run}
use Rattle.flight.specs.Flight.{named_of, answers_of, commands_of, last_of, fits_of, begin_of, flown_by, answers_by, commands_by, flown_of, answers_after, commands_after}

module _ (other : State) (start : Outcome State) (serials : List ℕ) (fixes : List Float) (answers : List ℕ) (commands : List Float) where
  -- what the promises of a flight say
  pub record Flies (x : Flown) (words : List ℕ) (numbers : List Float) : Type 0 where
    pub flown : x ≡ flown_of other start serials fixes answers commands
    pub answered : words ≡ answers_after start serials fixes answers commands
    pub commanded : numbers ≡ commands_after start serials fixes answers commands

  flies-refused : (n p : ℕ) → begin_of start serials fixes answers commands ≡ refused n p → Flies (record { refusal = n; place = p; state = other }) answers commands
  unfolding flown_of answers_after commands_after flown_by answers_by commands_by
  flies-refused n p e = record { flown = rw e; answered = rw e; commanded = rw e }

  pub flies-not : fits_of (length serials) (length fixes) (length answers) (length commands) ≡ false
      → Flies (record { refusal = misfit; place = 0; state = other }) answers commands
  unfolding begin_of
  flies-not h = flies-refused misfit 0 (check-false _ misfit _ h)

  module _ (h : fits_of (length serials) (length fixes) (length answers) (length commands) ≡ true) where
    fits-begin : begin_of start serials fixes answers commands ≡ start
    unfolding begin_of
    fits-begin = check-true _ misfit _ h

    pub load-refused : (n p : ℕ) → start ≡ refused n p → Flies (record { refusal = n; place = p; state = other }) answers commands
    load-refused n p e = flies-refused n p (fits-begin ∙ e)

    pub flies : (s t : State) (words : List ℕ) (numbers : List Float) → start ≡ good s → t ≡ last_of s (run s (named_of serials fixes))
        → words ≡ over (answers_of (run s (named_of serials fixes))) answers → numbers ≡ over (commands_of (run s (named_of serials fixes))) commands
        → Flies (record { refusal = 0; place = 0; state = t }) words numbers
    unfolding flown_of answers_after commands_after flown_by answers_by commands_by
    flies s t words numbers e l a c =
        let b = fits-begin ∙ e in
        record {
          flown = ap (λ (u : State). record { refusal = 0; place = 0; state = u }) l ∙ rw b;
          answered = a ∙ rw b;
          commanded = c ∙ rw b;
        }
