-- Holds clauses 17.4, 17.6: words are taken for the state that was put into them; a Dubins state of three points and the empty state in numbers;
-- and the largest mode, radius, phase and finished that words may hold. Assumes nothing.
use Rattle.std.specs.Prelude.{◌≡◌, true, List, [], ◌∷◌, ◌++◌, ℤ, pos, negsuc, replicate}
use Rattle.refusals.specs.Outcome.{good, refused, is_good}
use Rattle.buffers.specs.Splice.{over}
use Rattle.plan.specs.declared.Mode.TheVariants.{Dubins}
use Rattle.plan.specs.Places.{seen}
use Rattle.manager.specs.declared.State.{State}
use Rattle.manager.specs.State.{empty_state}
use Rattle.c_state.specs.Stored.{state_words, taken_of, Storable}

-- three numbers of a kind, and the places that are not used
abbrev pub three : ℤ → ℤ → ℤ → List ℤ
three a b c = a ∷ b ∷ c ∷ replicate 61 (pos 0)

-- serial 2^31 + 7, radius 200; (0, 0, −10) course 1, (1000, 0, −20) course 1025, (1000, 2000, −30) course 2049; finished
abbrev pub sample : State
sample =
    record {
      plan =
          seen (record { serial = 2147483655; mode = Dubins; radius = 200; count = 3 }) (three (pos 0) (pos 1000) (pos 1000))
          (three (pos 0) (pos 0) (pos 2000)) (three (negsuc 9) (negsuc 19) (negsuc 29)) (three (pos 1) (pos 1025) (pos 2049));
      progress = record { index = 3; phase = 5; finished = true };
    }

-- its words: serial, mode, radius, count, index, phase, finished; norths from 7, easts from 71, downs from 135, courses from 199 on
abbrev pub sample_words : List ℤ
sample_words =
    negsuc 2147483640
    ∷ pos 2
    ∷ pos 200
    ∷ pos 3
    ∷ pos 3
    ∷ pos 5
    ∷ pos 1
    ∷ (three (pos 0) (pos 1000) (pos 1000)
    ++ (three (pos 0) (pos 0) (pos 2000) ++ (three (negsuc 9) (negsuc 19) (negsuc 29) ++ three (pos 1) (pos 1025) (pos 2049))))

pub record Layout : Type 0 where
  pub taken : (s : State) (ws : List ℤ) → Storable s → taken_of (over (state_words s) ws) ≡ good s
  pub words : state_words sample ≡ sample_words
  pub back : taken_of sample_words ≡ good sample
  -- 8.2: the empty state
  pub empty : state_words empty_state ≡ replicate 263 (pos 0)

-- words of a serial and a count, with these small numbers between and behind them
abbrev pub small : ℤ → ℤ → ℤ → ℤ → List ℤ
small mode radius phase finished = pos 7 ∷ mode ∷ radius ∷ pos 3 ∷ pos 2 ∷ phase ∷ finished ∷ []

-- 17.4: a mode that does not exist, a number too large for its field, and a finished that is neither 0 nor 1 are no state
pub record Edges : Type 0 where
  pub most : is_good (taken_of (small (pos 2) (pos 65535) (pos 255) (pos 1))) ≡ true
  pub mode : taken_of (small (pos 3) (pos 0) (pos 1) (pos 0)) ≡ refused 14 0
  pub negative : taken_of (small (negsuc 0) (pos 0) (pos 1) (pos 0)) ≡ refused 14 0
  pub radius : taken_of (small (pos 0) (pos 65536) (pos 1) (pos 0)) ≡ refused 14 0
  pub phase : taken_of (small (pos 0) (pos 0) (pos 256) (pos 0)) ≡ refused 14 0
  pub finished : taken_of (small (pos 0) (pos 0) (pos 1) (pos 2)) ≡ refused 14 0
