-- Clause 17.7: one file, loaded by an older reader and by the newest into two buffers of words, and every list of calls on both. Assumes
-- nothing.
use Rattle.std.specs.Prelude.{◌≡◌, true, List, ℕ, ◌<◌, ℤ, length, get_or}
use Rattle.refusals.specs.Outcome.{good}
use Rattle.manager.specs.declared.State.{State}
use Rattle.c_state.specs.Stored.{state_length}
use Rattle.wpl.specs.Load.{load_of, loaded_of}
use Rattle.flight.specs.Run.{run}
use Rattle.flight.specs.Flight.{last_of}
use Rattle.flight.specs.Demand.{IsOlder}
use Rattle.autopilot.specs.Calls.{load_result, load_state}
use Rattle.autopilot.specs.Held.{Hold}
use Rattle.autopilot.specs.CallList.{Call, replies, words_in_the_end, fixes_of, replies_of}

-- a buffer after a load into it, refused or not
abbrev pub loaded_by : ℕ → List ℕ → List ℤ → List ℤ
loaded_by r f buffer = load_state true (loaded_of (load_of r f)) buffer

abbrev pub NotRefused : ℕ → List ℕ → Type 0
NotRefused r f = load_result true (loaded_of (load_of r f)) ≡ 0

-- what every slice of uint8_t is
abbrev pub AreBytes : List ℕ → Type 0
AreBytes f = (i : ℕ) → get_or f i 0 < 256

pub record TwoBuffers (r : ℕ) (f : List ℕ) (a b : List ℤ) : Type 0 where
  -- reader three's hold what it loads, so that their replies are those of its run
  pub held : AreBytes f → (s : State) → load_of 3 f ≡ good s → Hold (loaded_by 3 f b) s
  pub equal : loaded_by r f a ≡ loaded_by 3 f b
  pub replied : (cs : List Call) → replies (loaded_by r f a) cs ≡ replies (loaded_by 3 f b) cs
  pub stay : (cs : List Call) → words_in_the_end (loaded_by r f a) cs ≡ words_in_the_end (loaded_by 3 f b) cs

-- for buffers of a state's words, whatever they held before
abbrev pub AlikeBuffers : Type 0
AlikeBuffers =
    (r : ℕ) (f : List ℕ) (a b : List ℤ) → IsOlder r → length a ≡ state_length → length b ≡ state_length → NotRefused r f → NotRefused 3 f → TwoBuffers r f a b

-- what it comes to for the older reader's buffer: it holds reader three's state, and flies as that state's run does
pub record FliesAlike (r : ℕ) (f : List ℕ) (a : List ℤ) (s : State) : Type 0 where
  pub held : Hold (loaded_by r f a) s
  pub replied : (cs : List Call) → replies (loaded_by r f a) cs ≡ replies_of s cs (run s (fixes_of cs))
  pub ended : (cs : List Call) → Hold (words_in_the_end (loaded_by r f a) cs) (last_of s (run s (fixes_of cs)))

abbrev pub BuffersFly : Type 0
BuffersFly = (r : ℕ) (f : List ℕ) (a b : List ℤ) → TwoBuffers r f a b → AreBytes f → (s : State) → load_of 3 f ≡ good s → FliesAlike r f a s
