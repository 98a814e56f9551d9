-- Clause 17.12: 15.8 to 15.10 about two calls of `fly`: one file, the same lists and buffers, an older reader and the newest. Assumes nothing.
use Rattle.std.specs.Prelude.{◌≡◌, true, false, List, ◌↔◌, ℕ, Float}
use Rattle.manager.specs.State.{empty_state}
use Rattle.records.specs.Kinds.{holds_newer}
use Rattle.wpl.specs.Load.{records_of, load_of}
use Rattle.flight.specs.declared.Flown.{Flown}
use Rattle.flight.specs.Demand.{IsOlder}
use Rattle.flight.specs.Flight.{flown_of, answers_after, commands_after}

module _ (f serials : List ℕ) (fixes : List Float) (answers : List ℕ) (commands : List Float) where
  -- what a call with a reader answers, and what it leaves in the buffers
  abbrev pub flown_with : ℕ → Flown
  flown_with r = flown_of empty_state (load_of r f) serials fixes answers commands

  abbrev pub answers_with : ℕ → List ℕ
  answers_with r = answers_after (load_of r f) serials fixes answers commands

  abbrev pub commands_with : ℕ → List Float
  commands_with r = commands_after (load_of r f) serials fixes answers commands

  pub record TwoFlights (r : ℕ) : Type 0 where
    -- 15.8: refused 7 where, and only where, the file has a radius or a course that its version lacks
    pub refuses : ((flown_with r).refusal ≡ 7) ↔ (holds_newer r (records_of f) ≡ true)
    -- otherwise both answer alike, word for word and bit for bit, at every fix, and end in the same state
    pub flown : holds_newer r (records_of f) ≡ false → flown_with r ≡ flown_with 3
    pub answered : holds_newer r (records_of f) ≡ false → answers_with r ≡ answers_with 3
    pub commanded : holds_newer r (records_of f) ≡ false → commands_with r ≡ commands_with 3

  -- so it is with every reader of version one or two where reader three flies
  abbrev pub OlderFlights : Type 0
  OlderFlights = (r : ℕ) → IsOlder r → (flown_with 3).refusal ≡ 0 → TwoFlights r
