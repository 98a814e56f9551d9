-- Clauses 6.1, 8.3, 15.16: what a load owes whoever flies or writes what it gives, or reads why it is refused. Assumes nothing.
use Rattle.std.specs.Prelude.{◌≡◌, ◌⊎◌, true, List, ℕ, ◌+◌, ◌≤◌, ◌<◌, length, take}
use Rattle.refusals.specs.Numbers.{file_too_short, short_leg, no_state, no_case}
use Rattle.refusals.specs.Outcome.{good, refused}
use Rattle.units.specs.declared.Fix.{Fix}
use Rattle.manager.specs.declared.State.{State}
use Rattle.manager.specs.State.{valid_of}
use Rattle.manager.specs.Step.{refuse_of, step_of}
use Rattle.records.specs.Gather.{header_length}
use Rattle.wpl.specs.Header.{most_area, serial_of}
use Rattle.wpl.specs.Load.{load_of, loaded_of}
use Rattle.wpl.specs.Write.{write_of}

-- 6.1: 1 to 12, and 17
abbrev pub GivenByLoad : ℕ → Type 0
GivenByLoad number = ((file_too_short ≤ number) × (number ≤ short_leg)) ⊎ (number ≡ no_case)

pub record Starts (reader : ℕ) (file : List ℕ) : Type 0 where
  -- what is loaded is a state that 14 does not refuse, with the file's serial: fixes that name it are flown
  pub valid : (s : State) → load_of reader file ≡ good s → valid_of s ≡ true
  pub serial : (s : State) → load_of reader file ≡ good s → s.plan.head.serial ≡ serial_of file
  -- what a refused load gives is the empty state, which every fix and every write refuses with 14
  pub unflown : (number place : ℕ) → load_of reader file ≡ refused number place → (serial : ℕ) (fix : Fix)
      → step_of (loaded_of (load_of reader file)).state serial fix ≡ refuse_of (loaded_of (load_of reader file)).state no_state
  pub unwritten : (number place : ℕ) → load_of reader file ≡ refused number place → (version room : ℕ)
      → write_of (loaded_of (load_of reader file)).state version room ≡ refused no_state 0
  -- no other number refuses a load: 13 to 16 and 18 are given by other calls
  pub numbers : (number place : ℕ) → load_of reader file ≡ refused number place → GivenByLoad number
  -- a file that is too long is refused like its first bytes: a reader need not take in more than one byte over the most that a file can have
  pub long : (n : ℕ) → header_length + most_area < n → n ≤ length file → load_of reader (take n file) ≡ load_of reader file
