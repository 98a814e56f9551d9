-- Clause 15.6: what is written loads again. Assumes nothing.
use Rattle.std.specs.Prelude.{◌≡◌, true, List, ℕ, ◌≤◌, length, take}
use Rattle.refusals.specs.Outcome.{good}
use Rattle.manager.specs.declared.State.{State}
use Rattle.manager.specs.State.{start_of, valid_of}
use Rattle.records.specs.Versions.{newest}
use Rattle.writer.specs.File.{file_of}
use Rattle.wpl.specs.Load.{load_of}
use Rattle.wpl.specs.Write.{carried_since, write_of, buffer_of}

pub record RoundTrip (s : State) : Type 0 where
  -- which versions can carry a plan: lines 1, fillets 2, Dubins 3 and those after it
  pub carried : (version room : ℕ) → valid_of s ≡ true → carried_since s.plan.head.mode ≤ version → version ≤ newest → length (file_of version s.plan) ≤ room
      → write_of s version room ≡ good (file_of version s.plan)
  -- what was written stands at the front of the buffer
  pub stands : (version room : ℕ) (bytes buffer : List ℕ) → write_of s version room ≡ good bytes → take (length bytes) (buffer_of (write_of s version room) buffer) ≡ bytes
  -- it loads as that plan at its start
  pub loads : (version room reader : ℕ) (bytes : List ℕ) → write_of s version room ≡ good bytes → version ≤ reader → reader ≤ newest
      → load_of reader bytes ≡ good (start_of s.plan)

-- what is written at version one, all three readers load
abbrev pub EveryReader : State → Type 0
EveryReader s =
    (room : ℕ) (bytes : List ℕ) → write_of s 1 room ≡ good bytes
    → (load_of 1 bytes ≡ good (start_of s.plan)) × ((load_of 2 bytes ≡ good (start_of s.plan)) × (load_of 3 bytes ≡ good (start_of s.plan)))
