-- Clauses 6.7, 7.16, 8.3, 15.1, 21.5 to 21.7: the table of a plan and the distance at a state: what is answered, what a lent table holds afterwards, and
-- what both owe the sums of Lengths. Assumes nothing.
use Rattle.std.specs.Prelude.{◌≡◌, true, List, [], ◌∷◌, ℕ, zero, suc, ◌+◌, ◌-◌, ◌≤◌, ◌<◌, leb, length, get_or, Result, Ok, Err}
use Rattle.refusals.specs.declared.Refusal.{Refusal}
use Rattle.refusals.specs.Numbers.{no_state, no_room}
use Rattle.refusals.specs.Outcome.{Outcome, good, refused, check}
use Rattle.buffers.specs.Splice.{splice}
use Rattle.plan.specs.declared.Plan.{Plan}
use Rattle.manager.specs.declared.State.{State}
use Rattle.manager.specs.State.{valid_of}
use Rattle.distance.specs.Lengths.{entry_of}

-- ---- 21.5: the table
-- the entries of k indices from i on
unfoldable pub entries_from : Plan → ℕ → ℕ → List ℕ
entries_from p zero i = []
entries_from p (suc k) i = entry_of p i ∷ entries_from p k (i + 1)

-- those of a plan, from 2 to the number of its points
unfoldable pub entries_of : Plan → List ℕ
entries_of p = entries_from p (p.head.count - 1) 2

-- 6.7: 14, then 16 where the table has no entry for each index, counted from 0
unfoldable pub distances_of : State → ℕ → Outcome (List ℕ)
distances_of s room = check (valid_of s) no_state (check (leb (s.plan.head.count + 1) room) no_room (good (entries_of s.plan)))

-- the lent table afterwards: its entries from 2 on, and no other; refused, none
unfoldable pub table_of : Outcome (List ℕ) → List ℕ → List ℕ
table_of (good entries) table = splice 2 entries table
table_of (refused number place) table = table

-- ---- 21.7: from a state's index on, without a table
unfoldable pub distance_of : State → Outcome ℕ
distance_of s = check (valid_of s) no_state (good (entry_of s.plan s.progress.index))

unfoldable pub distance_by : Outcome ℕ → Result ℕ Refusal
distance_by (good n) = Ok n
distance_by (refused number place) = Err (record { number = number; place = place })

-- ---- 21.6: what a table owes the plan: each entry from 2 to the number of points is the sum, and everything else is what it was
abbrev pub Inside : Plan → ℕ → Type 0
Inside p i = (2 ≤ i) × (i ≤ p.head.count)

abbrev pub Answers : State → ℕ → Type 0
Answers s room = (valid_of s ≡ true) × (s.plan.head.count < room)

pub record Summary (s : State) (before after : List ℕ) : Type 0 where
  pub size : length after ≡ length before
  pub entries : Answers s (length before) → (i : ℕ) → Inside s.plan i → get_or after i 0 ≡ entry_of s.plan i
  pub others : (i : ℕ) → (Inside s.plan i → ⊥) → get_or after i 0 ≡ get_or before i 0
  pub untouched : (Answers s (length before) → ⊥) → after ≡ before

-- which fixes the table: no two keep it
abbrev pub OneTable : Type 0
OneTable = (s : State) (before a b : List ℕ) → Summary s before a → Summary s before b → a ≡ b

-- ---- 21.7: the distance at a state is the entry of a table at its index, whatever the table held
abbrev pub AtIndex : Type 0
AtIndex = (s : State) (table : List ℕ) → s.plan.head.count < length table
    → distance_of s ≡ check (valid_of s) no_state (good (get_or (table_of (distances_of s (length table)) table) s.progress.index 0))
