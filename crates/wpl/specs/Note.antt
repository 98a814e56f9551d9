-- Clauses 5.3 to 5.5, 15.1, 17.14, 18.1: the notes of a file. Assumes nothing.
use Rattle.std.specs.Prelude.{Bool, List, [], ◌∷◌, ℕ, ◌+◌, ◌-◌, ◌≤◌, eqb, length}
use Rattle.conditions.specs.Choose.{choose}
use Rattle.conditions.specs.Both.{both}
use Rattle.refusals.specs.Outcome.{is_good}
use Rattle.records.specs.Walk.{Walked, end, short, more}
use Rattle.records.specs.Versions.{newest}
use Rattle.records.specs.Kinds.{note_row}
use Rattle.wpl.specs.declared.Record.{Record}
use Rattle.wpl.specs.Load.{records_of, load_of}

-- n = 1 stands for the next note. Whether a record of kind k is the note that is sought; and what n is after a record that is not.
unfoldable pub wanted_of : ℕ → ℕ → Bool
wanted_of k n = both (eqb k note_row.kind) (eqb n 1)

unfoldable pub left_of : ℕ → ℕ → ℕ
left_of k n = choose (eqb k note_row.kind) (n - 1) n

-- the body of the n-th note of some records, from 1
unfoldable pub note_in : ℕ → Walked → List ℕ
note_in n end = []
note_in n short = []
note_in n (more k b w) = choose (wanted_of k n) b (note_in (left_of k n) w)

unfoldable pub note_of : List ℕ → ℕ → List ℕ
note_of f n = choose (is_good (load_of newest f)) (note_in n (records_of f)) []

-- ---- how many notes there are: one for each record of their kind
unfoldable pub noted_of : ℕ → ℕ
noted_of k = choose (eqb k note_row.kind) 1 0

unfoldable pub notes_in : Walked → ℕ
notes_in end = 0
notes_in short = 0
notes_in (more k b w) = noted_of k + notes_in w

unfoldable pub notes_of : List ℕ → ℕ
notes_of f = choose (is_good (load_of newest f)) (notes_in (records_of f)) 0

-- the notes that have bytes are those numbered from 1 to so many
pub record Numbered (f : List ℕ) : Type 0 where
  pub each : (n : ℕ) → 1 ≤ n → n ≤ notes_of f → 1 ≤ length (note_of f n)
  pub none-else : (n : ℕ) → 1 ≤ length (note_of f n) → (1 ≤ n) × (n ≤ notes_of f)

-- ---- records as the code reads them, one after another; for proofs alone
abbrev pub record_seen : Record → ℕ × List ℕ
record_seen r = (r.kind, r.body.now)

unfoldable pub records_seen : Walked → List (ℕ × List ℕ)
records_seen end = []
records_seen short = []
records_seen (more k b w) = (k, b) ∷ records_seen w
