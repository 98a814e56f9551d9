-- What a written table holds at each place; that it owes the plan what `Summary` says, and nothing else does. Assumes nothing.
use mathlib.Core.Path.{◌≡◌, refl, sym, ap, ◌∙◌}
use mathlib.Core.Bool.{true, false}
use mathlib.Core.List.{List, ◌++◌}
use Prim.Native.Nat.{ℕ, zero, suc, ◌+◌, ◌-◌, ◌≤◌, ◌<◌}
use native.Mathlib.Decide.{dec_lt}
use native.Mathlib.Omega.{arith}
use lib.Dec.{leb}
use lib.ListN.{length, get_or, take, drop, length-append, length-drop, get_or-append}
use lib.Seq.{length-take-le, get_or-append-add, get_or-take, get_or-drop, ext_get_or}
use borrow.Author.Tests.{le-leb, lt-leb}
use Rattle.conditions.proofs.Bools.{by_bool, clash}
use Rattle.refusals.specs.Numbers.{no_state, no_room}
use Rattle.refusals.specs.Outcome.{Outcome, good, refused}
use Rattle.refusals.proofs.OutcomeLaws.{check-true, check-false}
use Rattle.buffers.specs.Splice.{splice}
use Rattle.plan.specs.declared.Plan.{Plan}
use Rattle.manager.specs.declared.State.{State}
use Rattle.manager.specs.State.{valid_of}
use Rattle.manager.proofs.StateLaws.{valid-means, last-is}
use Rattle.distance.specs.Lengths.{entry_of}
use Rattle.distance.specs.Table.{entries_from, entries_of, distances_of, table_of, distance_of, Inside, Answers, Summary, OneTable, AtIndex}

-- ---- elements of a buffer of which some were replaced
module _ (at : ℕ) (new old : List ℕ) (room : at + length new ≤ length old) where
  front : length (take at old) ≡ at
  front = length-take-le at old (omega arith)

  pub splice-length : length (splice at new old) ≡ length old
  splice-length =
      length-append (take at old) (new ++ drop (at + length new) old)
      ∙ omega (arith, front, length-append new (drop (at + length new) old), length-drop (at + length new) old)

  pub read-before : (i : ℕ) → i < at → get_or (splice at new old) i 0 ≡ get_or old i 0
  read-before i h = get_or-append (take at old) (new ++ drop (at + length new) old) 0 i (omega (arith, front)) ∙ get_or-take at old i 0 h

  later : (j : ℕ) → get_or (splice at new old) (at + j) 0 ≡ get_or (new ++ drop (at + length new) old) j 0
  later j = ap (λ (k : ℕ). get_or (splice at new old) (k + j) 0) (sym front) ∙ get_or-append-add (take at old) (new ++ drop (at + length new) old) j 0

  pub read-inside : (j : ℕ) → j < length new → get_or (splice at new old) (at + j) 0 ≡ get_or new j 0
  read-inside j h = later j ∙ get_or-append new (drop (at + length new) old) 0 j h

  pub read_behind : (j : ℕ) → get_or (splice at new old) (at + (length new + j)) 0 ≡ get_or old (at + length new + j) 0
  read_behind j = later (length new + j) ∙ get_or-append-add new (drop (at + length new) old) j 0 ∙ get_or-drop (at + length new) old j 0

-- ---- the entries
entries-length : (p : Plan) (k i : ℕ) → length (entries_from p k i) ≡ k
unfolding entries_from
entries-length p zero i = refl
entries-length p (suc k) i = ap suc (entries-length p k (i + 1))

entries-read : (p : Plan) (k i j : ℕ) → j < k → get_or (entries_from p k i) j 0 ≡ entry_of p (i + j)
unfolding entries_from
entries-read p zero i j h = absurd (omega arith)
entries-read p (suc k) i zero h = let e : i + 0 ≡ i = omega arith in rw e
entries-read p (suc k) i (suc j) h = let e : i + 1 + j ≡ i + suc j = omega arith in entries-read p k (i + 1) j (omega arith) ∙ ap (entry_of p) e

-- ---- what is answered
decide : (s : State) (room : ℕ) → Dec (Answers s room)
decide s room = by_bool (valid_of s) (λ v. by-room v (dec_lt s.plan.head.count room)) (λ v. no (λ a. clash (valid_of s) a.0 v))
  where
    by-room : valid_of s ≡ true → Dec (s.plan.head.count < room) → Dec (Answers s room)
    by-room v (yes r) = yes (v, r)
    by-room v (no r) = no (λ a. r a.1)

inside : (p : Plan) (i : ℕ) → Dec (Inside p i)
inside p i = by_first (dec_lt i 2)
  where
    by_last : 2 ≤ i → Dec (p.head.count < i) → Dec (Inside p i)
    by_last l (yes m) = no (λ h. omega (arith, m, h.1))
    by_last l (no m) = yes (l, omega arith)

    by_first : Dec (i < 2) → Dec (Inside p i)
    by_first (yes l) = no (λ h. omega (arith, l, h.0))
    by_first (no l) = by_last (omega arith) (dec_lt p.head.count i)

module _ (s : State) (table : List ℕ) where
  abbrev n : ℕ
  n = s.plan.head.count

  pub refused-state : (room : ℕ) → valid_of s ≡ false → distances_of s room ≡ refused no_state 0
  unfolding distances_of
  refused-state room h = check-false (valid_of s) no_state _ h

  pub refused-room : (room : ℕ) → valid_of s ≡ true → room ≤ n → distances_of s room ≡ refused no_room 0
  unfolding distances_of
  refused-room room h r = check-true (valid_of s) no_state _ h ∙ check-false (leb (n + 1) room) no_room _ (lt-leb (n + 1) room (omega arith))

  pub answered : (room : ℕ) → valid_of s ≡ true → n < room → distances_of s room ≡ good (entries_of s.plan)
  unfolding distances_of
  answered room h r = check-true (valid_of s) no_state _ h ∙ check-true (leb (n + 1) room) no_room _ (le-leb (n + 1) room (omega arith))

  -- ---- the table that is left
  abbrev after : List ℕ
  after = table_of (distances_of s (length table)) table

  written : Answers s (length table) → after ≡ splice 2 (entries_of s.plan) table
  unfolding table_of
  written (v, r) = ap (λ (o : Outcome (List ℕ)). table_of o table) (answered (length table) v r)

  unwritten : (Answers s (length table) → ⊥) → after ≡ table
  unfolding table_of
  unwritten f =
      by_bool (valid_of s)
      (λ v. ap (λ (o : Outcome (List ℕ)). table_of o table) (refused-room (length table) v (by-room v (dec_lt n (length table)))))
      (λ v. ap (λ (o : Outcome (List ℕ)). table_of o table) (refused-state (length table) v))
    where
      by-room : valid_of s ≡ true → Dec (n < length table) → length table ≤ n
      by-room v (yes r) = absurd (f (v, r))
      by-room v (no r) = omega arith

  fits : Answers s (length table) → 2 + length (entries_of s.plan) ≤ length table
  unfolding entries_of
  fits (v, r) = omega (arith, entries-length s.plan (n - 1) 2, r, (valid-means s v).stands.least)

  summary-entries : Answers s (length table) → (i : ℕ) → Inside s.plan i → get_or after i 0 ≡ entry_of s.plan i
  unfolding entries_of
  summary-entries a i (l, m) =
      let j : 2 + (i - 2) ≡ i = omega arith in
      let k : i - 2 < n - 1 = omega arith in
      ap (λ (t : List ℕ). get_or t i 0) (written a)
      ∙ ap (λ (m : ℕ). get_or (splice 2 (entries_of s.plan) table) m 0) (sym j)
      ∙ read-inside 2 (entries_of s.plan) table (fits a) (i - 2) (omega (arith, k, entries-length s.plan (n - 1) 2))
      ∙ entries-read s.plan (n - 1) 2 (i - 2) k
      ∙ ap (entry_of s.plan) j

  behind : Answers s (length table) → (i : ℕ) → n < i → get_or (splice 2 (entries_of s.plan) table) i 0 ≡ get_or table i 0
  unfolding entries_of
  behind (v, r) i h =
      let size = entries-length s.plan (n - 1) 2 in
      let count : 3 ≤ n = (valid-means s v).stands.least in
      let j = i - n - 1 in
      let a : 2 + (length (entries_of s.plan) + j) ≡ i = omega (arith, size, count) in
      let b : 2 + length (entries_of s.plan) + j ≡ i = omega (arith, size, count) in
      ap (λ (m : ℕ). get_or (splice 2 (entries_of s.plan) table) m 0) (sym a)
      ∙ read_behind 2 (entries_of s.plan) table (fits (v, r)) j
      ∙ ap (λ (m : ℕ). get_or table m 0) b

  outside : Answers s (length table) → (i : ℕ) → (Inside s.plan i → ⊥) → Dec (i < 2) → get_or (splice 2 (entries_of s.plan) table) i 0 ≡ get_or table i 0
  outside a i f (yes h) = read-before 2 (entries_of s.plan) table (fits a) i h
  outside a i f (no h) = behind a i (past (dec_lt n i))
    where
      past : Dec (n < i) → n < i
      past (yes m) = m
      past (no m) = absurd (f (omega arith, omega arith))

  summary-others : (i : ℕ) → (Inside s.plan i → ⊥) → get_or after i 0 ≡ get_or table i 0
  summary-others i f = by-answers (decide s (length table))
    where
      by-answers : Dec (Answers s (length table)) → get_or after i 0 ≡ get_or table i 0
      by-answers (yes a) = ap (λ (t : List ℕ). get_or t i 0) (written a) ∙ outside a i f (dec_lt i 2)
      by-answers (no a) = ap (λ (t : List ℕ). get_or t i 0) (unwritten a)

  summary-size : length after ≡ length table
  summary-size = by-answers (decide s (length table))
    where
      by-answers : Dec (Answers s (length table)) → length after ≡ length table
      by-answers (yes a) = ap length (written a) ∙ splice-length 2 (entries_of s.plan) table (fits a)
      by-answers (no a) = ap length (unwritten a)

  pub summary : Summary s table after
  summary = record { size = summary-size; entries = summary-entries; others = summary-others; untouched = unwritten }

-- ---- no other table keeps it
pub one_table : OneTable
one_table s before a b p q = by-answers (decide s (length before))
  where
    at : Answers s (length before) → (i : ℕ) → Dec (Inside s.plan i) → get_or a i 0 ≡ get_or b i 0
    at h i (yes l) = p.entries h i l ∙ sym (q.entries h i l)
    at h i (no l) = p.others i l ∙ sym (q.others i l)

    by-answers : Dec (Answers s (length before)) → a ≡ b
    by-answers (yes h) = ext_get_or 0 a b (p.size ∙ sym q.size) (λ i _. at h i (inside s.plan i))
    by-answers (no h) = p.untouched h ∙ sym (q.untouched h)

-- ---- the distance at a state
module _ (s : State) where
  pub distance-refused : valid_of s ≡ false → distance_of s ≡ refused no_state 0
  unfolding distance_of
  distance-refused h = check-false (valid_of s) no_state _ h

  pub distance-answered : valid_of s ≡ true → distance_of s ≡ good (entry_of s.plan s.progress.index)
  unfolding distance_of
  distance-answered h = check-true (valid_of s) no_state _ h

pub at-index : AtIndex
at-index s table r =
    by_bool (valid_of s)
    (λ v.
    let w = valid-means s v in
    let l : s.progress.index ≤ s.plan.head.count = omega (arith, w.most, last-is s.plan.head.count) in
    distance-answered s v
    ∙ ap (λ (m : ℕ). good m) (sym ((summary s table).entries (v, r) s.progress.index (w.least, l)))
    ∙ sym (check-true (valid_of s) no_state _ v))
    (λ v. distance-refused s v ∙ sym (check-false (valid_of s) no_state _ v))
