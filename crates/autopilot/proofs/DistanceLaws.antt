-- The calls for distances by their tests: lent slices that are too short, words that hold no state, and the rest; and that a table stays over a list of
-- calls. Assumes nothing.
use mathlib.Core.Path.{◌≡◌, refl, sym, ap, ◌∙◌}
use mathlib.Core.Bool.{Bool, true, false}
use mathlib.Core.List.{List}
use Prim.Native.Nat.{ℕ}
use lib.IntN.{ℤ}
use Rattle.conditions.proofs.ChooseLaws.{choose-true, choose-false}
use Rattle.refusals.specs.Numbers.{misfit, no_state}
use Rattle.refusals.specs.declared.Refusal.{Refusal}
use Rattle.refusals.specs.Outcome.{Outcome, good, refused, check, refusal_of}
use Rattle.refusals.proofs.OutcomeLaws.{then-good, then-stops}
use Rattle.buffers.specs.Splice.{over}
use Rattle.c_state.specs.Stored.{state_at, holds_state, taken_of}
use Rattle.c_state.proofs.TakenLaws.{held, not-held}
use Rattle.flight.specs.Run.{run}
use Rattle.flight.specs.Flight.{last_of}
use Rattle.std.proofs.Common.{Result, Ok, Err}
use Rattle.refusals.specs.Sweep.{done, passed_of}
use Rattle.distance.specs.Table.{distances_of, table_of, distance_of, distance_by}
use Rattle.distance.proofs.KeptLaws.{table_kept}
use Rattle.autopilot.specs.CallList.{words_in_the_end, fixes_of}
use Rattle.autopilot.specs.Distances.{distances_in, distance_in, distances_words, distances_result, distances_table, distances_answer, distance_words, distance_result, distance_answer, TablesStay}
use Rattle.autopilot.proofs.HeldLaws.{calls-run}
use Rattle.autopilot.proofs.LeavesLaws.{Leaves, leaves-unfit, leaves-fit}

-- ---- by the words
module _ (ws : List ℤ) where
  pub distances-held : (room : ℕ) → holds_state ws ≡ true → distances_in (taken_of ws) room ≡ distances_of (state_at ws) room
  unfolding distances_in
  distances-held room h = then-good (taken_of ws) (state_at ws) _ (held ws h)

  pub distances-unheld : (room : ℕ) → holds_state ws ≡ false → distances_in (taken_of ws) room ≡ refused no_state 0
  unfolding distances_in
  distances-unheld room h = then-stops (taken_of ws) no_state 0 _ (not-held ws h)

  pub distance-held : holds_state ws ≡ true → distance_in (taken_of ws) ≡ distance_of (state_at ws)
  unfolding distance_in
  distance-held h = then-good (taken_of ws) (state_at ws) _ (held ws h)

  pub distance-unheld : holds_state ws ≡ false → distance_in (taken_of ws) ≡ refused no_state 0
  unfolding distance_in
  distance-unheld h = then-stops (taken_of ws) no_state 0 _ (not-held ws h)

-- ---- the table
left : (o : Outcome (List ℕ)) → ((refusal_of o).number ≡ 0 → ⊥) → (table : List ℕ) → table_of o table ≡ table
unfolding refusal_of table_of
left (good entries) h table = absurd (h refl)
left (refused number place) h table = refl

module _ (b : Bool) (o : Outcome (List ℕ)) (table answer : List ℕ) where
  abbrev TableLeaves : ℕ → List ℕ → List ℕ → Type 0
  TableLeaves = Leaves (distances_result b o) (distances_table b o table) (distances_answer b o answer) table

  pub table-unfit : b ≡ false → TableLeaves misfit table answer
  unfolding distances_result distances_table distances_answer
  table-unfit = leaves-unfit b (refusal_of o).number (table_of o table) (distances_words (refusal_of o)) table answer

  pub table-fit : b ≡ true → (r : Refusal) (after an : List ℕ) → r ≡ refusal_of o → after ≡ table_of o table → an ≡ over (distances_words r) answer
      → TableLeaves r.number after an
  unfolding distances_result distances_table distances_answer
  table-fit h r after an e f a =
      leaves-fit b (refusal_of o).number (table_of o table) (distances_words (refusal_of o)) table answer h r.number after an
      (ap (λ (x : Refusal). x.number) e) f (a ∙ ap (λ (x : Refusal). over (distances_words x) answer) e) (λ n. left o n table)

-- ---- the distance at the state
module _ (b : Bool) (o : Outcome ℕ) (answer : List ℕ) where
  pub distance-unfit : b ≡ false → (misfit ≡ distance_result b o) × (answer ≡ distance_answer b o answer)
  unfolding distance_result distance_answer
  distance-unfit h = (sym (choose-false _ _ _ h), sym (choose-false _ _ _ h))

  pub distance-fit : b ≡ true → (an : List ℕ) → an ≡ over (distance_words o) answer → ((refusal_of o).number ≡ distance_result b o) × (an ≡ distance_answer b o answer)
  unfolding distance_result distance_answer
  distance-fit h an a = (sym (choose-true _ _ _ h), a ∙ sym (choose-true _ _ _ h))

-- words that hold no state are refused
pub refused-table : (o : Outcome (List ℕ)) (r : Refusal) → r ≡ refusal_of (check false no_state (good done)) → o ≡ refused no_state 0
    → ◌≡◌ {A = Result (Unit {0}) Refusal} (Err r) (passed_of o)
unfolding refusal_of check passed_of
refused-table o r e h = rw (e, h) refl

pub refused-distance : (o : Outcome ℕ) (r : Refusal) → r ≡ refusal_of (check false no_state (good done)) → o ≡ refused no_state 0
    → ◌≡◌ {A = Result ℕ Refusal} (Err r) (distance_by o)
unfolding refusal_of check distance_by
refused-distance o r e h = rw (e, h) refl

-- the refusal that an answer shows, none where it has none
pub shown-refusal : (o : Outcome (List ℕ)) (r : Refusal) → passed_of o ≡ Err r → refusal_of o ≡ r
unfolding passed_of refusal_of
shown-refusal (good a) r h = cc
shown-refusal (refused number place) r h = cc

pub shown-none : (o : Outcome (List ℕ)) (u : Unit {0}) → passed_of o ≡ Ok u → refusal_of o ≡ record { number = 0; place = 0 }
unfolding passed_of refusal_of
shown-none (good a) u h = refl
shown-none (refused number place) u h = cc

-- which distance an answer is of
pub left-is : (o : Outcome ℕ) (n : ℕ) → distance_by o ≡ Ok n → o ≡ good n
unfolding distance_by
left-is (good m) n h = let k : m ≡ n = cc in ap (λ (x : ℕ). good x) k
left-is (refused number place) n h = cc

pub none-left : (o : Outcome ℕ) (r : Refusal) → distance_by o ≡ Err r → o ≡ refused r.number r.place
unfolding distance_by
none-left (good m) r h = cc
none-left (refused number place) r h = let k : record { number = number; place = place } ≡ r = cc in ap (λ (x : Refusal). refused x.number x.place) k

-- ---- over a list of calls
pub tables-stay : TablesStay
unfolding distances_in
tables-stay ws s h v cs room =
    then-good (taken_of (words_in_the_end ws cs)) (last_of s (run s (fixes_of cs))) _ (calls-run.ended ws s h cs).taken
    ∙ table_kept.flown s v (fixes_of cs) room
    ∙ sym (then-good (taken_of ws) s _ h.taken)
