-- A note has from 1 to 32 bytes: the newest reader knows notes, and refuses a file with one of another length. Assumes nothing.
use mathlib.Core.Path.{◌≡◌, refl, sym, ◌∙◌}
use mathlib.Core.Bool.{true, false}
use mathlib.Core.List.{List, []}
use Prim.Native.Nat.{ℕ, ◌+◌, ◌≤◌}
use native.Mathlib.Omega.{arith}
use lib.ListN.{length}
use borrow.Author.Tests.{eqb-true, leb-true}
use Rattle.conditions.specs.Choose.{choose}
use Rattle.conditions.proofs.ChooseLaws.{choose-true, choose-false}
use Rattle.refusals.specs.Outcome.{Outcome, good, refused, is_good}
use Rattle.conditions.specs.Both.{both}
use Rattle.conditions.proofs.Bools.{by_bool, clash, both_first, both-second}
use Rattle.manager.specs.declared.State.{State}
use Rattle.records.specs.Walk.{Walked, end, short, more}
use Rattle.records.specs.Versions.{newest}
use Rattle.records.specs.Kinds.{note_row, knows, row_of, row_in, table, Parts, takes, known_rule, judge}
use Rattle.conditions.specs.Between.{between}
use Rattle.records.specs.Gather.{gather}
use Rattle.records.proofs.RuleLaws.{judge-known}
use Rattle.records.proofs.VersionLaws.{test-passed, after-good}
use Rattle.wpl.specs.Load.{records_of, parts_of, load_of}
use Rattle.wpl.specs.Note.{wanted_of, left_of, note_in, note_of}
use Rattle.wpl.proofs.LoadStepLaws.{load-steps}

-- 4.4: the longest note
abbrev most_note : ℕ
most_note = note_row.high

-- ---- the row of notes
notes-known : knows newest 128 ≡ true
unfolding knows row_of row_in table both choose
notes-known = refl

within : (v : ℕ) (b : List ℕ) (a a₁ : Parts) → known_rule v 128 b a ≡ takes a₁ → between 1 most_note (length b) ≡ true
unfolding known_rule row_of row_in table choose
within v b a a₁ h = both-second _ _ (test-passed _ _ a₁ h).0

in_bounds : (x : ℕ) → between 1 most_note x ≡ true → (1 ≤ x) × (x ≤ most_note)
unfolding between
in_bounds x h = (leb-true 1 x (both_first _ _ h), leb-true x most_note (both-second _ _ h))

pub note-taken : (v k : ℕ) (b : List ℕ) (a a₁ : Parts) → k ≡ 128 → judge newest v k b a ≡ takes a₁ → (1 ≤ length b) × (length b ≤ most_note)
note-taken v k b a a₁ e h =
    let j : judge newest v 128 b a ≡ takes a₁ = rw e at h in
    in_bounds (length b) (within v b a a₁ (sym (judge-known newest v 128 b a notes-known) ∙ j))

-- ---- the whole walk
pub wanted-note : (k n : ℕ) → wanted_of k n ≡ true → k ≡ 128
unfolding wanted_of
wanted-note k n h = eqb-true k 128 (both_first _ _ h)

short-in : (v : ℕ) (w : Walked) (n at : ℕ) (a b : Parts) → gather newest v at a w ≡ good b → length (note_in n w) ≤ most_note
unfolding gather note_in
short-in v end n at a b h = omega arith
short-in v short n at a b h = omega arith
short-in v (more k c w) n at a b h =
    let x = after-good (judge newest v k c a) at (λ (d : Parts). gather newest v (at + 2 + length c) d w) b h in
    by_bool (wanted_of k n)
    (λ t. rw (choose-true (wanted_of k n) c (note_in (left_of k n) w) t) (note-taken v k c a x.0 (wanted-note k n t) x.1.0).1)
    (λ t. rw (choose-false (wanted_of k n) c (note_in (left_of k n) w) t) (short-in v w (left_of k n) (at + 2 + length c) x.0 b x.1.1))

-- ---- a file
pub good-state : (o : Outcome State) → is_good o ≡ true → (s : State) × (o ≡ good s)
unfolding is_good
good-state (good s) h = (s, refl)
good-state (refused n p) h = clash false h refl

loaded-short : (f : List ℕ) (n : ℕ) → is_good (load_of newest f) ≡ true → length (note_in n (records_of f)) ≤ most_note
unfolding parts_of
loaded-short f n h =
    let s = good-state (load_of newest f) h in
    let p = load-steps newest f s.0 s.1 in
    short-in _ (records_of f) n _ _ p.taken p.gathered

pub note-short : (f : List ℕ) (n : ℕ) → length (note_of f n) ≤ most_note
unfolding note_of
note-short f n =
    by_bool (is_good (load_of newest f)) (λ t. rw (choose-true _ (note_in n (records_of f)) [] t) (loaded-short f n t))
    (λ t. rw (choose-false _ (note_in n (records_of f)) [] t) (omega arith))

pub given-short : (f : List ℕ) (n : ℕ) (bytes : List ℕ) → bytes ≡ note_of f n → length bytes ≤ most_note
given-short f n bytes e = rw e (note-short f n)
