-- The records of some bytes as the code reads them, one after another, and the notes among them. Assumes nothing.
use mathlib.Core.Path.{◌≡◌, refl, sym, ap, ◌∙◌}
use mathlib.Core.Bool.{Bool, true, false}
use mathlib.Core.List.{List, [], ◌∷◌}
use Prim.Native.Nat.{ℕ, zero, suc, ◌+◌, ◌-◌, ◌≤◌, ◌<◌}
use native.Mathlib.Omega.{arith}
use lib.Dec.{eqb, leb}
use mathlib.Core.Logic.{◌⊎◌, ⊎_elim}
use lib.ListN.{length, get_or, take, drop, length-drop, drop_of_length-le}
use borrow.Author.Tests.{eq-eqb, ne_eqb}
use denote.Bor.{Bor}
use Rattle.std.proofs.Common.{filter, unwrap_or, option_map, cond, Option, Some, None}
use Rattle.std.specs.Option.{MatchOption}
use Rattle.std.proofs.Math.Seq.{take-length}
use Rattle.std.specs.List.{slice_get, slice_range}
use Rattle.conditions.specs.Choose.{choose}
use Rattle.conditions.proofs.ChooseLaws.{choose-true, choose-false}
use Rattle.conditions.proofs.Bools.{by_bool, both_true, both-off, both-off-second}
use Rattle.records.specs.Walk.{Walked, end, short, more, walk_by, walk}
use Rattle.records.proofs.WalkLaws.{walk_none, walk-one, walk_more, walk-short}
use Rattle.wpl.specs.Note.{wanted_of, left_of, note_in, noted_of, notes_in, records_seen}

-- what is left behind two bytes
pub behind : (s : List ℕ) → 2 ≤ length s → take (length s - 2) (drop 2 s) ≡ drop 2 s
behind [] h = absurd (omega arith)
behind (k ∷ []) h = absurd (omega arith)
behind (k ∷ n ∷ s) h = let e : length (k ∷ n ∷ s) - 2 ≡ length s = omega arith in rw e (take-length s)

pub listed-few : (s : List ℕ) → length s < 2 → records_seen (walk s) ≡ []
unfolding records_seen
listed-few [] h = rw walk_none refl
listed-few (k ∷ []) h = rw walk-one refl
listed-few (k ∷ n ∷ s) h = absurd (omega arith)

pub listed-cut : (s : List ℕ) → 2 ≤ length s → length (drop 2 s) < get_or s 1 0 → records_seen (walk s) ≡ []
unfolding records_seen
listed-cut [] h l = absurd (omega arith)
listed-cut (k ∷ []) h l = absurd (omega arith)
listed-cut (k ∷ n ∷ s) h l = rw (walk-short k n s l) refl

pub listed-more : (s body rest : List ℕ) → 2 ≤ length s → get_or s 1 0 ≤ length (drop 2 s) → body ≡ take (get_or s 1 0) (drop 2 s) → rest ≡ drop (get_or s 1 0) (drop 2 s)
    → records_seen (walk s) ≡ (get_or s 0 0, body) ∷ records_seen (walk rest)
unfolding records_seen
listed-more [] body rest h l b r = absurd (omega arith)
listed-more (k ∷ []) body rest h l b r = absurd (omega arith)
listed-more (k ∷ n ∷ s) body rest h l b r = rw (walk_more k n s l, b, r) refl

-- no more than there are bytes
most-by : (m : ℕ) (s : List ℕ) → length (records_seen (walk_by m s)) ≤ length s
unfolding walk_by records_seen
most-by zero s = omega arith
most-by (suc m) [] = omega arith
most-by (suc m) (k ∷ []) = omega arith
most-by (suc m) (k ∷ l ∷ s) =
    let r = most-by m (drop l s) in
    let d = length-drop l s in
    by_bool (leb l (length s)) (λ t. rw (choose-true _ (more k (take l s) (walk_by m (drop l s))) short t) (omega (arith, r, d)))
    (λ t. rw (choose-false _ (more k (take l s) (walk_by m (drop l s))) short t) (omega arith))

pub listed-most : (s : List ℕ) → length (records_seen (walk s)) ≤ length s
unfolding walk
listed-most s = most-by (length s) s

-- ---- the notes among them
abbrev pub is_note : (ℕ × List ℕ) → Bool
is_note r = eqb r.0 128

pub notes-listed : (w : Walked) → length (filter is_note (records_seen w)) ≡ notes_in w
unfolding records_seen notes_in noted_of choose
notes-listed end = refl
notes-listed short = refl
notes-listed (more k b w) =
    by_bool (eqb k 128) (λ t. rw t (omega (arith, notes-listed w))) (λ t. rw t (omega (arith, notes-listed w)))

left-none : (k : ℕ) → left_of k 0 ≡ 0
unfolding left_of
left-none k = by_bool (eqb k 128) (λ t. choose-true {A = ℕ} _ _ _ t) (λ t. choose-false {A = ℕ} _ _ _ t)

pub note-none : (w : Walked) → note_in 0 w ≡ []
unfolding note_in wanted_of
note-none end = refl
note-none short = refl
note-none (more k b w) =
    choose-false _ b _ (both-off-second _ _ (ne_eqb 0 1 (λ z. omega arith)))
    ∙ ap (λ (n : ℕ). note_in n w) (left-none k) ∙ note-none w

-- a note stands first
at-note : (k : ℕ) (b : List ℕ) (w : Walked) → eqb k 128 ≡ true → (m : ℕ)
    → ((i : ℕ) → note_in (i + 1) w ≡ unwrap_or (option_map (λ r. r.1) (slice_get (filter is_note (records_seen w)) i)) [])
    → choose (wanted_of k (m + 1)) b (note_in (left_of k (m + 1)) w) ≡ unwrap_or (option_map (λ r. r.1) (slice_get ((k, b) ∷ filter is_note (records_seen w)) m)) []
unfolding wanted_of left_of
at-note k b w t zero h = choose-true _ b _ (both_true _ _ t (eq-eqb 1 1 refl))
at-note k b w t (suc m) h =
    choose-false _ b _ (both-off-second _ _ (ne_eqb _ _ (λ z. omega (arith, z))))
    ∙ ap (λ (n : ℕ). note_in n w) (choose-true {A = ℕ} _ _ _ t ∙ omega arith) ∙ h m

pub note-listed : (w : Walked) (m : ℕ) → note_in (m + 1) w ≡ unwrap_or (option_map (λ r. r.1) (slice_get (filter is_note (records_seen w)) m)) []
unfolding records_seen note_in wanted_of left_of
note-listed end m = refl
note-listed short m = refl
note-listed (more k b w) m =
    let l = filter is_note (records_seen w) in
    let e : (c : Bool) → eqb k 128 ≡ c → unwrap_or (option_map (λ r. r.1) (slice_get (cond c ((k, b) ∷ l) l) m)) [] ≡ unwrap_or (option_map (λ r. r.1) (slice_get (cond (eqb k 128) ((k, b) ∷ l) l) m)) []
    = λ c t. ap (λ (x : Bool). unwrap_or (option_map (λ r. r.1) (slice_get (cond x ((k, b) ∷ l) l) m)) []) (sym t) in
    by_bool (eqb k 128) (λ t. at-note k b w t m (note-listed w) ∙ e true t)
    (λ t. choose-false _ b _ (both-off _ _ t) ∙ ap (λ (n : ℕ). note_in n w) (choose-false {A = ℕ} _ _ _ t) ∙ note-listed w m ∙ e false t)

-- ---- what stands behind the header
pub behind-header : (f : List ℕ) (r : Option (Bor (List ℕ))) (d : Bor (List ℕ)) → d.now ≡ []
    → MatchOption r ((length f < 11) ⊎ (length f < length f)) (λ x. (11 ≤ length f) × (length f ≤ length f) × (x.now ≡ slice_range f 11 (length f)) × (length x.now + 11 ≡ length f))
    → (unwrap_or r d).now ≡ drop 11 f
behind-header f None d e h =
    let l : length f ≤ 11 = ⊎_elim (λ x. omega arith) (λ x. absurd (omega arith)) h in
    e ∙ sym (drop_of_length-le f {i = 11} l)
behind-header f (Some x) d e h = h.2 ∙ ap (λ (n : ℕ). take n (drop 11 f)) (sym (length-drop 11 f)) ∙ take-length (drop 11 f)
