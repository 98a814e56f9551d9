-- How many notes a file has: that those which have bytes are numbered from 1 to so many; and that there are no more than the
-- area has bytes. Assumes nothing.
use mathlib.Core.Path.{◌≡◌, sym, ap, ◌∙◌}
use mathlib.Core.Bool.{true, false}
use mathlib.Core.List.{List, [], ◌∷◌}
use Prim.Native.Nat.{ℕ, zero, suc, ◌+◌, ◌-◌, ◌≤◌}
use native.Mathlib.Omega.{arith}
use lib.Dec.{eqb, leb}
use lib.ListN.{length, take, drop, length-drop}
use borrow.Author.Tests.{eq-eqb, ne_eqb, eqb-true, eqb-false}
use Rattle.conditions.proofs.ChooseLaws.{choose-true, choose-false}
use Rattle.refusals.specs.Outcome.{good, is_good}
use Rattle.conditions.proofs.Bools.{by_bool, both-on, both_first, both-second}
use Rattle.records.specs.Walk.{Walked, end, short, more, walk_by, walk}
use Rattle.records.specs.Versions.{newest}
use Rattle.records.specs.Kinds.{Parts, judge}
use Rattle.records.specs.Gather.{header_length, gather}
use Rattle.records.proofs.VersionLaws.{after-good}
use Rattle.wpl.specs.Header.{most_area}
use Rattle.wpl.specs.Load.{records_of, parts_of, load_of, loaded_of}
use Rattle.wpl.specs.Note.{wanted_of, left_of, note_in, note_of, noted_of, notes_in, notes_of, Numbered}
use Rattle.wpl.proofs.HeaderLaws.{area-most}
use Rattle.wpl.proofs.LoadStepLaws.{load-steps}
use Rattle.wpl.proofs.NoteLaws.{newest-loads}
use Rattle.wpl.proofs.NoteLengthLaws.{note-taken, wanted-note, good-state}

-- ---- one record: what it counts, and how many notes on one is after it
module _ (k : ℕ) where
  is-note : eqb k 128 ≡ true → noted_of k ≡ 1
  unfolding noted_of
  is-note t = choose-true _ _ _ t

  no_note : eqb k 128 ≡ false → noted_of k ≡ 0
  unfolding noted_of
  no_note t = choose-false _ _ _ t

  pub counts-one : noted_of k ≤ 1
  counts-one = by_bool (eqb k 128) (λ t. omega (arith, is-note t)) (λ t. omega (arith, no_note t))

  module _ (n : ℕ) where
    left-note : eqb k 128 ≡ true → left_of k n ≡ n - 1
    unfolding left_of
    left-note t = choose-true _ _ _ t

    left_other : eqb k 128 ≡ false → left_of k n ≡ n
    unfolding left_of
    left_other t = choose-false _ _ _ t

    wanted-first : wanted_of k n ≡ true → (noted_of k ≡ 1) × (n ≡ 1)
    unfolding wanted_of
    wanted-first h = (is-note (both_first _ _ h), eqb-true n 1 (both-second _ _ h))

    not_first : wanted_of k n ≡ false → eqb k 128 ≡ true → n ≡ 1 → ⊥
    unfolding wanted_of
    not_first h t = eqb-false n 1 (sym (both-on _ _ t) ∙ h)

    -- one that is not the note looked for: from 1 to so many before it is from 1 to so many after it
    further : wanted_of k n ≡ false → (m : ℕ) → 1 ≤ n → n ≤ noted_of k + m → (1 ≤ left_of k n) × (left_of k n ≤ m)
    further h m l u =
        by_bool (eqb k 128)
        (λ t. let z = not_first h t in let e = left-note t in let d = is-note t in (omega (arith, z, e, l), omega (arith, e, d, u)))
        (λ t. let e = left_other t in let d = no_note t in (omega (arith, e, l), omega (arith, e, d, u)))

    back : (m : ℕ) → 1 ≤ left_of k n → left_of k n ≤ m → (1 ≤ n) × (n ≤ noted_of k + m)
    back m l u =
        by_bool (eqb k 128) (λ t. let e = left-note t in let d = is-note t in (omega (arith, e, l), omega (arith, e, d, u)))
        (λ t. let e = left_other t in let d = no_note t in (omega (arith, e, l), omega (arith, e, d, u)))

-- ---- the whole walk
each_in : (v : ℕ) (w : Walked) (n at : ℕ) (a b : Parts) → gather newest v at a w ≡ good b → 1 ≤ n → n ≤ notes_in w → 1 ≤ length (note_in n w)
unfolding gather note_in notes_in
each_in v end n at a b h l u = absurd (omega arith)
each_in v short n at a b h l u = absurd (omega arith)
each_in v (more k c w) n at a b h l u =
    let x = after-good (judge newest v k c a) at (λ (d : Parts). gather newest v (at + 2 + length c) d w) b h in
    by_bool (wanted_of k n)
    (λ t. rw (choose-true (wanted_of k n) c (note_in (left_of k n) w) t) (note-taken v k c a x.0 (wanted-note k n t) x.1.0).0)
    (λ t. let g = further k n t (notes_in w) l u in
    rw (choose-false (wanted_of k n) c (note_in (left_of k n) w) t) (each_in v w (left_of k n) (at + 2 + length c) x.0 b x.1.1 g.0 g.1))

else-in : (w : Walked) (n : ℕ) → 1 ≤ length (note_in n w) → (1 ≤ n) × (n ≤ notes_in w)
unfolding note_in notes_in
else-in end n h = absurd (omega arith)
else-in short n h = absurd (omega arith)
else-in (more k c w) n h =
    by_bool (wanted_of k n) (λ t. let g = wanted-first k n t in (omega (arith, g.1), omega (arith, g.0, g.1)))
    (λ t. let g = else-in w (left_of k n) (rw (choose-false (wanted_of k n) c (note_in (left_of k n) w) t) at h) in back k n (notes_in w) g.0 g.1)

-- no more than there are bytes
most-by : (m : ℕ) (s : List ℕ) → notes_in (walk_by m s) ≤ length s
unfolding walk_by notes_in
most-by zero s = omega arith
most-by (suc m) [] = omega arith
most-by (suc m) (k ∷ []) = omega arith
most-by (suc m) (k ∷ l ∷ s) =
    let r = most-by m (drop l s) in
    let d = length-drop l s in
    let o = counts-one k in
    by_bool (leb l (length s)) (λ t. rw (choose-true _ (more k (take l s) (walk_by m (drop l s))) short t) (omega (arith, r, d, o)))
    (λ t. rw (choose-false _ (more k (take l s) (walk_by m (drop l s))) short t) (omega arith))

pub most-in : (s : List ℕ) → notes_in (walk s) ≤ length s
unfolding walk
most-in s = most-by (length s) s

-- ---- a file
module _ (f : List ℕ) where
  loaded-each : (n : ℕ) → is_good (load_of newest f) ≡ true → 1 ≤ n → n ≤ notes_in (records_of f) → 1 ≤ length (note_in n (records_of f))
  unfolding parts_of
  loaded-each n h l u =
      let s = good-state (load_of newest f) h in
      let p = load-steps newest f s.0 s.1 in
      each_in _ (records_of f) n _ _ p.taken p.gathered l u

  loaded-most : is_good (load_of newest f) ≡ true → notes_in (records_of f) ≤ most_area
  unfolding records_of
  loaded-most h =
      let s = good-state (load_of newest f) h in
      omega (arith, most-in (drop header_length f), area-most f (load-steps newest f s.0 s.1).header)

  -- by whether it loads
  count-good : is_good (load_of newest f) ≡ true → notes_of f ≡ notes_in (records_of f)
  unfolding notes_of
  count-good t = choose-true _ _ _ t

  count_none : is_good (load_of newest f) ≡ false → notes_of f ≡ 0
  unfolding notes_of
  count_none t = choose-false _ _ _ t

  note-good : (n : ℕ) → is_good (load_of newest f) ≡ true → note_of f n ≡ note_in n (records_of f)
  unfolding note_of
  note-good n t = choose-true _ _ _ t

  note-none : (n : ℕ) → is_good (load_of newest f) ≡ false → note_of f n ≡ []
  unfolding note_of
  note-none n t = choose-false _ _ _ t

  pub numbered : Numbered f
  numbered =
      record {
        each =
            λ n l u.
            by_bool (is_good (load_of newest f)) (λ t. rw (note-good n t) (loaded-each n t l (rw (count-good t) at u)))
            (λ t. absurd (omega (arith, l, u, count_none t)));
        none-else =
            λ n h.
            by_bool (is_good (load_of newest f)) (λ t. rw (count-good t) (else-in (records_of f) n (rw (note-good n t) at h)))
            (λ t. let e : length (note_of f n) ≡ 0 = ap length (note-none n t) in absurd (omega (arith, h, e)));
      }

  pub count_most : notes_of f ≤ most_area
  count_most = by_bool (is_good (load_of newest f)) (λ t. omega (arith, count-good t, loaded-most t)) (λ t. omega (arith, count_none t))

  -- by the number of a load
  module _ (number : ℕ) (e : number ≡ (loaded_of (load_of newest f)).refusal) where
    pub count-refused : (number ≡ 0 → ⊥) → notes_of f ≡ 0
    count-refused h = count_none (newest-loads f number e ∙ ne_eqb _ _ h)

    pub count-loaded : number ≡ 0 → notes_of f ≡ notes_in (records_of f)
    count-loaded h = count-good (newest-loads f number e ∙ eq-eqb _ _ h)
