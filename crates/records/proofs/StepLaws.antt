-- One step of the walk by the bytes of a record, and what the whole walk gives from an offset on. Assumes nothing.
use mathlib.Core.Path.{◌≡◌, refl, sym, ap, ◌∙◌}
use mathlib.Core.List.{List}
use Prim.Native.Nat.{ℕ, ◌+◌, ◌-◌, ◌≤◌, ◌<◌}
use native.Mathlib.Nat.{add-sub_cancel_left}
use native.Mathlib.Omega.{arith}
use lib.Dec.{leb}
use lib.IntN.{ℤ}
use lib.ListN.{length, get_or, take, drop, length-drop}
use lib.Seq.{length-take-le}
use borrow.Author.Tests.{leb-true, leb-false, le-leb, lt-leb}
use Rattle.conditions.proofs.ChooseLaws.{choose-true, choose-false}
use Rattle.conditions.proofs.Bools.{by_bool}
use Rattle.std.proofs.Common.{Some, None, Result, Ok, Err}
use Rattle.refusals.specs.declared.Refusal.{Refusal}
use Rattle.refusals.specs.Outcome.{Outcome, good, refused}
use Rattle.records.specs.declared.Effect.{Effect}
use Rattle.records.specs.declared.Fault.{Fault}
use Rattle.records.specs.declared.Fault.TheVariants.{Wrong, TooNew}
use Rattle.records.specs.declared.Tally.{Tally}
use Rattle.records.specs.declared.Gathered.{Gathered}
use Rattle.records.specs.Kinds.{Parts, no_parts, wrong, judge}
use Rattle.records.specs.Gather.{after, gather, gather_from, header_length, end_at, body_at, whole_end, verdict_at}
use Rattle.records.specs.Held.{tally_of, with_effect, verdict_of, fault_at, numbers_in, gathered_of}
use Rattle.records.proofs.WalkLaws.{walk-at-end, walk-at-cut, walk-at-more}

-- ---- where a record ends
module _ (file : List ℕ) (at : ℕ) where
  pub cut : length file < at + 2 + get_or file (at + 1) 0 → whole_end file at ≡ None
  unfolding whole_end end_at
  cut h = choose-false _ _ _ (lt-leb _ _ h)

  pub not-cut : at + 2 + get_or file (at + 1) 0 ≤ length file → whole_end file at ≡ Some (at + 2 + get_or file (at + 1) 0)
  unfolding whole_end end_at
  not-cut h = choose-true _ _ _ (le-leb _ _ h)

  pub cut-past : whole_end file at ≡ None → length file < end_at file at
  unfolding whole_end
  cut-past e =
      by_bool (leb (end_at file at) (length file))
      (λ t. let z : Some (end_at file at) ≡ None = sym (choose-true _ _ _ t) ∙ e in cc)
      (λ t. leb-false _ _ t)

  -- a record that is not cut short ends inside the file
  pub record Whole (to : ℕ) : Type 0 where
    pub ends : to ≡ end_at file at
    pub inside : to ≤ length file
    pub further : at + 2 ≤ to

  pub whole : (to : ℕ) → whole_end file at ≡ Some to → Whole to
  unfolding whole_end end_at
  whole to e =
      by_bool (leb (end_at file at) (length file))
      (λ t. let z : Some (end_at file at) ≡ Some to = sym (choose-true _ _ _ t) ∙ e in
      let k : to ≡ end_at file at = cc in
      record { ends = k; inside = rw k (leb-true _ _ t); further = rw k (omega arith) })
      (λ t. let z : None ≡ Some to = sym (choose-false _ _ _ t) ∙ e in cc)

-- ---- the record at an offset
module _ (r v : ℕ) (file : List ℕ) (at : ℕ) (a : Parts) where
  pub verdict-cut : length file < end_at file at → verdict_at r v file at a ≡ wrong
  unfolding verdict_at
  verdict-cut h = choose-false _ _ _ (lt-leb _ _ h)

  pub verdict-whole : end_at file at ≤ length file → verdict_at r v file at a ≡ judge r v (get_or file at 0) (body_at file at) a
  unfolding verdict_at
  verdict-whole h = choose-true _ _ _ (le-leb _ _ h)

  pub gather-end : length file ≤ at → gather_from r v file at a ≡ good a
  unfolding gather_from gather
  gather-end h = rw (walk-at-end file at h)

  abbrev Onward : Type 0
  Onward = gather_from r v file at a ≡ after (verdict_at r v file at a) at (λ (b : Parts). gather_from r v file (end_at file at) b)

  onward-cut : at < length file → length file < end_at file at → Onward
  unfolding gather_from gather after end_at
  onward-cut h l = rw (verdict-cut l, walk-at-cut file at h l)

  onward-whole : end_at file at ≤ length file → Onward
  unfolding gather_from gather end_at body_at
  onward-whole l =
      let e : length (take (get_or file (at + 1) 0) (drop (at + 2) file)) ≡ get_or file (at + 1) 0 =
      length-take-le (get_or file (at + 1) 0) (drop (at + 2) file) (simp length-drop (omega arith)) in
      rw (verdict-whole l, walk-at-more file at l, e)

  pub gather-step : at < length file → Onward
  gather-step h =
      by_bool (leb (end_at file at) (length file)) (λ t. onward-whole (leb-true _ _ t)) (λ t. onward-cut h (leb-false _ _ t))

  -- what the code judges there
  pub verdict-judged : (to : ℕ) → Whole file at to → judge r v (get_or file at 0) (take (to - (at + 2)) (drop (at + 2) file)) a ≡ verdict_at r v file at a
  unfolding end_at body_at
  verdict-judged to w =
      let p : take (to - (at + 2)) (drop (at + 2) file) ≡ body_at file at =
      ap (λ (n : ℕ). take (n - (at + 2)) (drop (at + 2) file)) w.ends ∙ rw (add-sub_cancel_left (at + 2) (get_or file (at + 1) 0)) in
      rw p (sym (verdict-whole (rw w.ends at w.inside)))

-- ---- the loop
module _ (r v : ℕ) (file : List ℕ) (at : ℕ) (t : Tally) (ns : List ℤ) where
  -- at an offset: some parts are gathered, and what is left to gather after them is what the whole walk gives
  pub record Gathers : Type 0 where
    pub parts : Parts
    pub tallied : t ≡ tally_of parts
    pub stored : ns ≡ numbers_in parts
    pub left : gather_from r v file at parts ≡ gather_from r v file header_length no_parts

  -- the record that stands there ends at `to`, and has the effect or the fault x
  pub record Turn (to : ℕ) (x : Result Effect Fault) : Type 0 where
    pub so_far : Gathers
    pub inside : at < length file
    pub ends : Whole file at to
    pub judged : verdict_of so_far.parts x ≡ judge r v (get_or file at 0) (take (to - (at + 2)) (drop (at + 2) file)) so_far.parts

-- a refusal is the answer
pub refused-shown : {o : Outcome Parts} (e : Refusal) → o ≡ refused e.number e.place → ◌≡◌ {A = Result Gathered Refusal} (Err e) (gathered_of o)
unfolding gathered_of
refused-shown e h = rw h refl

fault-stops : (a : Parts) (f : Fault) (at : ℕ) (go : Parts → Outcome Parts)
    → after (verdict_of a (Err f)) at go ≡ refused (fault_at f at).number (fault_at f at).place
unfolding verdict_of after fault_at
fault-stops a Wrong at go = refl
fault-stops a TooNew at go = refl

module _ {r v : ℕ} {file : List ℕ} {at : ℕ} {t : Tally} {ns : List ℤ} where
  module _ {to : ℕ} {x : Result Effect Fault} (n : Turn r v file at t ns to x) where
    onward : gather_from r v file header_length no_parts ≡ after (verdict_of n.so_far.parts x) at (λ (b : Parts). gather_from r v file (end_at file at) b)
    onward =
        sym n.so_far.left ∙ gather-step r v file at n.so_far.parts n.inside
        ∙ rw (n.judged ∙ verdict-judged r v file at n.so_far.parts to n.ends)

    -- the walk goes on after the record
    pub further : length file - to < length file - at
    further = omega (arith, n.ends.further, n.inside)

    pub again : {e : Effect} {u : Tally} {ms : List ℤ} → x ≡ Ok e → u ≡ tally_of (with_effect n.so_far.parts e) → ms ≡ numbers_in (with_effect n.so_far.parts e)
        → Gathers r v file to u ms
    unfolding after verdict_of
    again {e = e} k l m = record { parts = with_effect n.so_far.parts e; tallied = l; stored = m; left = rw n.ends.ends (sym (onward ∙ rw k)) }

    -- the record is refused
    pub all-refused : {f : Fault} → x ≡ Err f → gather_from r v file header_length no_parts ≡ refused (fault_at f at).number (fault_at f at).place
    all-refused {f = f} e = rw (onward, e) (fault-stops n.so_far.parts f at _)

  -- the record is cut short
  pub all-cut : Gathers r v file at t ns → at < length file → whole_end file at ≡ None
      → gather_from r v file header_length no_parts ≡ refused (fault_at Wrong at).number (fault_at Wrong at).place
  unfolding after fault_at
  all-cut i h e =
      sym i.left ∙ gather-step r v file at i.parts h ∙ rw (verdict-cut r v file at i.parts (cut-past file at e))

  -- the walk is at its end
  module _ (i : Gathers r v file at t ns) (l : length file ≤ at) where
    all : gather_from r v file header_length no_parts ≡ good i.parts
    all = sym i.left ∙ gather-end r v file at i.parts l

    pub all-gathered : ◌≡◌ {A = Result Gathered Refusal}
        (Ok (record { radius = t.radius; count = t.count; given = t.given }))
        (gathered_of (gather_from r v file header_length no_parts))
    unfolding gathered_of tally_of
    all-gathered = rw (all, i.tallied)

    pub all-stored : (a : Parts) → gather_from r v file header_length no_parts ≡ good a → ns ≡ numbers_in a
    all-stored a e = let k : i.parts ≡ a = let q = sym all ∙ e in cc in i.stored ∙ ap numbers_in k
