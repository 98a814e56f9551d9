-- What a lent part brings back to its buffer, and what is written behind what was written. Assumes nothing.
use mathlib.Core.Path.{◌≡◌, sym, ap, ◌∙◌}
use mathlib.Core.List.{List, [], ◌∷◌, ◌++◌, append_assoc, append-nil}
use Prim.Native.Nat.{ℕ, ◌+◌, ◌-◌, ◌≤◌}
use native.Mathlib.Numerals.{add-one}
use native.Mathlib.Omega.{arith}
use lib.ListN.{length, take, drop, set, length-append, length-drop, drop_of_length-le, take-append-drop}
use lib.Seq.{length-take-le, take_all, take_at, take-append-add, drop-append-add, drop-drop, sets-eq}
use Rattle.buffers.specs.Splice.{over, splice}

-- from an offset on: what stands before it, and the rest with its first bytes replaced
split : {A : Type 0} (at : ℕ) (new old : List A) → take at old ++ over new (drop at old) ≡ splice at new old
split at new old = rw (drop-drop (length new) at old)

-- past what stands before
past : {A : Type 0} (at k : ℕ) (new before rest : List A) → length before ≡ at → splice (at + k) new (before ++ rest) ≡ before ++ splice k new rest
past at k new before rest e =
    let t : take (at + k) (before ++ rest) ≡ before ++ take k rest = rw (← e) (take-append-add before rest k) in
    let n : at + k + length new ≡ length before + (k + length new) = omega arith in
    rw (t, n, drop-append-add before rest (k + length new), append_assoc before (take k rest))

-- two bytes were stored, one after the other
pub stored : {A : Type 0} (at : ℕ) (x y : A) (old : List A) → at + 2 ≤ length old → set (set old at x) (at + 1) y ≡ splice at (x ∷ y ∷ []) old
stored at x y old h = rw add-one (sets-eq (x ∷ y ∷ []) old at h ∙ append_assoc (take at old) (x ∷ y ∷ []) (drop (at + 2) old))

-- a part from an offset to the end was lent, and came back with its first bytes replaced
pub lent : {A : Type 0} (at : ℕ) (new old back : List A) → back ≡ over new (take (length old - at) (drop at old))
    → take at old ++ (back ++ drop (length old - at) (drop at old)) ≡ splice at new old
lent at new old back e =
    let h : length (drop at old) ≤ length old - at = simp length-drop (omega arith) in
    rw (drop_of_length-le (drop at old) h, append-nil back, e, take_all (length old - at) (drop at old) h) (split at new old)

-- `new` behind `first`, which stands at the front
pub behind : {A : Type 0} (at : ℕ) (first new old : List A) → length first ≡ at → splice at new (over first old) ≡ over (first ++ new) old
behind at first new old e =
    let rest = drop (length first) old in
    let d : drop (at + length new) (first ++ rest) ≡ drop (length new) rest = rw (← e) (drop-append-add first rest (length new)) in
    rw (take_at first rest at e, d, drop-drop (length new) (length first) old, length-append first new, append_assoc first new)

-- `new` behind `first`, which stands at an offset
pub further : {A : Type 0} (at k : ℕ) (first new old : List A) → length first ≡ k → at ≤ length old
    → splice (at + k) new (splice at first old) ≡ splice at (first ++ new) old
further {A = A} at k first new old e h =
    ap (splice (at + k) new) (sym (split at first old))
    ∙ past at k new (take at old) (over first (drop at old)) (length-take-le at old h)
    ∙ ap (λ (l : List A). take at old ++ l) (behind k first new (drop at old) e)
    ∙ split at (first ++ new) old

-- nothing was written
pub unchanged : {A : Type 0} (at : ℕ) (old : List A) → splice at [] old ≡ old
unchanged at old = let e : at + 0 ≡ at = omega arith in rw e (take-append-drop at old)

-- a part behind `first` was lent, and came back with `new` at its front
pub joined : {A : Type 0} (at : ℕ) (first new old : List A) {now back : List A} → length first ≡ at → now ≡ over first old
    → back ≡ over new (take (length now - at) (drop at now))
    → take at now ++ (back ++ drop (length now - at) (drop at now)) ≡ over (first ++ new) old
joined at first new old {now} {back} e f g = lent at new now back g ∙ ap (splice at new) f ∙ behind at first new old e

-- from the front on
pub at_front : {A : Type 0} (new old : List A) → splice 0 new old ≡ over new old
at_front new old = let e : 0 + length new ≡ length new = omega arith in rw e

-- ---- what stands in a buffer, put where it stands
some-length : {A : Type 0} (at k : ℕ) (old : List A) → at + k ≤ length old → length (take k (drop at old)) ≡ k
some-length at k old h = length-take-le k (drop at old) (simp length-drop (omega arith))

pub put-there : {A : Type 0} (at k : ℕ) (old : List A) → at + k ≤ length old → splice at (take k (drop at old)) old ≡ old
put-there at k old h = rw (some-length at k old h, ← drop-drop k at old, take-append-drop k (drop at old)) (take-append-drop at old)

-- behind `first`
pub followed : {A : Type 0} (at k : ℕ) (first old : List A) → length first ≡ at → at + k ≤ length old
    → over (first ++ take k (drop at old)) old ≡ first ++ drop at old
followed at k first old e h =
    let n = length-append first (take k (drop at old)) ∙ (λ t. e t + some-length at k old h t) in
    rw (n, ← drop-drop k at old, append_assoc first (take k (drop at old)), take-append-drop k (drop at old))
