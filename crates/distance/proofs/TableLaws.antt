-- A table that is written from its last entry to the first. Assumes nothing.
use mathlib.Core.Path.{◌≡◌, refl, sym, ap, ◌∙◌}
use mathlib.Core.List.{List, [], ◌∷◌, ◌++◌, append_assoc}
use Prim.Native.Nat.{ℕ, suc, ◌+◌, ◌-◌, ◌<◌}
use native.Mathlib.Omega.{arith}
use lib.ListN.{length, get_or, set, take, drop}
use lib.Seq.{take-suc, set_at, length-take-le}
use Rattle.buffers.specs.Splice.{splice}
use Rattle.buffers.proofs.SpliceLaws.{unchanged}
use Rattle.plan.specs.declared.Plan.{Plan}
use Rattle.distance.specs.Lengths.{plan_length, entry_of}
use Rattle.distance.specs.Table.{entries_from, entries_of}
use Rattle.distance.specs.Pass.{told_from}

-- one element in front of those that were replaced; `d` is what is read past the end
pub put-before : {A : Type 0} (d : A) (at : ℕ) (x : A) (new old : List A) → at < length old → set (splice (at + 1) new old) at x ≡ splice at (x ∷ new) old
put-before d at x new old h =
    let e : at + 1 + length new ≡ at + suc (length new) = omega arith in
    let s : at + 1 ≡ suc at = omega arith in
    let rest = new ++ drop (at + suc (length new)) old in
    rw (e, s, take-suc old at d h, append_assoc (take at old) (get_or old at d ∷ []) rest)
    (set_at (take at old) (get_or old at d) rest x at (length-take-le at old (omega arith)))

-- ---- the loop: the entries from index i + 2 on are written
module _ (p : Plan) (table : List ℕ) where
  pub written_start : told_from p p.head.count table ≡ table
  unfolding told_from entries_from
  written_start = let e : p.head.count - p.head.count ≡ 0 = omega arith in rw e (unchanged (p.head.count + 1) table)

  -- an entry more
  pub written_next : (i x : ℕ) (now : List ℕ) → i < p.head.count → i + 1 < length table → x ≡ plan_length p i → now ≡ told_from p (i + 1) table
      → set now (i + 1) x ≡ told_from p i table
  unfolding told_from entries_from entry_of
  written_next i x now h r e w =
      let b : p.head.count - i ≡ suc (p.head.count - (i + 1)) = omega arith in
      let k : i + 1 - 1 ≡ i = omega arith in
      let f : x ≡ entry_of p (i + 1) = e ∙ ap (plan_length p) (sym k) in
      (λ j. set (w j) (i + 1) (f j)) ∙ put-before 0 (i + 1) (entry_of p (i + 1)) (entries_from p (p.head.count - (i + 1)) (i + 1 + 1)) table r ∙ rw b

-- all entries of a plan
pub told-all : (p : Plan) (table : List ℕ) → told_from p 1 table ≡ splice 2 (entries_of p) table
unfolding told_from entries_of
told-all p table = refl
