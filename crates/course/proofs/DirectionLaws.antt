-- Laws of D(k), for every k: its neighbour, its quarter turns, and clauses 2.2 and 2.5 of the table. Assumes nothing.
use mathlib.Core.Path.{◌≡◌, refl, sym, ap, ◌∙◌, subst}
use Prim.Native.Nat.{ℕ, zero, suc, ◌+◌, ◌*◌, ◌-◌, ◌/◌, ◌%◌, ◌<◌}
use native.Mathlib.Omega.{arith}
use native.Mathlib.Decide.{dec_lt}
use lib.IntN.{ℤ, pos, neg_ℤ, neg_ℤ-neg_ℤ}
use lib.Signed.{◌≤ℤ◌}
use Rattle.integers.proofs.BoundLaws.{within-neg}
use Rattle.integers.proofs.Ring.{v, lit, add, sub, neg, mul, same, le}
use Rattle.course.specs.declared.Vector.{Vector}
use Rattle.course.specs.Table.{sine_of}
use Rattle.course.specs.Vectors.{Near, plain, cross, squared_length}
use Rattle.course.specs.Direction.{quarter, turned, direction_of, TableFacts}
use Rattle.course.proofs.VectorLaws.{vector}
use Rattle.course.proofs.TableLaws.{table-rule, rises, sine-0, sine-512, sine-1024, sine-most}

-- ---- quarter turns
pub four_quarters : (u : Vector) → quarter (quarter (quarter (quarter u))) ≡ u
unfolding quarter
four_quarters u = vector (neg_ℤ-neg_ℤ u.north) (neg_ℤ-neg_ℤ u.east)

turned-rest : (n r : ℕ) (u : Vector) → turned (r + 4 * n) u ≡ turned r u
unfolding turned
turned-rest zero r u = ap (λ (q : ℕ). turned q u) {x = r + 4 * 0} {y = r} (omega arith)
turned-rest (suc n) r u =
    ap (λ (q : ℕ). turned q u) {x = r + 4 * suc n} {y = suc (suc (suc (suc (r + 4 * n))))} (omega arith)
    ∙ four_quarters (turned (r + 4 * n) u) ∙ turned-rest n r u

-- four quarters are none
pub turned_round : (q : ℕ) (u : Vector) → turned (q % 4) u ≡ turned q u
turned_round q u = sym (turned-rest (q / 4) (q % 4) u) ∙ ap (λ (n : ℕ). turned n u) {x = q % 4 + 4 * (q / 4)} {y = q} (omega arith)

turned-quarter : (q : ℕ) (u : Vector) → turned q (quarter u) ≡ quarter (turned q u)
unfolding turned
turned-quarter zero u = refl
turned-quarter (suc q) u = ap quarter (turned-quarter q u)

-- a quarter turn of both vectors keeps the cross product, and of one its length
cross-quarter : (u w : Vector) → cross (quarter u) (quarter w) ≡ cross u w
unfolding cross quarter
cross-quarter u w =
    same (sub (mul (neg (v u.east)) (v w.north)) (mul (v u.north) (neg (v w.east))))
    (sub (mul (v u.north) (v w.east)) (mul (v u.east) (v w.north))) (omega arith)

pub cross-turned : (q : ℕ) (u w : Vector) → cross (turned q u) (turned q w) ≡ cross u w
unfolding turned
cross-turned zero u w = refl
cross-turned (suc q) u w = cross-quarter (turned q u) (turned q w) ∙ cross-turned q u w

length-quarter : (u : Vector) → squared_length (quarter u) ≡ squared_length u
unfolding squared_length quarter
length-quarter u =
    same (add (mul (neg (v u.east)) (neg (v u.east))) (mul (v u.north) (v u.north)))
    (add (mul (v u.north) (v u.north)) (mul (v u.east) (v u.east))) (omega arith)

length-turned : (q : ℕ) (u : Vector) → squared_length (turned q u) ≡ squared_length u
unfolding turned
length-turned zero u = refl
length-turned (suc q) u = length-quarter (turned q u) ∙ length-turned q u

-- and the bound of its parts
quarter-near : {n : ℕ} (u : Vector) → Near n u → Near n (quarter u)
unfolding quarter
quarter-near u h = record { north = within-neg h.east; east = h.north }

pub turned-near : {n : ℕ} (q : ℕ) (u : Vector) → Near n u → Near n (turned q u)
unfolding turned
turned-near zero u h = h
turned-near (suc q) u h = quarter-near (turned q u) (turned-near q u h)

-- (a, b) turned, by the number of quarters
pub turned-0 : (q : ℕ) (a b : ℤ) → q ≡ 0 → turned q (record { north = a; east = b }) ≡ record { north = a; east = b }
unfolding turned
turned-0 q a b h = rw h

pub turned-1 : (q : ℕ) (a b : ℤ) → q ≡ 1 → turned q (record { north = a; east = b }) ≡ record { north = neg_ℤ b; east = a }
unfolding turned quarter
turned-1 q a b h = rw h

pub turned-2 : (q : ℕ) (a b : ℤ) → q ≡ 2 → turned q (record { north = a; east = b }) ≡ record { north = neg_ℤ a; east = neg_ℤ b }
unfolding turned quarter
turned-2 q a b h = rw h

pub turned-3 : (q : ℕ) (a b : ℤ) → q ≡ 3 → turned q (record { north = a; east = b }) ≡ record { north = b; east = neg_ℤ a }
unfolding turned quarter
turned-3 q a b h = rw h (vector (neg_ℤ-neg_ℤ b) refl)

-- ---- D(k) and its neighbour
-- the first quarter, its end 1,024 included
abbrev pub first : ℕ → Vector
first j = plain (sine_of (1024 - j)) (sine_of j)

pub direction-here : (k : ℕ) → direction_of k ≡ turned (k / 1024) (first (k % 1024))
unfolding direction_of
direction-here k = refl

-- the start of a quarter is the end of the one before it
quarter-end : quarter (first 0) ≡ first 1024
unfolding quarter
quarter-end = vector (ap (λ (m : ℕ). neg_ℤ (pos m)) sine-0 ∙ sym (ap pos sine-0)) refl

pub same-turned : (q q' j j' : ℕ) → q ≡ q' → j ≡ j' → turned q (first j) ≡ turned q' (first j')
same-turned q q' j j' p r = cc

-- D(k+1) lies in the quarter of D(k), its end included: so no case is left where the indices go round
next-dec : (k : ℕ) → Dec (k % 1024 < 1023) → direction_of (suc k) ≡ turned (k / 1024) (first (suc (k % 1024)))
unfolding turned
next-dec k (yes p) = direction-here (suc k) ∙ same-turned (suc k / 1024) (k / 1024) (suc k % 1024) (suc (k % 1024)) (omega arith) (omega arith)
next-dec k (no p) =
    direction-here (suc k)
    ∙ same-turned (suc k / 1024) (suc (k / 1024)) (suc k % 1024) 0 (omega arith) (omega arith)
    ∙ sym (turned-quarter (k / 1024) (first 0))
    ∙ ap (turned (k / 1024)) quarter-end
    ∙ same-turned (k / 1024) (k / 1024) 1024 (suc (k % 1024)) refl (omega arith)

pub direction-next : (k : ℕ) → direction_of (suc k) ≡ turned (k / 1024) (first (suc (k % 1024)))
direction-next k = next-dec k (dec_lt (k % 1024) 1023)

pub direction-near : (k : ℕ) → Near 16384 (direction_of k)
direction-near k =
    let j = k % 1024 in
    subst (Near 16384) (sym (direction-here k))
    (turned-near (k / 1024) (first j) (record { north = record { within = sine-most (1024 - j) (omega arith) }; east = record { within = sine-most j (omega arith) } }))

-- ---- 2.2 and 2.5
length-here : (k : ℕ) → squared_length (direction_of k) ≡ squared_length (first (k % 1024))
length-here k = ap squared_length (direction-here k) ∙ length-turned (k / 1024) (first (k % 1024))

cross-here : (k : ℕ) → cross (direction_of k) (direction_of (suc k)) ≡ cross (first (k % 1024)) (first (suc (k % 1024)))
cross-here k =
    (λ i. cross (direction-here k i) (direction-next k i)) ∙ cross-turned (k / 1024) (first (k % 1024)) (first (suc (k % 1024)))

record FactsAt (k : ℕ) : Type 0 where
  long : pos (268435456 - 23171) ≤ℤ squared_length (direction_of k)
  short : squared_length (direction_of k) ≤ℤ pos (268435456 + 23171)
  apart : pos 388000 ≤ℤ cross (direction_of k) (direction_of (suc k))
  close : cross (direction_of k) (direction_of (suc k)) ≤ℤ pos 435500

facts_at : (k : ℕ) → FactsAt k
unfolding squared_length cross
facts_at k =
    let j = k % 1024 in
    let t = table-rule j (omega arith) in
    let north = sine_of (1024 - j) in
    let east = sine_of j in
    let length = add (mul (lit north) (lit north)) (mul (lit east) (lit east)) in
    let turn = sub (mul (lit north) (lit (sine_of (suc j)))) (mul (lit east) (lit (sine_of (1024 - suc j)))) in
    let e : sine_of (1024 - suc j) ≡ sine_of (1023 - j) = ap sine_of {x = 1024 - suc j} {y = 1023 - j} (omega arith) in
    let f : sine_of j * sine_of (1024 - suc j) ≡ sine_of j * sine_of (1023 - j) = ap (λ (n : ℕ). sine_of j * n) e in
    record {
      long = rw (length-here k) (le (lit (268435456 - 23171)) length (omega arith));
      short = rw (length-here k) (le length (lit (268435456 + 23171)) (omega arith));
      apart = rw (cross-here k) (le (lit 388000) turn (omega arith));
      close = rw (cross-here k) (le turn (lit 435500) (omega arith));
    }

pub table-facts : TableFacts
table-facts =
    record {
      first = sine-0;
      middle = sine-512;
      last = sine-1024;
      rises = rises;
      long = λ k. (facts_at k).long;
      short = λ k. (facts_at k).short;
      apart = λ k. (facts_at k).apart;
      close = λ k. (facts_at k).close;
    }
