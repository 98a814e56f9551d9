-- Where 5·a·b and the size of cross(a, b) come to more than 0, the turn between a and b is easy. Assumes nothing.
use mathlib.Core.Path.{◌≡◌, refl, sym, ap, ◌∙◌, subst}
use mathlib.Core.Logic.{◌⊎◌, inl, inr, ⊎_elim}
use mathlib.Core.Bool.{Bool, true, false}
use Prim.Native.Nat.{ℕ, ◌+◌, ◌-◌, ◌%◌, ◌≤◌, ◌<◌}
use native.Mathlib.Omega.{arith}
use native.Mathlib.Decide.{dec_lt}
use lib.Dec.{leb}
use lib.IntN.{ℤ, pos, negsuc, neg_ℤ, nat_abs, ◌+ℤ◌, ◌-ℤ◌, ◌*ℤ◌}
use lib.Signed.{lt_z, ◌≤ℤ◌, ◌<ℤ◌, yes_non_neg, pos-nat_abs}
use borrow.Author.Tests.{leb-true, leb-false}
use Rattle.conditions.specs.Choose.{choose}
use Rattle.conditions.proofs.ChooseLaws.{choose-true, choose-false}
use Rattle.conditions.proofs.Bools.{by_bool}
use Rattle.integers.proofs.Ring.{v, lit, add, sub, neg, mul, same, le, le_of, lt_of, lt-le}
use Rattle.integers.proofs.Tests.{lt_yes, lt_no}
use Rattle.integers.proofs.WrapLaws.{wrap-sub}
use Rattle.course.specs.declared.Vector.{Vector}
use Rattle.course.specs.Vectors.{cross}
use Rattle.course.specs.Bearing.{bearing_of}
use Rattle.course.proofs.BearingLaws.{bearing-low}
use Rattle.course.proofs.EasyTurnLaws.{beyond, at-most-easy}
use Rattle.plane.specs.Level.{dot_of}
use Rattle.fillets.specs.Corners.{lesser_turn, turn_between, easy_turn, turns_easily}

-- ---- the lesser of two ways round, of which one is i units
lesser : (d i : ℕ) → i ≤ easy_turn → (d ≡ i) ⊎ (d + i ≡ 4096) → choose (leb d 2048) d (4096 - d) ≤ easy_turn
lesser d i h s =
    by_bool (leb d 2048)
    (λ t.
    let l : d ≤ 2048 = leb-true d 2048 t in
    rw (choose-true (leb d 2048) d (4096 - d) t) (⊎_elim (λ (e : d ≡ i). omega arith) (λ (e : d + i ≡ 4096). omega arith) s))
    (λ t.
    let l : 2048 < d = leb-false d 2048 t in
    rw (choose-false (leb d 2048) d (4096 - d) t) (⊎_elim (λ (e : d ≡ i). omega arith) (λ (e : d + i ≡ 4096). omega arith) s))

way_on : (j i : ℕ) → j < 4096 → i ≤ easy_turn → ((j + i) % 4096 + 4096 - j) % 4096 ≡ i
way_on j i h l = omega arith

way_back : (k i : ℕ) → k < 4096 → i ≤ easy_turn → Dec (0 < i) → ((k + 4096 - (k + i) % 4096) % 4096 ≡ i) ⊎ ((k + 4096 - (k + i) % 4096) % 4096 + i ≡ 4096)
way_back k i h l (yes p) = inr (omega arith)
way_back k i h l (no p) = inl (omega arith)

turn_on : (j i : ℕ) → j < 4096 → i ≤ easy_turn → lesser_turn j ((j + i) % 4096) ≤ easy_turn
unfolding lesser_turn
turn_on j i h l = rw (wrap-sub ((j + i) % 4096) j (omega arith)) (lesser (((j + i) % 4096 + 4096 - j) % 4096) i l (inl (way_on j i h l)))

turn-back : (k i : ℕ) → k < 4096 → i ≤ easy_turn → lesser_turn ((k + i) % 4096) k ≤ easy_turn
unfolding lesser_turn
turn-back k i h l = rw (wrap-sub k ((k + i) % 4096) (omega arith)) (lesser ((k + 4096 - (k + i) % 4096) % 4096) i l (way_back k i h l (dec_lt 0 i)))

-- ---- the law, to the right and to the left
right_of_lem : (a b : Vector) → pos 5 *ℤ dot_of a b +ℤ cross a b ≡ cross b (beyond a)
unfolding dot_of cross beyond
right_of_lem a b =
    let n = v a.north in
    let e = v a.east in
    let m = v b.north in
    let f = v b.east in
    same (add (mul (lit 5) (add (mul n m) (mul e f))) (sub (mul n f) (mul e m)))
    (sub (mul m (sub (mul (lit 5) n) e)) (mul f (sub (neg (mul (lit 5) e)) n))) (omega arith)

left-of : (a b : Vector) → pos 5 *ℤ dot_of a b -ℤ cross a b ≡ cross a (beyond b)
unfolding dot_of cross beyond
left-of a b =
    let n = v a.north in
    let e = v a.east in
    let m = v b.north in
    let f = v b.east in
    same (sub (mul (lit 5) (add (mul n m) (mul e f))) (sub (mul n f) (mul e m)))
    (sub (mul n (sub (mul (lit 5) m) f)) (mul e (sub (neg (mul (lit 5) f)) m))) (omega arith)

swapped : (a b : Vector) → cross a b ≤ℤ pos 0 → pos 0 ≤ℤ cross b a
unfolding cross
swapped a b h =
    let n = v a.north in
    let e = v a.east in
    let m = v b.north in
    let f = v b.east in
    le (lit 0) (sub (mul m e) (mul f n)) (omega (arith, le_of (sub (mul n f) (mul e m)) (lit 0) h))

module _ (a b : Vector) where
  easy-right : pos 0 ≤ℤ cross a b → pos 0 <ℤ (pos 5 *ℤ dot_of a b +ℤ cross a b) → turn_between a b ≤ easy_turn
  unfolding turn_between
  easy-right h k =
      let p = at-most-easy a b h (subst (λ (z : ℤ). pos 0 <ℤ z) (right_of_lem a b) k) in
      rw p.bears (turn_on (bearing_of a) p.by (bearing-low a) (omega (arith, p.few)))

  easy-left : cross a b ≤ℤ pos 0 → pos 0 <ℤ (pos 5 *ℤ dot_of a b -ℤ cross a b) → turn_between a b ≤ easy_turn
  unfolding turn_between
  easy-left h k =
      let p = at-most-easy b a (swapped a b h) (subst (λ (z : ℤ). pos 0 <ℤ z) (left-of a b) k) in
      rw p.bears (turn-back (bearing_of b) p.by (bearing-low b) (omega (arith, p.few)))

  -- the size of the cross product, by its sign
  pub easy-not-left : lt_z (cross a b) (pos 0) ≡ false → lt_z (pos 0) (pos 5 *ℤ dot_of a b +ℤ cross a b) ≡ turns_easily a b
  unfolding turns_easily
  easy-not-left t = ap (λ (z : ℤ). lt_z (pos 0) (pos 5 *ℤ dot_of a b +ℤ z)) (sym (pos-nat_abs (cross a b) (yes_non_neg (lt_no (cross a b) (pos 0) t))))

  pub easy-not-right : lt_z (cross a b) (pos 0) ≡ true → lt_z (pos 0) (pos 5 *ℤ dot_of a b -ℤ cross a b) ≡ turns_easily a b
  unfolding turns_easily
  easy-not-right t = ap (λ (z : ℤ). lt_z (pos 0) (pos 5 *ℤ dot_of a b +ℤ z)) (negated (cross a b) (lt_yes (cross a b) (pos 0) t))
    where
      negated : (z : ℤ) → z <ℤ pos 0 → neg_ℤ z ≡ pos (nat_abs z)
      negated (pos n) h = absurd (omega (arith, lt_of (lit n) (lit 0) h))
      negated (negsuc n) h = refl

  pub easily-means : turns_easily a b ≡ true → turn_between a b ≤ easy_turn
  easily-means e =
      by_bool (lt_z (cross a b) (pos 0))
      (λ t. easy-left (lt-le (lt_yes (cross a b) (pos 0) t)) (lt_yes (pos 0) (pos 5 *ℤ dot_of a b -ℤ cross a b) (easy-not-right t ∙ e)))
      (λ t. easy-right (lt_no (cross a b) (pos 0) t) (lt_yes (pos 0) (pos 5 *ℤ dot_of a b +ℤ cross a b) (easy-not-left t ∙ e)))

  -- an equation, and what it says
  pub easily-carried : {r : Bool} → r ≡ turns_easily a b → r ≡ true → turn_between a b ≤ easy_turn
  easily-carried e t = easily-means (sym e ∙ t)
