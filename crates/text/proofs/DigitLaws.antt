-- The digits of a number, by its last one, and how many there are. Assumes nothing.
use mathlib.Core.Path.{◌≡◌, refl, sym, ap, ◌∙◌}
use mathlib.Core.List.{List, [], ◌∷◌, ◌++◌}
use mathlib.Core.Logic.{◌⊎◌, inl, inr, ⊎_elim}
use Prim.Native.Nat.{ℕ, zero, suc, ◌+◌, ◌-◌, ◌/◌, ◌%◌, ◌^◌, ◌≤◌, ◌<◌}
use native.Mathlib.Omega.{arith}
use lib.Dec.{ltb, ltb→lt}
use lib.Signed.{◌≤ℤ◌, ◌<ℤ◌}
use lib.IntN.{ℤ, pos, negsuc, nat_abs}
use lib.ListN.{length, length-append}
use borrow.Author.Tests.{lt-ltb, le-ltb}
use Rattle.conditions.proofs.ChooseLaws.{choose-true, choose-false}
use Rattle.text.specs.Digits.{digits_in, decimal_of, signed_text, hex_digit, hex_of}

pub lt-or-ge : (m n : ℕ) → (m < n) ⊎ (n ≤ m)
lt-or-ge m zero = inr (omega arith)
lt-or-ge zero (suc n) = inl (omega arith)
lt-or-ge (suc m) (suc n) = ⊎_elim (λ l. inl (omega arith)) (λ l. inr (omega arith)) (lt-or-ge m n)

-- ---- a last digit alone, or behind others
pub alone : (most n : ℕ) → n < 10 → digits_in (suc most) n ≡ (48 + n % 10) ∷ []
unfolding digits_in
alone most n h = simp (choose-true (ltb n 10) [] (digits_in most (n / 10)) (lt-ltb n 10 h))

pub behind : (most n : ℕ) → 10 ≤ n → digits_in (suc most) n ≡ digits_in most (n / 10) ++ ((48 + n % 10) ∷ [])
unfolding digits_in
behind most n h = simp (choose-false (ltb n 10) [] (digits_in most (n / 10)) (le-ltb n 10 h))

-- more room than enough gives no other digits
same_digits : (f g n : ℕ) → n < f → n < g → digits_in f n ≡ digits_in g n
same_digits zero g n h k = absurd (omega arith)
same_digits (suc f) zero n h k = absurd (omega arith)
same_digits (suc f) (suc g) n h k =
    ⊎_elim (λ l. alone f n l ∙ sym (alone g n l))
    (λ m. behind f n m ∙ ap (λ (l : List ℕ). l ++ ((48 + n % 10) ∷ [])) (same_digits f g (n / 10) (omega arith) (omega arith)) ∙ sym (behind g n m))
    (lt-or-ge n 10)

pub decimal-low : (n : ℕ) → n < 10 → decimal_of n ≡ (48 + n) ∷ []
unfolding decimal_of
decimal-low n h = alone n n h ∙ ap (λ (m : ℕ). (48 + m) ∷ []) {x = n % 10} {y = n} (omega arith)

pub decimal-more : (n : ℕ) → 10 ≤ n → decimal_of n ≡ decimal_of (n / 10) ++ ((48 + n % 10) ∷ [])
unfolding decimal_of
decimal-more n h =
    behind n n h
    ∙ ap (λ (l : List ℕ). l ++ ((48 + n % 10) ∷ [])) (same_digits n (suc (n / 10)) (n / 10) (omega arith) (omega arith))

-- a number below 10^(k+1) has at most k+1 digits
pub decimal-length : (k n : ℕ) → n < 10 ^ suc k → length (decimal_of n) ≤ suc k
decimal-length zero n h = rw (decimal-low n (omega arith)) (omega arith)
decimal-length (suc k) n h =
    ⊎_elim (λ l. rw (decimal-low n l) (omega arith))
    (λ m.
    rw (decimal-more n m, length-append (decimal_of (n / 10)) ((48 + n % 10) ∷ [])) (omega (arith, decimal-length k (n / 10) (omega arith))))
    (lt-or-ge n 10)

-- ---- a sign, or none
pub signed-negative : (z : ℤ) → z <ℤ pos 0 → signed_text z ≡ 45 ∷ decimal_of (nat_abs z)
unfolding signed_text
signed-negative (pos n) h = absurd (omega (arith, ltb→lt n 0 h.lt))
signed-negative (negsuc n) h = refl

pub signed-else : (z : ℤ) → pos 0 ≤ℤ z → signed_text z ≡ decimal_of (nat_abs z)
unfolding signed_text
signed-else (pos n) h = refl
signed-else (negsuc n) h = absurd h.le

-- ---- hexadecimal digits
pub hex-none : (n : ℕ) → hex_of 0 n ≡ []
unfolding hex_of
hex-none n = refl

pub hex-more : (k n : ℕ) → 0 < k → hex_of k n ≡ hex_of (k - 1) (n / 16) ++ (hex_digit (n % 16) ∷ [])
unfolding hex_of
hex-more zero n h = absurd (omega arith)
hex-more (suc k) n h = ap (λ (m : ℕ). hex_of m (n / 16) ++ (hex_digit (n % 16) ∷ [])) {x = k} {y = suc k - 1} (omega arith)

pub hex-length : (k n : ℕ) → length (hex_of k n) ≡ k
unfolding hex_of
hex-length zero n = refl
hex-length (suc k) n = rw (length-append (hex_of k (n / 16)) (hex_digit (n % 16) ∷ []), hex-length k (n / 16)) (omega arith)
