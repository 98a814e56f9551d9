-- Text reads back as what it was made of, and a number has one decimal text. Assumes nothing.
use mathlib.Core.Path.{◌≡◌, refl, sym, ap, ◌∙◌}
use mathlib.Core.List.{List, [], ◌∷◌, ◌++◌}
use mathlib.Core.Logic.{⊎_elim}
use Prim.Native.Nat.{ℕ, zero, suc, ◌+◌, ◌-◌, ◌*◌, ◌/◌, ◌%◌, ◌^◌, ◌≤◌, ◌<◌}
use native.Mathlib.Omega.{arith}
use lib.Dec.{ltb, eqb}
use lib.IntN.{ℤ, pos, negsuc, neg_ℤ}
use lib.ListN.{length, get_or, length-append}
use borrow.Author.Tests.{lt-ltb, le-ltb, ne_eqb}
use Rattle.conditions.specs.Choose.{choose}
use Rattle.conditions.proofs.ChooseLaws.{choose-true, choose-false}
use Rattle.text.specs.Digits.{digits_in, decimal_of, signed_text, hex_digit, hex_of, value, signed_value, hex_digit_value, hex_value, Digit, Digits, Decimal}
use Rattle.text.proofs.DigitLaws.{lt-or-ge, alone, behind, decimal-low, decimal-more}

-- ---- one digit more at the end
value-more : (m d : ℕ) (xs : List ℕ) → value m (xs ++ (d ∷ [])) ≡ value m xs * 10 + (d - 48)
unfolding value
value-more m d [] = refl
value-more m d (x ∷ xs) = value-more (m * 10 + (x - 48)) d xs

digits_more : (d : ℕ) (xs : List ℕ) → Digits xs → Digit d → Digits (xs ++ (d ∷ []))
unfolding Digits
digits_more d [] t h = (h, tt)
digits_more d (x ∷ xs) t h = (t.0, digits_more d xs t.1 h)

first-kept : (d : ℕ) (xs : List ℕ) → 0 < length xs → get_or (xs ++ (d ∷ [])) 0 0 ≡ get_or xs 0 0
first-kept d [] h = absurd (omega arith)
first-kept d (x ∷ xs) h = refl

last-digit : (n : ℕ) → Digit (48 + n % 10)
last-digit n = record { low = omega arith; high = omega arith }

-- ---- what `digits_in` gives, in a form that goes on digit by digit
record Spelled (n : ℕ) (xs : List ℕ) : Type 0 where
  digits : Digits xs
  some : 0 < length xs
  reads : value 0 xs ≡ n
  lead : 0 < n → 48 < get_or xs 0 0
  short : n < 10 → length xs ≡ 1

spelled-alone : (n : ℕ) → n < 10 → Spelled n ((48 + n % 10) ∷ [])
unfolding value Digits
spelled-alone n l =
    record {
      digits = (last-digit n, tt);
      some = omega arith;
      reads = omega arith;
      lead = λ h. omega arith;
      short = λ h. refl;
    }

spelled-behind : (n : ℕ) (xs : List ℕ) → 10 ≤ n → Spelled (n / 10) xs → Spelled n (xs ++ ((48 + n % 10) ∷ []))
spelled-behind n xs m s =
    record {
      digits = digits_more (48 + n % 10) xs s.digits (last-digit n);
      some = rw (length-append xs ((48 + n % 10) ∷ [])) (omega arith);
      reads = value-more 0 (48 + n % 10) xs ∙ rw s.reads (omega arith);
      lead = λ h. rw (first-kept (48 + n % 10) xs s.some) (s.lead (omega arith));
      short = λ h. absurd (omega arith);
    }

spelled : (most n : ℕ) → n < most → Spelled n (digits_in most n)
spelled zero n h = absurd (omega arith)
spelled (suc most) n h =
    ⊎_elim (λ l. rw (alone most n l) (spelled-alone n l))
    (λ m. rw (behind most n m) (spelled-behind n (digits_in most (n / 10)) m (spelled most (n / 10) (omega arith))))
    (lt-or-ge n 10)

pub decimal-is : (n : ℕ) → Decimal n (decimal_of n)
unfolding decimal_of
decimal-is n =
    let s = spelled (suc n) n (omega arith) in
    record {
      digits = s.digits;
      some = s.some;
      reads = s.reads;
      lead = λ h. s.lead (⊎_elim (λ l. absurd (omega (arith, s.short l))) (λ m. omega arith) (lt-or-ge n 10));
    }

-- ---- with a sign
no_minus : (xs : List ℕ) → Digits xs → 0 < length xs → signed_value xs ≡ pos (value 0 xs)
unfolding Digits signed_value
no_minus [] d h = absurd (omega arith)
no_minus (x ∷ xs) d h = choose-false (eqb x 45) (neg_ℤ (pos (value 0 xs))) (pos (value 0 (x ∷ xs))) (ne_eqb x 45 (λ e. omega (arith, d.0.low)))

pub signed_reads : (z : ℤ) → signed_value (signed_text z) ≡ z
unfolding signed_text signed_value choose
signed_reads (pos n) = let d = decimal-is n in no_minus (decimal_of n) d.digits d.some ∙ ap pos d.reads
signed_reads (negsuc n) = ap (λ (m : ℕ). neg_ℤ (pos m)) (decimal-is (suc n)).reads

-- ---- hexadecimal
digit-reads : (d : ℕ) → d < 16 → hex_digit_value (hex_digit d) ≡ d
unfolding hex_digit hex_digit_value
digit-reads d h =
    ⊎_elim
    (λ l.
    rw (choose-true (ltb d 10) (48 + d) (87 + d) (lt-ltb d 10 l), choose-true (ltb (48 + d) 58) (48 + d - 48) (48 + d - 87) (lt-ltb (48 + d) 58 (omega arith)))
    (omega arith))
    (λ m.
    rw (choose-false (ltb d 10) (48 + d) (87 + d) (le-ltb d 10 m), choose-false (ltb (87 + d) 58) (87 + d - 48) (87 + d - 87) (le-ltb (87 + d) 58 (omega arith)))
    (omega arith))
    (lt-or-ge d 10)

hex-value-more : (m d : ℕ) (xs : List ℕ) → hex_value m (xs ++ (d ∷ [])) ≡ hex_value m xs * 16 + hex_digit_value d
unfolding hex_value
hex-value-more m d [] = refl
hex-value-more m d (x ∷ xs) = hex-value-more (m * 16 + hex_digit_value x) d xs

hex-value-none : hex_value 0 [] ≡ 0
unfolding hex_value
hex-value-none = refl

pub hex-reads : (k n : ℕ) → n < 16 ^ k → hex_value 0 (hex_of k n) ≡ n
unfolding hex_of
hex-reads zero n h = hex-value-none ∙ omega arith
hex-reads (suc k) n h =
    hex-value-more 0 (hex_digit (n % 16)) (hex_of k (n / 16))
    ∙ rw (hex-reads k (n / 16) (omega arith), digit-reads (n % 16) (omega arith)) (omega arith)

-- ---- no other text is a number in decimal
-- a list by what stands last in it
record Ends (xs : List ℕ) : Type 0 where
  front : List ℕ
  last : ℕ
  whole : xs ≡ front ++ (last ∷ [])

ends : (x : ℕ) (xs : List ℕ) → Ends (x ∷ xs)
ends x [] = record { front = []; last = x; whole = refl }
ends x (y ∷ ys) = let e = ends y ys in record { front = x ∷ e.front; last = e.last; whole = ap (λ (l : List ℕ). x ∷ l) e.whole }

ends_some : (xs : List ℕ) → 0 < length xs → Ends xs
ends_some [] h = absurd (omega arith)
ends_some (x ∷ xs) h = ends x xs

front-digits : (d : ℕ) (xs : List ℕ) → Digits (xs ++ (d ∷ [])) → Digits xs
unfolding Digits
front-digits d [] t = tt
front-digits d (x ∷ xs) t = (t.0, front-digits d xs t.1)

end-digit : (d : ℕ) (xs : List ℕ) → Digits (xs ++ (d ∷ [])) → Digit d
unfolding Digits
end-digit d [] t = t.0
end-digit d (x ∷ xs) t = end-digit d xs t.1

value_grows : (m : ℕ) (xs : List ℕ) → m ≤ value m xs
unfolding value
value_grows m [] = omega arith
value_grows m (x ∷ xs) = omega (arith, value_grows (m * 10 + (x - 48)) xs)

value-some : (xs : List ℕ) → 48 < get_or xs 0 0 → 0 < value 0 xs
unfolding value
value-some [] h = absurd (omega arith)
value-some (x ∷ xs) h = let f : 48 < x = h in omega (arith, value_grows (0 * 10 + (x - 48)) xs)

value-one : (d : ℕ) → value 0 (d ∷ []) ≡ d - 48
unfolding value
value-one d = omega arith

-- one digit
only_one : (n d : ℕ) → Decimal n (d ∷ []) → d ∷ [] ≡ decimal_of n
unfolding Digits
only_one n d t =
    let g : Digit d = t.digits.0 in
    let v : d - 48 ≡ n = sym (value-one d) ∙ t.reads in
    sym (decimal-low n (omega arith) ∙ ap (λ (m : ℕ). m ∷ []) {x = 48 + n} {y = d} (omega arith))

-- a digit behind others, which are those of a tenth
front-decimal : (n d : ℕ) (xs : List ℕ) → 0 < length xs → Decimal n (xs ++ (d ∷ [])) → Decimal (n / 10) xs × ((10 ≤ n) × (d ≡ 48 + n % 10))
front-decimal n d xs s t =
    let g = end-digit d xs t.digits in
    let v : value 0 xs * 10 + (d - 48) ≡ n = sym (value-more 0 d xs) ∙ t.reads in
    let h : 48 < get_or xs 0 0 = rw (first-kept d xs s) at (t.lead (simp length-append (omega arith))) in
    let p = value-some xs h in (
      record {
        digits = front-digits d xs t.digits;
        some = s;
        reads = omega arith;
        lead = λ _. h;
      },
      (omega arith, omega arith),
    )

joined : (n d : ℕ) (xs : List ℕ) → xs ≡ decimal_of (n / 10) → 10 ≤ n → d ≡ 48 + n % 10 → xs ++ (d ∷ []) ≡ decimal_of n
joined n d xs e h f = rw (e, f) (sym (decimal-more n h))

only_at : (n d : ℕ) (xs : List ℕ) → ((0 < length xs) → Decimal (n / 10) xs → xs ≡ decimal_of (n / 10)) → Decimal n (xs ++ (d ∷ [])) → xs ++ (d ∷ []) ≡ decimal_of n
only_at n d [] r t = only_one n d t
only_at n d (x ∷ xs) r t =
    let s : 0 < length (x ∷ xs) = omega arith in
    let q = front-decimal n d (x ∷ xs) s t in
    joined n d (x ∷ xs) (r s q.0) q.1.0 q.1.1

only-by : (most n : ℕ) (xs : List ℕ) → length xs ≤ most → Decimal n xs → xs ≡ decimal_of n
only-by zero n xs l t = absurd (omega (arith, t.some))
only-by (suc most) n xs l t =
    let e = ends_some xs t.some in
    let k : length e.front ≤ most = omega (arith, simp length-append at (ap length e.whole)) in
    e.whole ∙ only_at n e.last e.front (λ s d. only-by most (n / 10) e.front k d) (rw e.whole at t)

pub decimal-only : (n : ℕ) (text : List ℕ) → Decimal n text → text ≡ decimal_of n
decimal-only n text t = only-by (length text) n text (omega arith) t
