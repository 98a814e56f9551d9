-- A round of `root`, on plain numbers: what holds with k rounds to go holds with one less. Assumes nothing.
use mathlib.Core.Path.{◌≡◌, refl, sym, ap, ◌∙◌}
use Prim.Native.Nat.{ℕ, zero, suc, ◌+◌, ◌-◌, ◌*◌, ◌/◌, ◌%◌, ◌^◌, ◌≤◌, ◌<◌}
use native.Mathlib.Nat.{div-le_self, div-div-eq-div-mul, pow-suc}
use native.Mathlib.Omega.{arith}
use lib.Bits.{bit_and, and_mask}
use lib.Pow.{pow-add}
use Rattle.integers.specs.Root.{IsRoot}
use Rattle.integers.proofs.RootLaws.{digit-one, digit-zero, square-lt}

-- the number that n's leading digits make with k rounds to go
abbrev pub leading : ℕ → ℕ → ℕ
leading n k = n / 4 ^ k

-- The sentence beside the loop: found is the root of n's leading digits, and rest is what they are above its square.
pub record Digits (n found rest k : ℕ) : Type 0 where
  pub few : k ≤ 32
  pub root : IsRoot (leading n k) found
  pub over : found * found + rest ≡ leading n k

-- two digits more
down : (n k : ℕ) → 0 < k → leading n k ≡ leading n (k - 1) / 4
down n zero h = elim h [ ]
down n (suc j) h =
    let e : j ≡ suc j - 1 = omega arith in
    ap (λ (d : ℕ). n / d) (pow-suc 4 j) ∙ sym (div-div-eq-div-mul n (4 ^ j) 4) ∙ ap (λ (i : ℕ). leading n i / 4) e

-- two binary places are one of four
fours : (k : ℕ) → 2 ^ (2 * k) ≡ 4 ^ k
fours zero = refl
fours (suc j) =
    let e : 2 * suc j ≡ 2 * j + 2 = omega arith in
    ap (λ (i : ℕ). 2 ^ i) e ∙ pow-add 2 (2 * j) 2 ∙ ap (λ (x : ℕ). x * 4) (fours j) ∙ sym (pow-suc 4 j)

-- what a round works out: more, and the rest with two digits brought down
abbrev pub more_of : ℕ → ℕ
more_of found = found * 4 % 2 ^ 64 + 1

abbrev pub brought_of : ℕ → ℕ → ℕ → ℕ
brought_of n rest k = rest * 4 % 2 ^ 64 + bit_and (n / 2 ^ ((k - 1) * 2 % 2 ^ 64)) 3

-- no shift loses a digit
pub record Round (n found rest k : ℕ) : Type 0 where
  pub few : k ≤ 32
  pub root : IsRoot (leading n (k - 1) / 4) found
  pub over : found * found + rest ≡ leading n (k - 1) / 4
  pub small : found < 2147483648
  pub under : rest ≤ 2 * found
  pub double : found * 2 % 2 ^ 64 ≡ 2 * found
  pub more : more_of found ≡ 4 * found + 1
  pub brought : brought_of n rest k ≡ 4 * rest + leading n (k - 1) % 4

pub round : (n found rest k : ℕ) → n < 2 ^ 64 → 0 < k → Digits n found rest k → Round n found rest k
round n found rest k fits more d =
    let q = down n k more in
    let l : leading n (k - 1) ≤ n = div-le_self n (4 ^ (k - 1)) in
    let o = d.over in
    let s : found < 2147483648 = square-lt found 2147483648 (omega arith) in
    let h = d.root.high in
    let u : rest ≤ 2 * found = omega arith in
    let f = d.few in
    let e : (k - 1) * 2 % 2 ^ 64 ≡ 2 * (k - 1) = omega arith in
    let t : 2 ^ ((k - 1) * 2 % 2 ^ 64) ≡ 4 ^ (k - 1) = ap (λ (i : ℕ). 2 ^ i) e ∙ fours (k - 1) in
    let p : bit_and (n / 2 ^ ((k - 1) * 2 % 2 ^ 64)) 3 ≡ leading n (k - 1) % 4 = ap (λ (d : ℕ). bit_and (n / d) 3) t ∙ and_mask (leading n (k - 1)) 2 in
    record { few = f; root = rw q at d.root; over = o ∙ q; small = s; under = u; double = omega arith; more = omega arith; brought = omega arith }

-- The next digit is 1 where the rest reaches more, and else 0.
module _ (n found rest k : ℕ) (w : Round n found rest k) where
  one_of : (a b f : ℕ) → a ≡ 4 * found + 1 → b ≡ 4 * rest + leading n (k - 1) % 4 → f ≡ 2 * found → a ≤ b → Digits n (f + 1) (b - a) (k - 1)
  one_of a b f ea eb ef h =
      let o = w.over in
      let i = w.few in
      rw ef (record { few = omega arith; root = digit-one _ found w.root (omega arith); over = omega arith })

  zero_of : (a b f : ℕ) → a ≡ 4 * found + 1 → b ≡ 4 * rest + leading n (k - 1) % 4 → f ≡ 2 * found → b < a → Digits n f b (k - 1)
  zero_of a b f ea eb ef h =
      let o = w.over in
      let i = w.few in
      rw ef (record { few = omega arith; root = digit-zero _ found w.root (omega arith); over = omega arith })

  pub next_one : more_of found ≤ brought_of n rest k → Digits n (found * 2 % 2 ^ 64 + 1) (brought_of n rest k - more_of found) (k - 1)
  next_one = one_of _ _ _ w.more w.brought w.double

  pub next-zero : brought_of n rest k < more_of found → Digits n (found * 2 % 2 ^ 64) (brought_of n rest k) (k - 1)
  next-zero = zero_of _ _ _ w.more w.brought w.double
