-- A polynomial in k of five factors is S at every index, by one test that is computed over all of them. It stood for the table while the language
-- had no static data; no code works it out now. Assumes nothing.
use mathlib.Core.Path.{◌≡◌, ◌∙◌, ap}
use mathlib.Core.Bool.{Bool}
use Prim.Native.Nat.{ℕ, ◌+◌, ◌-◌, ◌*◌, ◌/◌, ◌≤◌}
use native.Mathlib.Omega.{arith}
use lib.Dec.{T, eqb, eqb→eq}
use Rattle.course.specs.Table.{series, scaled_sine, sine_of}
use Rattle.course.proofs.TableLaws.{all, at}

-- c less p · y, y in 1/2^20
abbrev pub part : ℕ → ℕ → ℕ → ℕ
part c p y = c - p * y / 1048576

-- with y = x²
abbrev pub outer : ℕ → ℕ
outer y = part 1727108818750 (part 710244664784 (part 87619991819 (part 5139275500 166764802 y) y) y) y

abbrev pub rounded : ℕ → ℕ → ℕ
rounded x a = (x * a * 16 + 549755813888) / 1099511627776

test : ℕ → Bool
test k = eqb (rounded k (outer (k * k))) (sine_of k)

passed : T (all test 1025)
unfolding all test series scaled_sine sine_of
passed = tt

-- of the four steps as they are worked out
pub worked : (k a b c d : ℕ)
    → k ≤ 1024
    → d ≡ part 5139275500 166764802 (k * k)
    → c ≡ part 87619991819 d (k * k)
    → b ≡ part 710244664784 c (k * k)
    → a ≡ part 1727108818750 b (k * k)
    → rounded k a ≡ sine_of k
unfolding test
worked k a b c d h p q r s =
    let y = k * k in
    ap (rounded k)
    (s ∙ ap (λ (m : ℕ). part 1727108818750 m y) (r ∙ ap (λ (m : ℕ). part 710244664784 m y) (q ∙ ap (λ (m : ℕ). part 87619991819 m y) p)))
    ∙ eqb→eq (rounded k (outer y)) (sine_of k) (at test 1025 passed k (omega arith))
