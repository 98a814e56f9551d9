-- Bools by cases, and `both`. Assumes nothing.
use mathlib.Core.Path.{◌≡◌, refl, sym, ◌∙◌}
use mathlib.Core.Bool.{Bool, true, false}
use Prim.Native.Nat.{ℕ}
use native.Mathlib.Omega.{arith}
use Rattle.conditions.specs.Both.{both}

pub by_bool : {A : Type 0} (b : Bool) → (b ≡ true → A) → (b ≡ false → A) → A
by_bool true f g = f refl
by_bool false f g = g refl

pub clash : {A : Type 0} (b : Bool) → b ≡ true → b ≡ false → A
clash b t u =
    let z : ◌≡◌ {A = Bool} true false = sym t ∙ u in
    let e : ◌≡◌ {A = ℕ} 0 1 = cc in
    absurd (omega arith)

-- ---- `both`, by its first test
pub both-on : (a b : Bool) → a ≡ true → both a b ≡ b
unfolding both
both-on a b t = rw t

pub both-off : (a b : Bool) → a ≡ false → both a b ≡ false
unfolding both
both-off a b t = rw t

pub both-off-second : (a b : Bool) → b ≡ false → both a b ≡ false
unfolding both
both-off-second true b t = t
both-off-second false b t = refl

pub both-last : (a b : Bool) → b ≡ true → both a b ≡ a
unfolding both
both-last true b t = t
both-last false b t = refl

pub both_true : (a b : Bool) → a ≡ true → b ≡ true → both a b ≡ true
both_true a b t u = both-on a b t ∙ u

pub both_first : (a b : Bool) → both a b ≡ true → a ≡ true
both_first a b h = by_bool a (λ t. t) (λ u. clash (both a b) h (both-off a b u))

pub both-second : (a b : Bool) → both a b ≡ true → b ≡ true
both-second a b h = sym (both-on a b (both_first a b h)) ∙ h

-- two pairs of tests, taken the other way
pub both-swap : (a b c d : Bool) → both (both a b) (both c d) ≡ both (both a c) (both b d)
unfolding both
both-swap true true c d = refl
both-swap true false true d = refl
both-swap true false false d = refl
both-swap false b c d = refl

pub both-both : (a b c : Bool) → both (both a b) c ≡ both a (both b c)
unfolding both
both-both true b c = refl
both-both false b c = refl
