-- No clause: one of two values, by a test. It stays shut where it is cited, so that an equation of a branch can be rewritten. Assumes nothing.
use Rattle.std.specs.Prelude.{Bool, true, false}

unfoldable pub choose : {A : Type 0} → Bool → A → A → A
choose true x y = x
choose false x y = y
