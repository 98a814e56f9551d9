-- `length_before` gives the length of what was found, or more than any length. Assumes nothing.
use Rattle.std.proofs.Common.{rules, ◌≡◌, Option, Some, None, refl, subst, sym, arith, ◌<◌, ℕ}
use Rattle.std.specs.Option.{option_map_or}
use Rattle.dubins.specs.declared.Way.{Way}
use Rattle.dubins.specs.Ways.{IsTried, path_along, found_by, no_length, Measures}
use Rattle.dubins.proofs.length_before.Goals as goal

measured : (tried : Option Way) → IsTried tried → (R : ℕ) → Measures (found_by R tried) (option_map_or (λ (w : Way). w.length) tried no_length)
unfolding found_by path_along
measured (Some w) k R = let h : w.length < 2000000 = omega (arith, k) in (refl, h)
measured None k R = refl

pub returns : goal.returns
returns c R =
    let e : c.map_or.result ≡ option_map_or (λ (w : Way). w.length) c.args.best no_length = search rules in
    subst (λ (n : ℕ). Measures (found_by R c.args.best) n) (sym e) (measured c.args.best c.requires R)
