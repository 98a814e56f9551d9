-- `radius_fits` decides whether a mode has this radius. Assumes nothing.
use mathlib.Core.Path.{◌≡◌, ◌∙◌}
use mathlib.Core.Logic.{inl, inr}
use Prim.Native.Nat.{ℕ}
use mathlib.Core.Logic.{◌⊎◌}
use lib.Dec.{eqb}
use Rattle.plan.specs.declared.Mode.{Mode}
use Rattle.plan.specs.declared.Mode.TheVariants.{Fillets, Dubins}
use Rattle.plan.specs.Limits.{arc_radius, radius_fits}
use Rattle.plan.proofs.LimitLaws.{told, radius-most}
use Rattle.plan.proofs.radius_fits.Goals as goal

with-arcs : (mode : Mode) (R : ℕ) → (mode ≡ Fillets) ⊎ (mode ≡ Dubins) → arc_radius R ≡ radius_fits mode R
unfolding radius_fits
with-arcs mode R (inl e) = rw e
with-arcs mode R (inr e) = rw e

pub returns-in-Lines : goal.returns-in-Lines
unfolding radius_fits
returns-in-Lines c =
    let s = c.args in
    let e : eqb s.radius 0 ≡ radius_fits s.mode s.radius = rw c.in-Lines.is in
    told (eqb s.radius 0) (radius_fits s.mode s.radius) (radius-most s.mode s.radius) e

pub returns-in-Fillets : goal.returns-in-Fillets
returns-in-Fillets c =
    let s = c.args in
    told c.arc_radius.result (radius_fits s.mode s.radius) (radius-most s.mode s.radius) (c.arc_radius.ensures ∙ with-arcs s.mode s.radius c.in-Fillets.is)
