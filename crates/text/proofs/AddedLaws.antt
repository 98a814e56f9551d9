-- One text behind another in a `Text` is the two joined. Assumes nothing.
use mathlib.Core.Path.{refl, ◌∙◌}
use mathlib.Core.List.{List, [], ◌++◌}
use Prim.Native.Nat.{ℕ}
use native.Mathlib.Omega.{arith}
use Rattle.text.specs.declared.Text.{Text}
use Rattle.text.specs.Added.{Fits, Added}
use Rattle.text.proofs.WrittenLaws.{none, then}

pub nothing : (t : Text) → Fits 0 t → Added [] t t
nothing t h = record { wrote = none t.at t.buffer.now (omega (arith, h)); kept = refl; same = refl }

pub joined : {xs ys : List ℕ} {old mid new : Text} → Added xs old mid → Added ys mid new → Added (xs ++ ys) old new
joined v w = record { wrote = then v.wrote w.wrote; kept = w.kept ∙ v.kept; same = w.same ∙ v.same }
