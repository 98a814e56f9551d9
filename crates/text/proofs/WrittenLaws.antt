-- One text behind another is the two joined. Assumes nothing.
use mathlib.Core.Path.{refl, sym, ap, ◌∙◌}
use mathlib.Core.List.{List, [], ◌++◌}
use Prim.Native.Nat.{ℕ, ◌+◌, ◌≤◌}
use native.Mathlib.Omega.{arith}
use lib.ListN.{length, length-append, length-take, length-drop}
use Rattle.buffers.specs.Splice.{splice}
use Rattle.buffers.proofs.SpliceLaws.{further, unchanged}
use Rattle.text.specs.Written.{Wrote}

pub none : (at : ℕ) (old : List ℕ) → at ≤ length old → Wrote at [] old old at
none at old h = record { bytes = sym (unchanged at old); ends = omega arith; inside = h }

-- text that stands whole in a buffer starts in it
starts : {at end : ℕ} {text old new : List ℕ} → Wrote at text old new end → at ≤ length old
starts {at} {end} {text} {old} w =
    let l = simp (length-append, length-take, length-drop) at (ap length w.bytes) in
    omega (arith, l, w.ends, w.inside)

pub then : {at mid end : ℕ} {xs ys old between new : List ℕ} → Wrote at xs old between mid → Wrote mid ys between new end → Wrote at (xs ++ ys) old new end
then {at} {mid} {end} {xs} {ys} {old} {between} {new} v w =
    record {
      bytes = w.bytes ∙ ap (λ (m : ℕ). splice m ys between) v.ends ∙ ap (splice (at + length xs) ys) v.bytes
          ∙ further at (length xs) xs ys old refl (starts v);
      ends = simp length-append (omega (arith, v.ends, w.ends));
      inside = w.inside;
    }
