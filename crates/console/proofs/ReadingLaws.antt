-- What stands behind the bytes that were read, one read after another. Assumes nothing.
use mathlib.Core.Path.{◌≡◌, sym, ap, ◌∙◌}
use mathlib.Core.List.{List, ◌++◌}
use Prim.Native.Nat.{ℕ, ◌+◌, ◌≤◌}
use native.Mathlib.Omega.{arith}
use lib.ListN.{length, take, drop}
use lib.Seq.{length-take-le, drop-append-add, drop-drop}
use Rattle.buffers.specs.Splice.{splice}

-- what a splice leaves behind the bytes that it brings
pub left_behind : (at count : ℕ) (new old back : List ℕ) → length new ≡ count → at ≤ length old → back ≡ splice at new old
    → drop (at + count) back ≡ drop (at + count) old
left_behind at count new old back n h e =
    let rest = drop (at + length new) old in
    let f : at + count ≡ length (take at old) + length new = omega (arith, length-take-le at old h) in
    let z : length new ≡ length new + 0 = omega arith in
    ap (drop (at + count)) e
    ∙ ap (λ (k : ℕ). drop k (take at old ++ (new ++ rest))) f
    ∙ drop-append-add (take at old) (new ++ rest) (length new)
    ∙ ap (λ (k : ℕ). drop k (new ++ rest)) z
    ∙ drop-append-add new rest 0
    ∙ ap (λ (k : ℕ). drop (at + k) old) n

-- what was untouched behind some bytes is so behind more of them
pub left-further : (done more next : ℕ) (first old new : List ℕ) → next ≡ done + more → drop done old ≡ drop done first
    → drop (done + more) new ≡ drop (done + more) old → drop next new ≡ drop next first
left-further done more next first old new e a b =
    ap (λ (k : ℕ). drop k new) e
    ∙ b
    ∙ sym (drop-drop more done old)
    ∙ ap (drop more) a
    ∙ drop-drop more done first
    ∙ ap (λ (k : ℕ). drop k first) (sym e)
