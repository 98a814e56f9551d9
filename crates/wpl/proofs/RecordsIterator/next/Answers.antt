-- `next` reads a record from the front, or none where it is cut short. Assumes nothing.
use mathlib.Core.Path.{ap, ◌∙◌}
use Prim.Native.Nat.{◌≤◌}
use lib.ListN.{length, take, drop}
use native.Mathlib.Omega.{arith}
use Rattle.wpl.proofs.ListedLaws.{behind, listed-few, listed-cut, listed-more}
use Rattle.wpl.proofs.RecordsIterator.next.Goals as goal

pub returns-in_default-clause-steps : goal.returns-in_default-clause-steps
returns-in_default-clause-steps c = let e = listed-few _ c.in_default.len_below in (e, e)

pub returns-in_err-body-clause-steps : goal.returns-in_err-body-clause-steps
returns-in_err-body-clause-steps c =
    let s = c.args.self.now.0.now in
    let z = (c.in_err-body.ensures {u = tt}).cases in
    let l : 2 ≤ length s = omega (arith, c.in-len2-up.len_at_least) in
    let p = listed-cut s l (omega (arith, z, ap length (behind s l), c.from.ensures)) in
    rw c.from_residual.ensures (p, p)

pub returns-clause-steps : goal.returns-clause-steps
returns-clause-steps c =
    let s = c.args.self.now.0.now in
    let z = (c.in_ok-body.ensures {u = tt}).cases in
    let l : 2 ≤ length s = omega (arith, c.in-len2-up.len_at_least) in
    let b = behind s l in
    listed-more s _ _ l (omega (arith, z.0, ap length b, c.from.ensures))
    (z.1 ∙ (λ i. take (c.from.ensures i) (b i))) (z.2 ∙ (λ i. drop (c.from.ensures i) (b i)))

pub returns-clause-goes : goal.returns-clause-goes
returns-clause-goes c =
    let e = returns-clause-steps c in
    record { on = λ _. (tt, tt, omega (arith, ap length e)); keeps = tt; rests = λ _. tt }
