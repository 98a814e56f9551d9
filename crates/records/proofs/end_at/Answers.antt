-- `end_at` by its tests: cut short in its head, or in its body. Assumes nothing.
use mathlib.Core.Path.{◌≡◌, sym, ap, ◌∙◌}
use Prim.Native.Nat.{ℕ, ◌+◌}
use lib.ListN.{get_or}
use native.Mathlib.Omega.{arith}
use Rattle.std.proofs.Common.{Some}
use Rattle.records.proofs.StepLaws.{cut, not-cut}
use Rattle.records.proofs.end_at.Goals as goal
use Rattle.records.proofs.end_at.Goals.{In_ok-size}

-- the size that was read
size_read : (c : In_ok-size) → c.in_ok-size.field-0.now ≡ get_or c.args.file.now (c.args.at + 1) 0
size_read c = (c.in_ok-size.ensures {u = tt}).lookup.3.1 0 ∙ ap (λ (i : ℕ). get_or c.args.file.now i 0) (c.in_ok-checked_add.ensures {u = tt}).1

pub returns-in_err-checked_add : goal.returns-in_err-checked_add
returns-in_err-checked_add c = c.from_residual.ensures ∙ sym (cut _ _ (omega arith))

pub returns-in_err-size : goal.returns-in_err-size
returns-in_err-size c =
    let l = (c.in_err-size.ensures {u = tt}).lookup.3 in
    let m = (c.in_ok-checked_add.ensures {u = tt}).1 in
    c.from_residual-in_err-size.ensures ∙ sym (cut _ _ (omega (arith, l, m)))

pub returns-then-end-file : goal.returns-then-end-file
returns-then-end-file c =
    let e = c.from.ensures ∙ size_read (goal.at.returns-then-end-file c).In_ok-size in
    ap (λ (n : ℕ). Some (c.args.at + 2 + n)) e ∙ sym (not-cut _ _ (omega (arith, e, c.if-end-file.true)))

pub returns-else-end-file : goal.returns-else-end-file
returns-else-end-file c =
    let e = c.from.ensures ∙ size_read (goal.at.returns-else-end-file c).In_ok-size in
    sym (cut _ _ (omega (arith, e, c.if-end-file.false)))
