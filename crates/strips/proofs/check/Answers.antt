-- `check` lends the plan of a state to `check_from`. Assumes nothing.
use mathlib.Core.Path.{◌≡◌, sym, ap, ◌∙◌, subst}
use Prim.Native.Nat.{ℕ}
use Rattle.std.proofs.Common.{Result}
use Rattle.plan.specs.declared.Plan.{Plan}
use Rattle.manager.specs.declared.State.{State}
use Rattle.manager.specs.State.{with_progress}
use Rattle.strips.specs.declared.Fault.{Fault}
use Rattle.strips.specs.Check.{check_of, checked_as, numbered, Tied, OneAnswer}
use Rattle.strips.specs.Holds.{StripsHold}
use Rattle.strips.proofs.Anchors.{strips-hold}
use Rattle.strips.proofs.CheckLaws.{told}
use Rattle.strips.proofs.TiedLaws.{tied, one_answer}
use Rattle.strips.proofs.check.Goals as goal

-- an equation, and with it what the check owes
promise : (s : State) {r : Result ℕ Fault} → r ≡ checked_as (check_of s)
    → (r ≡ checked_as (check_of s)) × (Tied s (numbered r) × (OneAnswer × StripsHold))
promise s e = (e, (subst (Tied s) (sym (told s e)) (tied s), (one_answer, strips-hold)))

pub returns : goal.returns
returns c =
    let s = c.args.state in
    promise s (c.check_from.ensures ∙ ap (λ (p : Plan). checked_as (check_of (with_progress p s.progress))) c.lent.ensures)
