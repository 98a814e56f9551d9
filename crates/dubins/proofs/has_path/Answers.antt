-- `has_path` decides whether any case exists, and each does exactly when 12.3 and 12.4 say. Assumes nothing.
use Rattle.std.proofs.Common.{◌≡◌, Bool, true, false, sym, ap, ◌∙◌}
use mathlib.Core.Bool.{◌||◌}
use Rattle.dubins.specs.declared.Case.TheVariants.{Rsr, Rsl, Lsr}
use Rattle.dubins.specs.Cases.{case_exists}
use Rattle.dubins.specs.Choice.{has_path_of}
use Rattle.dubins.proofs.FarLaws.{existence}
use Rattle.dubins.proofs.has_path.Goals as goal
use Rattle.dubins.proofs.has_path.Goals.{Joined-case_exists, Joined-case_exists-2, then-case_exists, else-case_exists, then-case_exists-2, else-case_exists-2}

or-true : {a : Bool} (b : Bool) → a ≡ true → true ≡ a || b
or-true b e = sym (ap (λ t. t || b) e)

or-false : {a : Bool} (b : Bool) → a ≡ false → b ≡ a || b
or-false b e = sym (ap (λ t. t || b) e)

two : (c : Joined-case_exists) → let e = c.args.ends in c.if-case_exists.value ≡ case_exists e Rsr || case_exists e Rsl
two c =
    elim c.if-case_exists.branch [
      | then-case_exists w ↦ w.value-is ∙ w.if-case_exists.true ∙ or-true _ (sym c.case_exists.ensures ∙ w.if-case_exists.true)
      | else-case_exists w ↦ w.value-is ∙ w.case_exists-else-case_exists.ensures ∙ or-false _ (sym c.case_exists.ensures ∙ w.if-case_exists.false)
    ]

three : (c : Joined-case_exists-2) → let e = c.args.ends in c.if-case_exists-2.value ≡ case_exists e Rsr || case_exists e Rsl || case_exists e Lsr
three c =
    elim c.if-case_exists-2.branch [
      | then-case_exists-2 w ↦ w.value-is ∙ w.if-case_exists-2.true ∙ or-true _ (sym (two c.before) ∙ w.if-case_exists-2.true)
      | else-case_exists-2 w ↦ w.value-is ∙ w.case_exists-else-case_exists-2.ensures ∙ or-false _ (sym (two c.before) ∙ w.if-case_exists-2.false)
    ]

pub returns-then-case_exists-3 : goal.returns-then-case_exists-3
unfolding has_path_of
returns-then-case_exists-3 c = record { value = c.if-case_exists-3.true ∙ or-true _ (sym (three c.before) ∙ c.if-case_exists-3.true); existence = existence _ }

pub returns-else-case_exists-3 : goal.returns-else-case_exists-3
unfolding has_path_of
returns-else-case_exists-3 c =
    record { value = c.case_exists-else-case_exists-3.ensures ∙ or-false _ (sym (three c.before.before) ∙ c.if-case_exists-3.false); existence = existence _ }
