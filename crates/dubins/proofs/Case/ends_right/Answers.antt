-- `Case::ends_right` tells the side of the end circle. Assumes nothing.
use Rattle.std.proofs.Common.{◌≡◌, false, refl, sym, ap, inl, inr}
use Rattle.dubins.specs.declared.Case.{Case}
use Rattle.dubins.specs.declared.Case.TheVariants.{Rsr, Rsl, Lsr, Lsl}
use Rattle.dubins.specs.Cases.{ends_right}
use Rattle.dubins.proofs.Case.ends_right.Goals as goal

left : (case : Case) → (case ≡ Rsr → ⊥) → (case ≡ Lsr → ⊥) → false ≡ ends_right case
unfolding ends_right
left Rsr n m = absurd (n refl)
left Lsr n m = absurd (m refl)
left Rsl n m = refl
left Lsl n m = refl

pub returns-in-Rsr : goal.returns-in-Rsr
unfolding ends_right
returns-in-Rsr c = elim c.in-Rsr.is [ inl e ↦ sym (ap ends_right e) | inr e ↦ sym (ap ends_right e) ]

pub returns-in_default : goal.returns-in_default
returns-in_default c = left c.args.self c.in_default.not-Rsr c.in_default.not-Lsr
