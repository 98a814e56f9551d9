-- `Case::starts_right` tells the side of the start circle. Assumes nothing.
use Rattle.std.proofs.Common.{◌≡◌, false, refl, sym, ap, inl, inr}
use Rattle.dubins.specs.declared.Case.{Case}
use Rattle.dubins.specs.declared.Case.TheVariants.{Rsr, Rsl, Lsr, Lsl}
use Rattle.dubins.specs.Cases.{starts_right}
use Rattle.dubins.proofs.Case.starts_right.Goals as goal

left : (case : Case) → (case ≡ Rsr → ⊥) → (case ≡ Rsl → ⊥) → false ≡ starts_right case
unfolding starts_right
left Rsr n m = absurd (n refl)
left Rsl n m = absurd (m refl)
left Lsr n m = refl
left Lsl n m = refl

pub returns-in-Rsr : goal.returns-in-Rsr
unfolding starts_right
returns-in-Rsr c = elim c.in-Rsr.is [ inl e ↦ sym (ap starts_right e) | inr e ↦ sym (ap starts_right e) ]

pub returns-in_default : goal.returns-in_default
returns-in_default c = left c.args.self c.in_default.not-Rsr c.in_default.not-Rsl
