-- `turns_easily` gives what two products show of a turn, and what they show is so. Assumes nothing.
use mathlib.Core.Path.{◌≡◌, sym, ap, ◌∙◌, subst}
use lib.IntN.{ℤ, pos, nat_abs, ◌+ℤ◌, ◌*ℤ◌}
use lib.Signed.{lt_z}
use mir.Syntax.{w64}
use mir.Val.{to_z, of_z}
use Rattle.integers.specs.Bounds.{Within}
use Rattle.integers.proofs.BoundLaws.{kept}
use Rattle.integers.proofs.ValueLaws.{Reads, value, uneven}
use Rattle.fillets.specs.Corners.{turns_easily}
use Rattle.fillets.proofs.EasyLaws.{easily-carried}
use Rattle.fillets.proofs.turns_easily.Goals as goal

-- a number that the code passes on
abbrev held : ℤ → ℤ
held z = to_z w64 (of_z w64 z)

-- the test of an expression, from that of its value
said : (m z : ℤ) → Reads 63 m z → lt_z (pos 0) m ≡ lt_z (pos 0) z
said m z r = ap (lt_z (pos 0)) r.same

pub returns : goal.returns
unfolding turns_easily
returns c =
    let s = c.args in
    let d = c.dot-ahead in
    let x = c.across-side in
    let g = c.abs in
    let size : g.result ≡ pos (nat_abs x.result) = g.ensures.value ∙ ap (λ (z : ℤ). pos (nat_abs z)) (kept w64 x.ensures.1 tt) in
    let near : Within 8000000000000 g.result = subst (Within 8000000000000) (sym size) (record { within = x.ensures.1.within }) in
    let told =
    said (held (held (pos 5 *ℤ held d.result) +ℤ held g.result)) (pos 5 *ℤ d.result +ℤ g.result) (search (value, uneven) depth 20 fits 5000)
    ∙ (λ i. lt_z (pos 0) (pos 5 *ℤ d.ensures.0 i +ℤ (size ∙ ap (λ (z : ℤ). pos (nat_abs z)) x.ensures.0) i)) in
    record { value = told; b_bound = easily-carried s.a s.b told }
