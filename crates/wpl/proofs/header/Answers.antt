-- `header` asks 1 to 5 in their order. Assumes nothing.
use mathlib.Core.Path.{refl, sym, ◌∙◌}
use native.Mathlib.Omega.{arith}
use Rattle.refusals.specs.Sweep.{passed_of}
use Rattle.wpl.specs.Header.{version_of, serial_of}
use Rattle.wpl.proofs.LoadLaws.{too_short, unmarked, unversioned, unnumbered, misfit, passes, failed-passed}
use Rattle.wpl.proofs.header.Goals as goal

pub returns-then-file-lt-HEADER_LENGTH : goal.returns-then-file-lt-HEADER_LENGTH
returns-then-file-lt-HEADER_LENGTH c = failed-passed _ _ _ c.failed.ensures.value (too_short _ (omega (arith, c.if-file-lt-HEADER_LENGTH.true)))

pub returns-then-not-marked : goal.returns-then-not-marked
returns-then-not-marked c =
    failed-passed _ _ _ c.failed-then-not-marked.ensures.value
    (unmarked _ (omega (arith, c.if-file-lt-HEADER_LENGTH.false)) (sym c.marked.ensures ∙ c.if-not-marked.true))

pub returns-then-u16_at-eq0 : goal.returns-then-u16_at-eq0
unfolding version_of
returns-then-u16_at-eq0 c =
    failed-passed _ _ _ c.failed-then-u16_at-eq0.ensures.value
    (unversioned _ (omega (arith, c.if-file-lt-HEADER_LENGTH.false)) (sym c.marked.ensures ∙ c.if-not-marked.false) (omega (arith, c.u16_at.ensures, c.if-u16_at-eq0.true)))

pub returns-then-u32_at-eq0 : goal.returns-then-u32_at-eq0
unfolding version_of serial_of
returns-then-u32_at-eq0 c =
    failed-passed _ _ _ c.failed-then-u32_at-eq0.ensures.value
    (unnumbered _ (omega (arith, c.if-file-lt-HEADER_LENGTH.false)) (sym c.marked.ensures ∙ c.if-not-marked.false) (λ e. omega (arith, e, c.u16_at.ensures, c.if-u16_at-eq0.false))
    (omega (arith, c.u32_at.ensures, c.if-u32_at-eq0.true)))

pub returns-then-not-area_fits : goal.returns-then-not-area_fits
unfolding version_of serial_of
returns-then-not-area_fits c =
    failed-passed _ _ _ c.failed-then-not-area_fits.ensures.value
    (misfit _ (omega (arith, c.if-file-lt-HEADER_LENGTH.false)) (sym c.marked.ensures ∙ c.if-not-marked.false) (λ e. omega (arith, e, c.u16_at.ensures, c.if-u16_at-eq0.false))
    (λ e. omega (arith, e, c.u32_at.ensures, c.if-u32_at-eq0.false)) (sym c.area_fits.ensures ∙ c.if-not-area_fits.true))

pub returns : goal.returns
unfolding version_of serial_of passed_of
returns c =
    rw (passes _ (omega (arith, c.if-file-lt-HEADER_LENGTH.false)) (sym c.marked.ensures ∙ c.if-not-marked.false) (λ e. omega (arith, e, c.u16_at.ensures, c.if-u16_at-eq0.false))
    (λ e. omega (arith, e, c.u32_at.ensures, c.if-u32_at-eq0.false)) (sym c.area_fits.ensures ∙ c.if-not-area_fits.false)) refl
