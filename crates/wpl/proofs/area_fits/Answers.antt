-- `area_fits` compares the area length with the bytes after the header, then with its limit. Assumes nothing.
use mathlib.Core.Path.{sym, ◌∙◌}
use borrow.Author.Tests.{ne_eqb}
use Rattle.wpl.specs.Header.{area_of}
use Rattle.wpl.proofs.LoadLaws.{area-equal, area-other}
use Rattle.wpl.proofs.area_fits.Goals as goal

pub returns-then-area-file : goal.returns-then-area-file
unfolding area_of
returns-then-area-file c = area-equal _ _ (c.from-area.ensures ∙ c.u16_at.ensures) c.if-area-file.true

pub returns-else-area-file : goal.returns-else-area-file
unfolding area_of
returns-else-area-file c =
    ne_eqb _ _ c.if-area-file.false ∙ sym (area-other _ _ (c.from-area.ensures ∙ c.u16_at.ensures) c.if-area-file.false)
