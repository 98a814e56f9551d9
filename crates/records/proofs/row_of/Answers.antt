-- `row_of` finds the row of a kind in the constant, which is the table of the definitions. Assumes nothing.
use mathlib.Core.Path.{◌∙◌}
use lib.Dec.{eqb}
use Rattle.std.proofs.Common.{rules, tests}
use Rattle.std.proofs.lemmas.Iterator.{YieldsList-from_slice}
use Rattle.std.proofs.lemmas.Iterator.Search.{find_from_yields_List}
use Rattle.records.specs.Kinds.{table}
use Rattle.records.proofs.KindLaws.{found-row}
use Rattle.records.proofs.row_of.Goals as goal

pub returns : goal.returns
unfolding table
returns c =
    c.copied.ensures
    ∙ find_from_yields_List (λ e. eqb e.kind c.args.kind) _ _ c.find.result c.find.ensures.ran (YieldsList-from_slice table cc) (λ x b q k. search (rules, tests))
    ∙ found-row c.args.kind
