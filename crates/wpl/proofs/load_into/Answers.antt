-- `load_into` reads into numbers that it has cleared, and clears them again where the load is refused. Assumes nothing.
use mathlib.Core.Path.{sym, ◌∙◌}
use native.Mathlib.Omega.{arith}
use Rattle.buffers.proofs.FillLaws.{zeros_of}
use Rattle.plan.specs.Places.{plan_numbers}
use Rattle.plan.proofs.BlockLaws.{loaded-none}
use Rattle.wpl.proofs.LoadLaws.{cleared, good-head, refused-head, entered-good, entered-refused, numbers-good}
use Rattle.wpl.proofs.StartLaws.{starts}
use Rattle.wpl.proofs.load_into.Goals as goal

pub read_into-requires : goal.read_into-requires
read_into-requires c = c.clear.ensures ∙ zeros_of _ plan_numbers c.requires ∙ sym (loaded-none 0 0)

pub returns-in-Ok-clause-value : goal.returns-in-Ok-clause-value
returns-in-Ok-clause-value c =
    let s = good-head _ _ (sym c.read_into.ensures.value ∙ c.in-Ok.is) in
    entered-good _ _ s.0 s.1.0 s.1.1 c.first.ensures.0

pub returns-in-Ok-clause-numbers_after : goal.returns-in-Ok-clause-numbers_after
returns-in-Ok-clause-numbers_after c =
    let s = good-head _ _ (sym c.read_into.ensures.value ∙ c.in-Ok.is) in
    numbers-good _ _ s.0 s.1.0 (c.read_into.ensures.numbers_after s.0 s.1.0)

pub returns-in-Ok-clause-starts : goal.returns-in-Ok-clause-starts
returns-in-Ok-clause-starts c = starts _ _

pub returns-in-Err-clause-value : goal.returns-in-Err-clause-value
returns-in-Err-clause-value c =
    c.refuse.ensures ∙ entered-refused _ _ c.in-Err.found (refused-head _ _ (sym c.read_into.ensures.value ∙ c.in-Err.is))

pub returns-in-Err-clause-numbers_after : goal.returns-in-Err-clause-numbers_after
returns-in-Err-clause-numbers_after c =
    cleared _ _ _ _ (refused-head _ _ (sym c.read_into.ensures.value ∙ c.in-Err.is)) _ _ c.clear-in-Err.ensures (omega arith)

pub returns-in-Err-clause-starts : goal.returns-in-Err-clause-starts
returns-in-Err-clause-starts c = starts _ _
