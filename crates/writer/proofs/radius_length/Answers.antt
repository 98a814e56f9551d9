-- `radius_length` gives the length of the radius record, if any. Assumes nothing.
use mathlib.Core.Path.{sym, ap, ◌∙◌}
use native.Mathlib.Omega.{arith}
use lib.ListN.{length}
use Rattle.writer.proofs.PieceLaws.{no-radius, some-radius, value-record}
use Rattle.writer.proofs.radius_length.Goals as goal

pub returns-then-radius-eq0 : goal.returns-then-radius-eq0
returns-then-radius-eq0 c = (ap length (sym (no-radius c.args.radius c.if-radius-eq0.true)), omega arith)

pub returns : goal.returns
returns c =
    let R = c.args.radius in
    (sym (ap length (some-radius R c.if-radius-eq0.false) ∙ value-record 2 R), omega arith)
