-- `locate` gives the position of a fix, or none where a part is beyond its limit. Assumes nothing.
use mathlib.Core.Path.{sym, ◌∙◌, subst}
use lib.Dec.{T}
use borrow.Author.Rules.{rules}
use Rattle.std.proofs.lemmas.Option.{IfSome_then}
use Rattle.units.specs.Position.{all_in_limit}
use Rattle.units.proofs.PositionLaws.{located, placed}
use Rattle.units.proofs.locate.Goals as goal

pub then-requires : goal.then-requires
then-requires c =
    λ h.
    let k : T (all_in_limit c.args.fix) = subst T (sym h ∙ c.all_in_limit.ensures) tt in
    search rules

pub returns : goal.returns
returns c =
    let f = c.args.fix in
    placed f (located f c.then.result c.all_in_limit.ensures c.then.ensures.variant (IfSome_then c.then.result c.then.ensures.some (λ p k. search rules)))
