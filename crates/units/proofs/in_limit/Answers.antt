-- `in_limit` is whether x is finite and at most the limit in size, by two comparisons. Assumes nothing.
use mathlib.Core.Path.{◌≡◌, sym, ◌∙◌, ap}
use mathlib.Core.Bool.{Bool, ◌&&◌}
use Prim.Native.Nat.{◌≤◌}
use lib.IntN.{pos}
use lib.Ieee.{binary32, le, neg, of_int}
use borrow.Author.Rules.{rules}
use Rattle.units.specs.Decimetres.{in_limit}
use Rattle.units.proofs.LimitLaws.{limit_is}
use Rattle.units.proofs.in_limit.Goals as goal
use Rattle.units.proofs.in_limit.Goals.{Start}

module _ (c : Start) where
  small : c.args.limit ≤ 16777216
  small = search rules

  -- by what the first comparison gave
  both : {t : Bool} → le c.args.x (of_int binary32 (pos c.args.limit)) ≡ t
      → (t && le (neg (of_int binary32 (pos c.args.limit))) c.args.x) ≡ in_limit c.args.limit c.args.x
  both e = ap (λ (t : Bool). t && le (neg (of_int binary32 (pos c.args.limit))) c.args.x) (sym e) ∙ limit_is c.args.limit c.args.x small

pub returns-then-x-most : goal.returns-then-x-most
returns-then-x-most c = both c.before.before c.if-x-most.true

pub returns-else-x-most : goal.returns-else-x-most
returns-else-x-most c = c.if-x-most.false ∙ both c.before.before c.if-x-most.false
