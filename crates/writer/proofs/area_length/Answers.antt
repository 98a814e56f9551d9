-- `area_length` sums the lengths of the records. Assumes nothing.
use native.Mathlib.Omega.{arith}
use Rattle.plan.specs.Places.{seen}
use Rattle.plan.proofs.LoadedLaws.{given-le}
use Rattle.writer.proofs.PlaceLaws.{area-length-is}
use Rattle.writer.proofs.area_length.Goals as goal

pub overflow_mul-result-2 : goal.overflow_mul-result-2
overflow_mul-result-2 c =
    let h = c.args.head in
    omega (arith, c.given_of-given.ensures, given-le h.mode h.count)

pub overflow_add-result-2 : goal.overflow_add-result-2
overflow_add-result-2 c =
    let h = c.args.head in
    omega (arith, c.given_of-given.ensures, given-le h.mode h.count)

pub returns : goal.returns
returns c =
    let h = c.args.head in
    let n = given-le h.mode h.count in
    let r = c.radius_length.ensures in
    let g = c.given_of-given.ensures in
    ((λ ns es ds cs. let e = area-length-is (seen h ns es ds cs) in omega (arith, r.0, g, e)), omega (arith, r.1, g, n, c.requires))
