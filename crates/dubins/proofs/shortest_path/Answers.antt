-- `shortest_path` gives the shortest of the four cases, the earliest on a tie. Assumes nothing.
use mathlib.Core.Path.{◌≡◌, ◌∙◌, subst}
use Rattle.dubins.specs.declared.Ends.{Ends}
use Rattle.dubins.specs.Choice.{shortest_of}
use Rattle.dubins.specs.Ways.{found_by}
use Rattle.dubins.proofs.HandLegLaws.{hand-legs}
use Rattle.dubins.proofs.ShortestLaws.{only-later, chosen}
use Rattle.dubins.proofs.shortest_path.Goals as goal

pub returns : goal.returns
unfolding shortest_of found_by
returns c =
    let ends = c.new-sides.result.ends in
    let last = c.better-lsl.result in
    let tried : found_by ends.radius last ≡ shortest_of ends = simp (c.better-lsl.ensures.0, c.better-lsr.ensures.0, c.better-rsl.ensures.0, c.better-rsr.ensures.0, only-later) in
    let e : c.found_by.result ≡ shortest_of c.args.ends =
    c.found_by.ensures.0 ∙ subst (λ (x : Ends). found_by x.radius last ≡ shortest_of x) c.new-sides.ensures tried in
    record { value = e; found = c.found_by.ensures.1; chosen = (chosen _ _ e, hand-legs) }
