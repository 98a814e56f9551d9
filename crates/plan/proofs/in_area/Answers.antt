-- `in_area` decides whether a point lies in the area. Assumes nothing.
use mathlib.Core.Path.{◌≡◌, sym, ap, ◌∙◌}
use Rattle.conditions.specs.Both.{both}
use Rattle.conditions.proofs.Bools.{both-on, both-off, both-both}
use Rattle.integers.proofs.ValueLaws.{value, typed, is}
use Rattle.plan.specs.Limits.{most_level, most_down, signed_between, inside_of, in_area_of}
use Rattle.plan.proofs.LimitLaws.{told, area-means}
use Rattle.plan.proofs.in_area.Goals as goal
use Rattle.plan.proofs.in_area.Goals.{Joined-signed_between, then-signed_between, else-signed_between}

-- what the first two tests give
level : (c : Joined-signed_between) → c.if-signed_between.value ≡ both (signed_between most_level most_level c.args.p.north) (signed_between most_level most_level c.args.p.east)
level c =
    let n = signed_between most_level most_level c.args.p.north in
    let e = signed_between most_level most_level c.args.p.east in
    let north = c.signed_between.ensures ∙ ap (signed_between most_level most_level) (is (search (value, typed) depth 20 fits 5000)) in
    elim c.if-signed_between.branch [
      | then-signed_between w ↦ w.value-is
          ∙ w.signed_between-then-signed_between.ensures
          ∙ ap (signed_between most_level most_level) (is (search (value, typed) depth 20 fits 5000))
          ∙ sym (both-on n e (sym north ∙ w.if-signed_between.true))
      | else-signed_between w ↦ w.value-is ∙ w.if-signed_between.false ∙ sym (both-off n e (sym north ∙ w.if-signed_between.false))
    ]

pub returns-then-signed_between-2 : goal.returns-then-signed_between-2
unfolding in_area_of inside_of
returns-then-signed_between-2 c =
    let p = c.args.p in
    let n = signed_between most_level most_level p.north in
    let e = signed_between most_level most_level p.east in
    let d = signed_between most_down most_down p.down in
    let both-level = sym (level (goal.at.returns-then-signed_between-2 c).Joined-signed_between) ∙ c.if-signed_between-2.true in
    told c.signed_between-then-signed_between-2.result (in_area_of p) (area-means p)
    (c.signed_between-then-signed_between-2.ensures
    ∙ ap (signed_between most_down most_down) (is (search (value, typed) depth 20 fits 5000))
    ∙ sym (both-on (both n e) d both-level)
    ∙ both-both n e d)

pub returns-else-signed_between-2 : goal.returns-else-signed_between-2
unfolding in_area_of inside_of
returns-else-signed_between-2 c =
    let p = c.args.p in
    let n = signed_between most_level most_level p.north in
    let e = signed_between most_level most_level p.east in
    let d = signed_between most_down most_down p.down in
    let both-level = sym (level (goal.at.returns-else-signed_between-2 c).Joined-signed_between) ∙ c.if-signed_between-2.false in
    told c.if-signed_between.value (in_area_of p) (area-means p) (c.if-signed_between-2.false ∙ sym (both-off (both n e) d both-level) ∙ both-both n e d)
