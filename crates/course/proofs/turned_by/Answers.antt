-- `turned_by` turns a vector by q quarters, and its parts keep their bound. Assumes nothing.
use mathlib.Core.Path.{sym, ◌∙◌}
use native.Mathlib.Omega.{arith}
use Rattle.integers.proofs.ValueLaws.{value, is}
use Rattle.course.specs.Vectors.{Near}
use Rattle.course.specs.Direction.{turned}
use Rattle.course.proofs.VectorLaws.{vector, carried}
use Rattle.course.proofs.DirectionLaws.{turned-0, turned-1, turned-2, turned-3, turned-near}
use Rattle.course.proofs.turned_by.Goals as goal
use Rattle.course.proofs.turned_by.Goals.{Start}

-- the vector that was given, turned, is near
near : (c : Start) → Near 16384 (turned c.args.q (record { north = c.args.north; east = c.args.east }))
near c = turned-near c.args.q (record { north = c.args.north; east = c.args.east }) (record { north = c.requires.1.0; east = c.requires.1.1 })

pub returns-in-0 : goal.returns-in-0
returns-in-0 c =
    let s = c.args in
    carried (vector (is (search value depth 20 fits 5000)) (is (search value depth 20 fits 5000)) ∙ sym (turned-0 s.q s.north s.east (omega arith))) (near c.before)

pub returns-in-1 : goal.returns-in-1
returns-in-1 c =
    let s = c.args in
    carried (vector (is (search value depth 20 fits 5000)) (is (search value depth 20 fits 5000)) ∙ sym (turned-1 s.q s.north s.east (omega arith))) (near c.before)

pub returns-in-2 : goal.returns-in-2
returns-in-2 c =
    let s = c.args in
    carried (vector (is (search value depth 20 fits 5000)) (is (search value depth 20 fits 5000)) ∙ sym (turned-2 s.q s.north s.east (omega arith))) (near c.before)

pub returns-in_default : goal.returns-in_default
returns-in_default c =
    let s = c.args in
    carried (vector (is (search value depth 20 fits 5000)) (is (search value depth 20 fits 5000)) ∙ sym (turned-3 s.q s.north s.east (omega arith))) (near c.before)
