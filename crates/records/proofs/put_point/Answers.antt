-- `put_point` stores the three numbers of a point, each in its block, unless the places are full. Assumes nothing.
use mathlib.Core.Path.{◌≡◌, sym, ◌∙◌}
use mir.Syntax.{w32}
use mir.Val.{to_z, of_z}
use borrow.Author.Rules.{rules}
use Rattle.records.proofs.HeldLaws.{point-put, point-over}
use Rattle.records.proofs.put_point.Goals as goal
use Rattle.records.proofs.put_point.Goals.{Start}

-- what the machine reads of each number is the number
kept : (s : Start)
    → let p = s.args.point in
    (to_z w32 (of_z w32 p.north) ≡ p.north) × ((to_z w32 (of_z w32 p.east) ≡ p.east) × (to_z w32 (of_z w32 p.down) ≡ p.down))
kept s = (search rules, (search rules, search rules))

pub returns-then-count-lt-MOST_POINTS : goal.returns-then-count-lt-MOST_POINTS
returns-then-count-lt-MOST_POINTS c a m e =
    let p = c.args.point in
    let k = kept (goal.at.returns-then-count-lt-MOST_POINTS c).Start in
    rw (c.put_number-then-count-lt-MOST_POINTS-2.ensures, c.put_number-then-count-lt-MOST_POINTS.ensures, c.put_number.ensures, k.0, k.1.0, k.1.1, m) (point-put a p e c.if-count-lt-MOST_POINTS.true)

pub returns-else-count-lt-MOST_POINTS : goal.returns-else-count-lt-MOST_POINTS
returns-else-count-lt-MOST_POINTS c a m e = m ∙ sym (point-over a c.args.point e c.if-count-lt-MOST_POINTS.false)
