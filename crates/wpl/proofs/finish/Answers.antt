-- `finish` asks the plan's rules of the plan in its numbers. Assumes nothing.
use mathlib.Core.Path.{◌≡◌, ap, ◌∙◌}
use lib.ListN.{length}
use Rattle.plan.specs.Places.{plan_numbers}
use Rattle.plan.proofs.BlockLaws.{loaded-length}
use Rattle.wpl.specs.Load.{finish_of}
use Rattle.wpl.proofs.LoadLaws.{made-bounded, finish-refused, finish-good, head-refused, handed_on}
use borrow.Author.Rules.{rules}
use Rattle.wpl.proofs.finish.Goals as goal
use Rattle.wpl.proofs.finish.Goals.{Start}

-- all numbers of a plan are there
whole : (s : Start) → length s.args.numbers.now ≡ plan_numbers
whole s =
    let a = s.requires.0 in
    ap length s.requires.1.1.1 ∙ loaded-length 0 a.radius a.points a.courses

pub slice_bounds-plan-end : goal.slice_bounds-plan-end
slice_bounds-plan-end c = let w = whole (goal.at.slice_bounds-plan-end c).Start in search rules

pub slice_bounds-plan-end-2 : goal.slice_bounds-plan-end-2
slice_bounds-plan-end-2 c = let w = whole (goal.at.slice_bounds-plan-end-2 c).Start in search rules

pub slice_bounds-plan-end-3 : goal.slice_bounds-plan-end-3
slice_bounds-plan-end-3 c = let w = whole (goal.at.slice_bounds-plan-end-3 c).Start in search rules

pub slice_bounds-plan-end-4 : goal.slice_bounds-plan-end-4
slice_bounds-plan-end-4 c = let w = whole (goal.at.slice_bounds-plan-end-4 c).Start in search rules

pub rules-requires : goal.rules-requires
rules-requires c =
    let p = c.requires in
    made-bounded _ c.args.gathered _ c.head_of-head.ensures c.args.numbers.now p.0 p.1.1.0 p.1.1.1 p.1.0

pub returns-in_err-rules : goal.returns-in_err-rules
returns-in_err-rules c = λ a e n.
    handed_on _ _ c.from_residual.ensures.1
    ∙ head-refused (finish_of c.args.serial a) _
    (finish-refused _ c.args.gathered _ c.head_of-head.ensures _ a e n _ c.rules.ensures _ (c.in_err-rules.was {u = tt}))

pub returns : goal.returns
returns c = λ a e n.
    finish-good _ c.args.gathered _ c.head_of-head.ensures _ a e n _ c.rules.ensures _ (c.in_ok-rules.was {u = tt})
