-- `gather` walks over the records. The loop's invariant: the tally and the numbers are what some parts give, and what is left to gather from the
-- offset on, after those parts, is what the whole walk gives. The measure is what is left of the file. Assumes nothing.
use mathlib.Core.Path.{refl, sym, ap, ◌∙◌}
use native.Mathlib.Omega.{arith}
use lib.ListN.{length}
use Rattle.refusals.proofs.OutcomeLaws.{never-good}
use Rattle.records.specs.Kinds.{no_parts}
use Rattle.records.specs.Held.{tally_of}
use Rattle.records.proofs.HeldLaws.{numbers-length}
use Rattle.records.proofs.StepLaws.{Turn, whole, Whole, further, again, all-cut, all-refused, refused-shown, all-gathered, all-stored}
use Rattle.records.proofs.FactLaws.{record-facts}
use Rattle.records.proofs.gather.Goals as goal
use Rattle.records.proofs.gather.Goals.{After-effect_of, In-Some, At-loop-at}

-- the record that is not cut short
ends : (c : In-Some) → Whole c.args.file.now c.loop-at.at c.in-Some.to
ends c = whole _ _ _ (sym c.end_at.ensures ∙ c.in-Some.is)

-- what is known of it
turn : (c : After-effect_of)
    → let s = c.args in
    Turn s.reader s.version s.file.now c.loop-at.at c.loop-at.tally c.loop-at.numbers c.in-Some.to c.effect_of.result
turn c =
    let i = c.loop-at.invariant in
    record {
      so_far = i;
      inside = c.loop-at-test.true;
      ends = whole _ _ _ (sym c.end_at.ensures ∙ c.in-Some.is);
      judged = c.effect_of.ensures i.parts i.tallied;
    }

pub loop-at-init : goal.loop-at-init
unfolding tally_of
loop-at-init c =
    let d = c.default-tally.ensures in
    record { parts = no_parts; tallied = (λ i. record { radius = d.0 i; count = d.1.0 i; given = d.1.1.0 i; follows = d.1.1.1 i }); stored = c.requires; left = refl }

pub returns-in_default-clause-value : goal.returns-in_default-clause-value
returns-in_default-clause-value c =
    rw c.at.ensures (refused-shown _ (all-cut c.loop-at.invariant c.loop-at-test.true (sym c.end_at.ensures ∙ c.in_default.is)))

pub returns-in_default-clause-numbers_after : goal.returns-in_default-clause-numbers_after
returns-in_default-clause-numbers_after c a g =
    never-good (sym (all-cut c.loop-at.invariant c.loop-at-test.true (sym c.end_at.ensures ∙ c.in_default.is)) ∙ g)

pub returns-in_default-clause-record_facts : goal.returns-in_default-clause-record_facts
returns-in_default-clause-record_facts c = record-facts

pub slice_bounds-body-count : goal.slice_bounds-body-count
slice_bounds-body-count c = (ends (goal.at.slice_bounds-body-count c).In-Some).further

pub slice_bounds-body-start : goal.slice_bounds-body-start
slice_bounds-body-start c = let w = ends (goal.at.slice_bounds-body-start c).In-Some in omega (arith, w.further)

pub slice_bounds-body-end : goal.slice_bounds-body-end
slice_bounds-body-end c = let w = ends (goal.at.slice_bounds-body-end c).In-Some in omega (arith, w.inside)

pub returns-in-Err-clause-value : goal.returns-in-Err-clause-value
returns-in-Err-clause-value c =
    rw c.at-in-Err.ensures (refused-shown _ (all-refused (turn (goal.at.returns-in-Err-clause-value c).After-effect_of) c.in-Err.is))

pub returns-in-Err-clause-numbers_after : goal.returns-in-Err-clause-numbers_after
returns-in-Err-clause-numbers_after c a g =
    never-good (sym (all-refused (turn (goal.at.returns-in-Err-clause-numbers_after c).After-effect_of) c.in-Err.is) ∙ g)

pub returns-in-Err-clause-record_facts : goal.returns-in-Err-clause-record_facts
returns-in-Err-clause-record_facts c = record-facts

pub with-tally-requires : goal.with-tally-requires
with-tally-requires c = ap length c.loop-at.invariant.stored ∙ numbers-length c.loop-at.invariant.parts

pub loop-at-smaller : goal.loop-at-smaller
loop-at-smaller c = further (turn (goal.at.loop-at-smaller c).After-effect_of)

pub loop-at-preserved : goal.loop-at-preserved
loop-at-preserved c =
    let t = turn (goal.at.loop-at-preserved c).After-effect_of in
    let i = t.so_far in
    again t c.in-Ok.is (c.with-tally.ensures.tally_after _ i.tallied) (c.with-tally.ensures.numbers_after _ i.tallied i.stored)

pub returns-clause-value : goal.returns-clause-value
returns-clause-value c = all-gathered c.loop-at.invariant c.loop-at-test.false

pub returns-clause-numbers_after : goal.returns-clause-numbers_after
returns-clause-numbers_after c = all-stored c.loop-at.invariant c.loop-at-test.false

pub returns-clause-record_facts : goal.returns-clause-record_facts
returns-clause-record_facts c = record-facts
