-- `read_into` asks the reader's version, the header, the records and the plan's rules in their order. Assumes nothing.
use mathlib.Core.Path.{◌≡◌, sym, ap, ◌∙◌}
use mathlib.Core.Bool.{true}
use Prim.Native.Nat.{ℕ}
use Rattle.refusals.specs.Outcome.{good}
use Rattle.refusals.specs.Sweep.{done}
use Rattle.conditions.specs.Between.{between}
use Rattle.records.proofs.RuleLaws.{in-range}
use Rattle.wpl.specs.Header.{version_of, serial_of, header_of}
use Rattle.wpl.specs.Load.{finish_of, head_in}
use Rattle.wpl.proofs.LoadLaws.{reader-wrong, header-stops, records-stop, records-give, gather-stops, Gives, gather-gives, numbers-refused, numbers-finished, failed-head, handed_on, head-refused, passed-good, passed-refused}
use Rattle.wpl.proofs.read_into.Goals as goal
use Rattle.wpl.proofs.read_into.Goals.{Else-not-contains, In_ok-header, In_ok-gathered}

-- the reader's version is one of three
served : (c : Else-not-contains) → between 1 3 c.args.reader ≡ true
served c =
    sym (in-range _ _ _ _ c.new.ensures.start c.new.ensures.end c.new.ensures.exhausted) ∙ sym c.contains.ensures.value ∙ c.if-not-contains.false

-- the header has passed
passed : (c : In_ok-header) → header_of c.args.file.now ≡ good done
passed c = passed-good _ _ (sym c.header.ensures ∙ c.in_ok-header.was {u = tt})

-- the records are gathered
given : (c : In_ok-gathered) → Gives c.args.reader c.args.file.now c.u16_at-version.result c.in_ok-gathered.gathered
unfolding version_of
given c = gather-gives _ c.args.file.now _ c.u16_at-version.ensures _ (sym c.gather.ensures.value ∙ c.in_ok-gathered.was {u = tt})

pub returns-then-not-contains-clause-value : goal.returns-then-not-contains-clause-value
returns-then-not-contains-clause-value c =
    let t = sym (in-range _ _ _ _ c.new.ensures.start c.new.ensures.end c.new.ensures.exhausted) ∙ sym c.contains.ensures.value ∙ c.if-not-contains.true in
    failed-head _ _ c.failed.ensures.value _ (reader-wrong _ c.args.file.now t)

pub returns-then-not-contains-clause-numbers_after : goal.returns-then-not-contains-clause-numbers_after
returns-then-not-contains-clause-numbers_after c =
    let t = sym (in-range _ _ _ _ c.new.ensures.start c.new.ensures.end c.new.ensures.exhausted) ∙ sym c.contains.ensures.value ∙ c.if-not-contains.true in
    numbers-refused _ _ _ _ (reader-wrong _ c.args.file.now t)

pub returns-in_err-header-clause-value : goal.returns-in_err-header-clause-value
returns-in_err-header-clause-value c =
    let s = served (goal.at.returns-in_err-header-clause-value c).Else-not-contains in
    let h = passed-refused _ _ (sym c.header.ensures ∙ c.in_err-header.was {u = tt}) in
    handed_on _ _ c.from_residual.ensures.1 ∙ head-refused _ _ (header-stops _ _ s _ _ h)

pub returns-in_err-header-clause-numbers_after : goal.returns-in_err-header-clause-numbers_after
returns-in_err-header-clause-numbers_after c =
    let s = served (goal.at.returns-in_err-header-clause-numbers_after c).Else-not-contains in
    let h = passed-refused _ _ (sym c.header.ensures ∙ c.in_err-header.was {u = tt}) in
    numbers-refused _ _ _ _ (header-stops _ _ s _ _ h)

pub returns-in_err-gathered-clause-value : goal.returns-in_err-gathered-clause-value
unfolding version_of
returns-in_err-gathered-clause-value c =
    let a = goal.at.returns-in_err-gathered-clause-value c in
    let g = gather-stops _ c.args.file.now _ c.u16_at-version.ensures _ (sym c.gather.ensures.value ∙ c.in_err-gathered.was {u = tt}) in
    handed_on _ _ c.from_residual-in_err-gathered.ensures.1 ∙ head-refused _ _ (records-stop _ _ (served a.Else-not-contains) (passed a.In_ok-header) _ _ g)

pub returns-in_err-gathered-clause-numbers_after : goal.returns-in_err-gathered-clause-numbers_after
unfolding version_of
returns-in_err-gathered-clause-numbers_after c =
    let a = goal.at.returns-in_err-gathered-clause-numbers_after c in
    let g = gather-stops _ c.args.file.now _ c.u16_at-version.ensures _ (sym c.gather.ensures.value ∙ c.in_err-gathered.was {u = tt}) in
    numbers-refused _ _ _ _ (records-stop _ _ (served a.Else-not-contains) (passed a.In_ok-header) _ _ g)

pub finish-requires : goal.finish-requires
finish-requires c =
    let x = given (goal.at.finish-requires c).In_ok-gathered in
    (x.parts, (x.ranged, (x.held, c.gather.ensures.numbers_after x.parts x.found)))

pub returns-clause-value : goal.returns-clause-value
unfolding serial_of
returns-clause-value c =
    let a = goal.at.returns-clause-value c in
    let x = given a.In_ok-gathered in
    let n = c.gather.ensures.numbers_after x.parts x.found in
    let e = records-give _ _ (served a.Else-not-contains) (passed a.In_ok-header) _ x.are in
    c.finish.ensures x.parts x.held n ∙ ap (λ (k : ℕ). head_in (finish_of k x.parts)) c.u32_at.ensures ∙ ap head_in (sym e)

pub returns-clause-numbers_after : goal.returns-clause-numbers_after
returns-clause-numbers_after c =
    let a = goal.at.returns-clause-numbers_after c in
    let x = given a.In_ok-gathered in
    let n = c.gather.ensures.numbers_after x.parts x.found in
    numbers-finished _ _ _ _ (records-give _ _ (served a.Else-not-contains) (passed a.In_ok-header) _ x.are) n
