-- `write_refusal` asks 14, 3, 7 and 16 in their order. Assumes nothing.
use mathlib.Core.Path.{◌≡◌, sym, ap, ◌∙◌}
use mathlib.Core.Bool.{true}
use native.Mathlib.Omega.{arith}
use Rattle.conditions.specs.Between.{between}
use Rattle.refusals.specs.Sweep.{passed_of}
use Rattle.records.proofs.RuleLaws.{in-range}
use Rattle.wpl.proofs.WriteLaws.{not_valid, version-wrong, not_carried, no_room_lem, passing, write-passes, count_most, failed-write}
use Rattle.wpl.proofs.write_refusal.Goals as goal
use Rattle.wpl.proofs.write_refusal.Goals.{Else-not-contains}

-- the version is one of three
served : (c : Else-not-contains) → between 1 3 c.args.version ≡ true
served c =
    sym (in-range _ _ _ _ c.new.ensures.start c.new.ensures.end c.new.ensures.exhausted) ∙ sym c.contains.ensures.value ∙ c.if-not-contains.false

pub returns-then-not-valid : goal.returns-then-not-valid
returns-then-not-valid c = failed-write _ _ _ _ _ c.failed.ensures.value (not_valid _ _ _ (sym c.valid.ensures.0 ∙ c.if-not-valid.true))

pub returns-then-not-contains : goal.returns-then-not-contains
returns-then-not-contains c =
    let t = sym (in-range _ _ _ _ c.new.ensures.start c.new.ensures.end c.new.ensures.exhausted) ∙ sym c.contains.ensures.value ∙ c.if-not-contains.true in
    failed-write _ _ _ _ _ c.failed-then-not-contains.ensures.value (version-wrong _ _ _ (sym c.valid.ensures.0 ∙ c.if-not-valid.false) t)

pub returns-then-version-carried_since : goal.returns-then-version-carried_since
returns-then-version-carried_since c =
    let t = served (goal.at.returns-then-version-carried_since c).Else-not-contains in
    failed-write _ _ _ _ _ c.failed-then-version-carried_since.ensures.value
    (not_carried _ _ _ (sym c.valid.ensures.0 ∙ c.if-not-valid.false) t (omega (arith, c.if-version-carried_since.true, c.carried_since.ensures)))

pub file_length-requires : goal.file_length-requires
file_length-requires c = count_most _ (sym c.valid.ensures.0 ∙ c.if-not-valid.false)

pub returns-then-room-file_length : goal.returns-then-room-file_length
returns-then-room-file_length c =
    let a = c.args in
    let p = a.plan.now in
    let t = served (goal.at.returns-then-room-file_length c).Else-not-contains in
    failed-write _ _ _ _ _ c.failed-then-room-file_length.ensures.value
    (no_room_lem _ _ _ (sym c.valid.ensures.0 ∙ c.if-not-valid.false) t (omega (arith, c.if-version-carried_since.false, c.carried_since.ensures))
    (omega (arith, c.if-room-file_length.true, c.file_length.ensures a.version p.norths.now p.easts.now p.downs.now p.courses.now)))

pub returns : goal.returns
unfolding passed_of
returns c =
    let a = c.args in
    let p = a.plan.now in
    let t = served (goal.at.returns c).Else-not-contains in
    sym (ap passed_of (write-passes _ _ _
    (passing _ _ _ (sym c.valid.ensures.0 ∙ c.if-not-valid.false) t (omega (arith, c.if-version-carried_since.false, c.carried_since.ensures))
    (omega (arith, c.if-room-file_length.false, c.file_length.ensures a.version p.norths.now p.easts.now p.downs.now p.courses.now)))))
