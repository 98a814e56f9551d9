-- `write_from` refuses as was found, or writes the file of the plan. Assumes nothing.
use mathlib.Core.Path.{◌≡◌, sym, ap, ◌∙◌}
use mathlib.Core.List.{List}
use Prim.Native.Nat.{ℕ}
use native.Mathlib.Omega.{arith}
use lib.ListN.{length}
use Rattle.refusals.specs.Outcome.{Outcome, refused}
use Rattle.plan.specs.Lent.{lent_plan}
use Rattle.manager.specs.State.{with_progress}
use Rattle.wpl.specs.Write.{write_of, written_of, buffer_of}
use Rattle.wpl.proofs.WriteLaws.{Passes, none-refused, write-refused, write-passes, count_most, writable}
use Rattle.wpl.proofs.RoundTripLaws.{round_trip, every-reader}
use Rattle.wpl.proofs.write_from.Goals as goal
use Rattle.wpl.proofs.write_from.Goals.{In-Err, In_default}

-- what was refused
refusal : (c : In-Err) → write_of (with_progress (lent_plan c.args.plan.now) c.args.progress) c.args.version (length c.args.file.now) ≡ refused c.in-Err.found.number c.in-Err.found.place
refusal c = write-refused _ _ _ _ (sym c.write_refusal.ensures ∙ c.in-Err.is)

-- nothing was
passes : (c : In_default) → Passes (with_progress (lent_plan c.args.plan.now) c.args.progress) c.args.version (length c.args.file.now)
passes c = none-refused _ _ _ _ (sym c.write_refusal.ensures ∙ c.in_default.is)

pub returns-in-Err-clause-value : goal.returns-in-Err-clause-value
unfolding written_of
returns-in-Err-clause-value c = ap written_of (sym (refusal (goal.at.returns-in-Err-clause-value c).In-Err))

pub returns-in-Err-clause-file_after : goal.returns-in-Err-clause-file_after
unfolding buffer_of
returns-in-Err-clause-file_after c = ap (λ (o : Outcome (List ℕ)). buffer_of o c.args.file.now) (sym (refusal (goal.at.returns-in-Err-clause-file_after c).In-Err))

pub returns-in-Err-clause-round_trip : goal.returns-in-Err-clause-round_trip
returns-in-Err-clause-round_trip c = round_trip _ c.requires

pub returns-in-Err-clause-every_reader : goal.returns-in-Err-clause-every_reader
returns-in-Err-clause-every_reader c = every-reader _ (round_trip _ c.requires)

pub overflow_cast-version : goal.overflow_cast-version
overflow_cast-version c = let p = passes (goal.at.overflow_cast-version c).In_default in omega (arith, p.newer)

pub put_plan-requires : goal.put_plan-requires
put_plan-requires c = let p = passes (goal.at.put_plan-requires c).In_default in (writable _ c.args.plan.now.long p.valid, p.roomy)

pub file_length-requires : goal.file_length-requires
file_length-requires c = count_most _ (passes (goal.at.file_length-requires c).In_default).valid

pub returns-clause-value : goal.returns-clause-value
unfolding written_of
returns-clause-value c =
    let p = c.args.plan.now in
    let w = write-passes _ _ _ (passes (goal.at.returns-clause-value c).In_default) in
    ap (λ (n : ℕ). record { refusal = 0; place = 0; length = n }) (c.file_length.ensures c.args.version p.norths.now p.easts.now p.downs.now p.courses.now) ∙ ap written_of (sym w)

pub returns-clause-file_after : goal.returns-clause-file_after
unfolding buffer_of
returns-clause-file_after c =
    let w = write-passes _ _ _ (passes (goal.at.returns-clause-file_after c).In_default) in
    c.put_plan.ensures.file_after ∙ ap (λ (o : Outcome (List ℕ)). buffer_of o c.args.file.now) (sym w)

pub returns-clause-round_trip : goal.returns-clause-round_trip
returns-clause-round_trip c = round_trip _ c.requires

pub returns-clause-every_reader : goal.returns-clause-every_reader
returns-clause-every_reader c = every-reader _ (round_trip _ c.requires)
