-- No clause: the structs of the code and the numbers that it fills, by what the definitions of the records give. Points and courses lie in
-- arrays of a plan's length: what is over is counted up to one and not stored, which is all that refusals 8 and 9 ask. Assumes nothing.
use Rattle.std.specs.Prelude.{List, ℕ, ◌+◌, min, ℤ, length, Result, Ok, Err}
use Rattle.refusals.specs.declared.Refusal.{Refusal}
use Rattle.refusals.specs.Numbers.{wrong_record, too_new}
use Rattle.refusals.specs.Outcome.{Outcome, good, refused}
use Rattle.plan.specs.Limits.{most_points}
use Rattle.plan.specs.Places.{numbers_of}
use Rattle.plan.specs.Loaded.{plan_of}
use Rattle.records.specs.declared.Effect.{Effect}
use Rattle.records.specs.declared.Effect.TheVariants.{Nothing, AddPoint, SetRadius, AddCourse}
use Rattle.records.specs.declared.Fault.{Fault}
use Rattle.records.specs.declared.Fault.TheVariants.{Wrong, TooNew}
use Rattle.records.specs.declared.Tally.{Tally}
use Rattle.records.specs.declared.Gathered.{Gathered}
use Rattle.records.specs.Kinds.{Parts, with_point, with_radius, with_course, Verdict, takes, wrong, beyond}

-- up to one more than a plan's places
abbrev pub counted : ℕ → ℕ
counted n = min (most_points + 1) n

-- the parts without the points and courses themselves; for proofs alone
unfoldable pub tally_of : Parts → Tally
tally_of a =
    record {
      radius = a.radius;
      count = counted (length a.points);
      given = counted (length a.courses);
      follows = a.at_point;
    }

-- what an effect makes of the parts before it; for proofs alone
unfoldable pub with_effect : Parts → Effect → Parts
with_effect a Nothing = a
with_effect a (AddPoint p) = with_point a p
with_effect a (SetRadius n) = with_radius a n
with_effect a (AddCourse c) = with_course a c

-- the same as a verdict, or what is wrong with a record; for proofs alone
unfoldable pub verdict_of : Parts → Result Effect Fault → Verdict
verdict_of a (Ok x) = takes (with_effect a x)
verdict_of a (Err Wrong) = wrong
verdict_of a (Err TooNew) = beyond

-- the refusal of a record at an offset; for proofs alone
unfoldable pub fault_at : Fault → ℕ → Refusal
fault_at Wrong at = record { number = wrong_record; place = at }
fault_at TooNew at = record { number = too_new; place = at }

-- the numbers of the plan that parts make, whatever its serial
abbrev pub numbers_in : Parts → List ℤ
numbers_in a = numbers_of (plan_of 0 a.radius a.points a.courses)

-- parts as the answer, which has no points and no courses
abbrev pub answer_of : Parts → Gathered
answer_of a =
    record {
      radius = a.radius;
      count = counted (length a.points);
      given = counted (length a.courses);
    }

-- the parts that the whole walk gives, or a refusal and nothing else
unfoldable pub gathered_of : Outcome Parts → Result Gathered Refusal
gathered_of (good a) = Ok (answer_of a)
gathered_of (refused number place) = Err (record { number = number; place = place })
