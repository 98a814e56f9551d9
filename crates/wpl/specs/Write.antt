-- Clauses 5.2, 6.4, 6.5, 7.3, 7.7, 7.16, 8.3, 15.1, 15.4: a write: its checks in order, its answer, and the buffer afterwards. Assumes nothing.
use Rattle.std.specs.Prelude.{List, ℕ, leb, length}
use Rattle.conditions.specs.Between.{between}
use Rattle.refusals.specs.Numbers.{no_version, too_new, no_state, no_room}
use Rattle.refusals.specs.Outcome.{Outcome, good, refused, check}
use Rattle.plan.specs.declared.Mode.{Mode}
use Rattle.plan.specs.declared.Mode.TheVariants.{Lines, Fillets, Dubins}
use Rattle.manager.specs.declared.State.{State}
use Rattle.manager.specs.State.{valid_of}
use Rattle.records.specs.Versions.{newest}
use Rattle.records.specs.Kinds.{point_row, radius_row, course_row}
use Rattle.buffers.specs.Splice.{over}
use Rattle.writer.specs.File.{file_of}
use Rattle.wpl.specs.declared.Written.{Written}

-- the least version that can carry a plan: the first that has the newest kind of its records
unfoldable pub carried_since : Mode → ℕ
carried_since Lines = point_row.since
carried_since Fillets = radius_row.since
carried_since Dubins = course_row.since

-- 6.4: the file's bytes, for a buffer of a length; 7.3 of the version asked for, 7.7 of what the plan needs, 7.16 of the buffer
unfoldable pub write_of : State → ℕ → ℕ → Outcome (List ℕ)
write_of s version room =
    check (valid_of s) no_state
    (check (between 1 newest version) no_version
    (check (leb (carried_since s.plan.head.mode) version) too_new
    (check (leb (length (file_of version s.plan)) room) no_room (good (file_of version s.plan)))))

-- the answer
unfoldable pub written_of : Outcome (List ℕ) → Written
written_of (good bytes) = record { refusal = 0; place = 0; length = length bytes }
written_of (refused number place) = record { refusal = number; place = place; length = 0 }

-- the buffer afterwards
unfoldable pub buffer_of : Outcome (List ℕ) → List ℕ → List ℕ
buffer_of (good bytes) buffer = over bytes buffer
buffer_of (refused number place) buffer = buffer
