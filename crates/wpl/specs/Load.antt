-- Clauses 3.4, 5.6, 6.1, 7.3, 8.5, 15.1, 15.2, 18.8: a load, in the order of its checks. Assumes nothing.
use Rattle.std.specs.Prelude.{List, ℕ, length, drop, Result, Ok, Err}
use Rattle.conditions.specs.Between.{between}
use Rattle.refusals.specs.declared.Refusal.{Refusal}
use Rattle.refusals.specs.Numbers.{no_version}
use Rattle.refusals.specs.Outcome.{Outcome, good, refused, check, and_then}
use Rattle.refusals.specs.Sweep.{Done}
use Rattle.plan.specs.declared.Head.{Head}
use Rattle.plan.specs.Places.{points_at, courses_at}
use Rattle.plan.specs.Rules.{mode_of, rules_on}
use Rattle.plan.specs.Loaded.{plan_of}
use Rattle.manager.specs.declared.State.{State}
use Rattle.manager.specs.State.{empty_state, start_of}
use Rattle.records.specs.declared.Gathered.{Gathered}
use Rattle.records.specs.Walk.{Walked, walk}
use Rattle.records.specs.Versions.{newest}
use Rattle.records.specs.Kinds.{Parts, no_parts}
use Rattle.records.specs.Gather.{header_length, gather}
use Rattle.wpl.specs.declared.Loaded.{Loaded}
use Rattle.wpl.specs.declared.Entered.{Entered}
use Rattle.wpl.specs.Header.{version_of, serial_of, header_of}

-- 3.4: the records behind the header
unfoldable pub records_of : List ℕ → Walked
records_of f = walk (drop header_length f)

unfoldable pub parts_of : ℕ → List ℕ → Outcome Parts
parts_of r f = gather r (version_of f) header_length no_parts (records_of f)

-- what only the whole walk decides, before 8: nothing in versions one to three
unfoldable pub settle_of : Walked → Parts → Outcome Parts
settle_of w a = good a

-- 8 to 12 and 17
unfoldable pub rules_in : Parts → Outcome Done
rules_in a =
    rules_on (mode_of a.radius (length a.courses)) a.radius (length a.courses) (length a.points) (points_at a.points) (courses_at a.courses)

-- the state at the start of the plan that the parts make
unfoldable pub finish_of : ℕ → Parts → Outcome State
finish_of serial a =
    and_then (rules_in a) (λ (_ : Done). good (start_of (plan_of serial a.radius a.points a.courses)))

-- what the records and the rules after them give, once the header has passed
unfoldable pub body_of : ℕ → List ℕ → Outcome State
body_of r f = and_then (parts_of r f) (λ (a : Parts). and_then (settle_of (records_of f) a) (finish_of (serial_of f)))

-- 7.3: the reader's version comes first of all
unfoldable pub load_of : ℕ → List ℕ → Outcome State
load_of r f = check (between 1 newest r) no_version (and_then (header_of f) (λ (_ : Done). body_of r f))

-- 15.2: as the struct that `load` answers, the empty state with a refusal
unfoldable pub loaded_of : Outcome State → Loaded
loaded_of (good s) = record { refusal = 0; place = 0; state = s }
loaded_of (refused number place) = record { refusal = number; place = place; state = empty_state }

-- the same of a refusal; for proofs alone
abbrev pub refused_of : Refusal → Loaded
refused_of r = record { refusal = r.number; place = r.place; state = empty_state }

-- what the code hands on before it: the head alone; for proofs alone
unfoldable pub head_in : Outcome State → Result Head Refusal
head_in (good s) = Ok s.plan.head
head_in (refused number place) = Err (record { number = number; place = place })

-- what the records give beside the numbers; for proofs alone
abbrev pub head_from : ℕ → Gathered → Head
head_from serial g = record { serial = serial; mode = mode_of g.radius g.given; radius = g.radius; count = g.count }

-- what a load into lent numbers answers: the same without the numbers
abbrev pub entered_of : Loaded → Entered
entered_of x = record { refusal = x.refusal; place = x.place; head = x.state.plan.head; progress = x.state.progress }
