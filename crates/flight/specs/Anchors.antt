-- Holds clauses 15.8 to 15.16, 17.12: what the words of these clauses and of two flights have to mean. Each law here fails where one of their
-- definitions says less: a field or a case that is dropped, a thing that is compared with itself, a hypothesis that nothing meets. Assumes
-- nothing.
use Rattle.std.specs.Prelude.{◌≡◌, true, false, List, [], ◌∷◌, ◌⊎◌, ◌↔◌, ℕ, ◌≤◌, ◌<◌, Float, Some}
use Rattle.conditions.specs.All.{All}
use Rattle.refusals.specs.Outcome.{good}
use Rattle.refusals.specs.Sweep.{done}
use Rattle.plane.specs.declared.Point.{Point}
use Rattle.units.specs.Position.{position_of}
use Rattle.guidance.specs.declared.Command.TheVariants.{Nothing}
use Rattle.guidance.specs.Commands.{PlainCommand}
use Rattle.manager.specs.declared.State.{State}
use Rattle.manager.specs.declared.Stepped.{Stepped}
use Rattle.manager.specs.State.{valid_of}
use Rattle.records.specs.Walk.{flat, fills}
use Rattle.records.specs.Kinds.{holds_newer, sift}
use Rattle.writer.specs.File.{with_header}
use Rattle.wpl.specs.Header.{version_of, serial_of, header_of}
use Rattle.wpl.specs.Load.{records_of, load_of, loaded_of}
use Rattle.flight.specs.Run.{Named, step_by, run, Alike, AlikeRuns}
use Rattle.flight.specs.Demand.{IsOlder, Loads, RefusesAsTooNew, IsCut, IsLater, Demand}
use Rattle.flight.specs.Flight.{last_of}
use Rattle.flight.specs.TwoFlights.{flown_with, answers_with, commands_with, OlderFlights}
use Rattle.flight.specs.Witnesses.{ClaimHolds, claims}

-- 15.8 to 15.16 with none of their own words: readers by their numbers, loads and runs as the contracts have them, the cut file by its bytes
pub record Outright : Type 0 where
  pub older : (f : List ℕ) (s : State) → load_of 3 f ≡ good s → (r : ℕ) → 1 ≤ r → r ≤ 2
      → ((holds_newer r (records_of f) ≡ true) × ((loaded_of (load_of r f)).refusal ≡ 7)) ⊎ ((holds_newer r (records_of f) ≡ false) × (load_of r f ≡ good s))
  pub runs : (f : List ℕ) (s t : State) (r : ℕ) → 1 ≤ r → r ≤ 2 → load_of r f ≡ good s → load_of 3 f ≡ good t → (fixes : List Named) → run s fixes ≡ run t fixes
  pub second : (s : State) (x y : Named) → run s (x ∷ y ∷ []) ≡ step_by s x ∷ step_by (step_by s x).state y ∷ []
  pub later : (f : List ℕ) → 3 < version_of f → header_of f ≡ good done → fills (records_of f) ≡ true → (s : State)
      → (load_of 3 f ≡ good s) ↔ (load_of 3 (with_header 3 (serial_of f) (flat (sift (records_of f)))) ≡ good s)
  pub left : (f : List ℕ) → 3 < version_of f → header_of f ≡ good done → fills (records_of f) ≡ true
      → (header_of (with_header 3 (serial_of f) (flat (sift (records_of f)))) ≡ good done)
      × (records_of (with_header 3 (serial_of f) (flat (sift (records_of f)))) ≡ sift (records_of f))
  pub valid : (r : ℕ) (f : List ℕ) (s : State) → load_of r f ≡ good s → valid_of s ≡ true
  -- the answer to a fix after any others
  pub flies : (r : ℕ) (f : List ℕ) (s : State) → load_of r f ≡ good s → (before : List Named) (x : Named) → x.serial ≡ serial_of f → (p : Point) → position_of x.fix ≡ Some p
      → ((step_by (last_of s (run s before)) x).answer.refusal ≡ 0) × ((step_by (last_of s (run s before)) x).answer.command ≡ Nothing → ⊥)
  pub plain : (s : State) (before : List Named) (x : Named) → PlainCommand (step_by (last_of s (run s before)) x).answer.command

pub record Anchored : Type 0 where
  -- alike is equal
  pub steps : (a b : Stepped) → Alike a b → a ≡ b
  pub runs : (xs ys : List Stepped) → AlikeRuns xs ys → xs ≡ ys
  -- readers one and two are older, and three is not
  pub older : IsOlder 1 × IsOlder 2
  pub newest : IsOlder 3 → ⊥
  -- what `wpl::load` answers
  pub loads : (r : ℕ) (f : List ℕ) (s : State) → Loads r f s ↔ (loaded_of (load_of r f) ≡ record { refusal = 0; place = 0; state = s })
  pub refuses : (r : ℕ) (f : List ℕ) → RefusesAsTooNew r f ↔ ((loaded_of (load_of r f)).refusal ≡ 7)
  -- whatever is the cut of a later file loads as that file does
  pub cut : (f g : List ℕ) → IsLater f → IsCut f g → (s : State) → Loads 3 f s ↔ Loads 3 g s
  -- there are such files, in bytes
  pub files : All ClaimHolds claims
  pub outright : Demand → Outright
  -- where reader three flies, reader one's flight and reader two's are refused as too new, or they are the same
  pub flights : (f serials : List ℕ) (fixes : List Float) (answers : List ℕ) (commands : List Float) → OlderFlights f serials fixes answers commands
      → (flown_with f serials fixes answers commands 3).refusal ≡ 0 → (r : ℕ) → 1 ≤ r → r ≤ 2
      → ((flown_with f serials fixes answers commands r).refusal ≡ 7)
      ⊎ ((flown_with f serials fixes answers commands r ≡ flown_with f serials fixes answers commands 3)
      × ((answers_with f serials fixes answers commands r ≡ answers_with f serials fixes answers commands 3)
      × (commands_with f serials fixes answers commands r ≡ commands_with f serials fixes answers commands 3)))
