-- Clauses 15.8 to 15.16: what older readers owe, clause by clause, over the definitions that the contracts of `wpl::load` and `State::step`
-- cite. Assumes nothing.
-- 15.14: an f32's bits are a function of its value in the logic, but for a NaN, which is one value there and many patterns on the machine; and
-- no number of a command is a NaN (the field `plain`, which shuts out infinities and −0.0 too). So `≡` of two commands says that their bits are
-- equal.
use Rattle.std.specs.Prelude.{◌≡◌, true, false, List, ◌⊎◌, ◌↔◌, ℕ, ◌<◌}
use Rattle.refusals.specs.Numbers.{too_new}
use Rattle.refusals.specs.Outcome.{good, refused}
use Rattle.refusals.specs.Sweep.{done}
use Rattle.manager.specs.declared.State.{State}
use Rattle.manager.specs.declared.Stepped.{Stepped}
use Rattle.manager.specs.State.{valid_of}
use Rattle.records.specs.Walk.{flat, fills}
use Rattle.records.specs.Kinds.{holds_newer, sift}
use Rattle.writer.specs.File.{with_header}
use Rattle.wpl.specs.Header.{version_of, serial_of, header_of}
use Rattle.wpl.specs.Load.{records_of, load_of}
use Rattle.flight.specs.Run.{Named, run, Chain, AlikeRuns, Answered, PlainRun}

-- the readers before the newest
abbrev pub IsOlder : ℕ → Type 0
IsOlder r = (r ≡ 1) ⊎ (r ≡ 2)

abbrev pub Loads : ℕ → List ℕ → State → Type 0
Loads r f s = load_of r f ≡ good s

-- 15.8: at whatever place
abbrev pub RefusesAsTooNew : ℕ → List ℕ → Type 0
RefusesAsTooNew r f = (place : ℕ) × (load_of r f ≡ refused too_new place)

-- 15.12: the file without the records that the newest reader passes over
unfoldable pub cut_out : List ℕ → List ℕ
cut_out f = with_header 3 (serial_of f) (flat (sift (records_of f)))

-- what it has to be: version three, the same serial, a header that refusals 1 to 5 pass, the area length among it, and of the records those
-- that are left
pub record IsCut (f g : List ℕ) : Type 0 where
  pub version : version_of g ≡ 3
  pub serial : serial_of g ≡ serial_of f
  pub header : header_of g ≡ good done
  pub records : records_of g ≡ sift (records_of f)

-- 15.12: newer than every reader, and whole
pub record IsLater (f : List ℕ) : Type 0 where
  pub version : 3 < version_of f
  pub header : header_of f ≡ good done
  pub records : fills (records_of f) ≡ true

pub record Demand : Type 0 where
  -- 15.8: of a file that the newest reader loads, exactly where it holds what the older version lacks
  pub refuses : (f : List ℕ) (s : State) → Loads 3 f s → (r : ℕ) → IsOlder r → RefusesAsTooNew r f ↔ (holds_newer r (records_of f) ≡ true)
  -- 15.9: where it holds none of that, the state is the same
  pub otherwise : (f : List ℕ) (s : State) → Loads 3 f s → (r : ℕ) → IsOlder r → holds_newer r (records_of f) ≡ false → Loads r f s
  -- 15.10 and 15.15: of every list of fixes, whatever it holds
  pub alike : (f : List ℕ) (s₁ s₃ : State) (r : ℕ) → IsOlder r → Loads r f s₁ → Loads 3 f s₃ → (fixes : List Named) → AlikeRuns (run s₁ fixes) (run s₃ fixes)
  -- 15.11: a run, and nothing but it, is a chain from the loaded state
  pub chained : (s : State) (fixes : List Named) (os : List Stepped) → Chain s fixes os ↔ (os ≡ run s fixes)
  -- 15.12: what the cut file is, and that one loads exactly where the other does
  pub cutting : (f : List ℕ) → IsLater f → IsCut f (cut_out f)
  pub cut : (f : List ℕ) → IsLater f → ((s : State) × Loads 3 f s) ↔ ((s : State) × Loads 3 (cut_out f) s)
  -- 15.13: to equal states
  pub same : (f : List ℕ) → IsLater f → (s t : State) → Loads 3 f s → Loads 3 (cut_out f) t → s ≡ t
  -- 15.16: a loaded plan flies: of any file that any reader loads, the state is one that 14 does not refuse, and in every list each fix that names its
  -- serial at a position in range is answered with a line or a circle.
  pub valid : (r : ℕ) (f : List ℕ) (s : State) → Loads r f s → valid_of s ≡ true
  pub flies : (r : ℕ) (f : List ℕ) (s : State) → Loads r f s → (fixes : List Named) → Answered (serial_of f) fixes (run s fixes)
  -- 15.14: in every run from any state every number of a command is a finite f32 and not −0.0
  pub plain : (s : State) (fixes : List Named) → PlainRun (run s fixes)
