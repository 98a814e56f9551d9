-- Holds clauses 15.8 to 15.13: files in bytes, worked out by hand from sections 3 and 4: what the clauses take for granted, there is. One list
-- of claims. Assumes nothing.
use Rattle.std.specs.Prelude.{◌≡◌, false, List, [], ◌∷◌, ◌++◌, ℕ, ◌-◌, ℤ, pos, negsuc, length, replicate, Some}
use Rattle.refusals.specs.Outcome.{good, refused}
use Rattle.plane.specs.declared.Point.{Point}
use Rattle.units.specs.declared.Fix.{Fix}
use Rattle.units.specs.Position.{position_of}
use Rattle.units.specs.CheckedExamples.{fix_of}
use Rattle.plan.specs.declared.Mode.{Mode}
use Rattle.plan.specs.declared.Mode.TheVariants.{Lines, Fillets, Dubins}
use Rattle.manager.specs.declared.State.{State}
use Rattle.manager.specs.Step.{step_of}
use Rattle.wpl.specs.Load.{load_of}
use Rattle.wpl.specs.Write.{write_of}
use Rattle.flight.specs.Demand.{Loads, IsLater, cut_out}

-- ---- the files, a line for the header and for each record
-- lines, serial 7
abbrev pub lines_file : List ℕ
lines_file =
    0x57 ∷ 0x50 ∷ 0x4C ∷ 0x00 ∷ 0x01 ∷ 0x00 ∷ 0x00 ∷ 0x00 ∷ 0x07 ∷ 0x00 ∷ 0x2A
    ∷ 0x01 ∷ 0x0C ∷ 0x00 ∷ 0x00 ∷ 0x00 ∷ 0x00 ∷ 0x00 ∷ 0x00 ∷ 0x00 ∷ 0x00 ∷ 0xFF ∷ 0xFF ∷ 0xFC ∷ 0x18
    ∷ 0x01 ∷ 0x0C ∷ 0x00 ∷ 0x00 ∷ 0x03 ∷ 0xE8 ∷ 0x00 ∷ 0x00 ∷ 0x00 ∷ 0x00 ∷ 0xFF ∷ 0xFF ∷ 0xFC ∷ 0x18
    ∷ 0x01 ∷ 0x0C ∷ 0x00 ∷ 0x00 ∷ 0x03 ∷ 0xE8 ∷ 0x00 ∷ 0x00 ∷ 0x07 ∷ 0xD0 ∷ 0xFF ∷ 0xFF ∷ 0xFC ∷ 0x18
    ∷ []

-- its points with radius 200, at version two
abbrev pub fillets_file : List ℕ
fillets_file =
    0x57 ∷ 0x50 ∷ 0x4C ∷ 0x00 ∷ 0x02 ∷ 0x00 ∷ 0x00 ∷ 0x00 ∷ 0x07 ∷ 0x00 ∷ 0x2E
    ∷ 0x02 ∷ 0x02 ∷ 0x00 ∷ 0xC8
    ∷ 0x01 ∷ 0x0C ∷ 0x00 ∷ 0x00 ∷ 0x00 ∷ 0x00 ∷ 0x00 ∷ 0x00 ∷ 0x00 ∷ 0x00 ∷ 0xFF ∷ 0xFF ∷ 0xFC ∷ 0x18
    ∷ 0x01 ∷ 0x0C ∷ 0x00 ∷ 0x00 ∷ 0x03 ∷ 0xE8 ∷ 0x00 ∷ 0x00 ∷ 0x00 ∷ 0x00 ∷ 0xFF ∷ 0xFF ∷ 0xFC ∷ 0x18
    ∷ 0x01 ∷ 0x0C ∷ 0x00 ∷ 0x00 ∷ 0x03 ∷ 0xE8 ∷ 0x00 ∷ 0x00 ∷ 0x07 ∷ 0xD0 ∷ 0xFF ∷ 0xFF ∷ 0xFC ∷ 0x18
    ∷ []

-- the same with courses 0, 0 and 2048, at version three
abbrev pub dubins_file : List ℕ
dubins_file =
    0x57 ∷ 0x50 ∷ 0x4C ∷ 0x00 ∷ 0x03 ∷ 0x00 ∷ 0x00 ∷ 0x00 ∷ 0x07 ∷ 0x00 ∷ 0x3A
    ∷ 0x02 ∷ 0x02 ∷ 0x00 ∷ 0xC8
    ∷ 0x01 ∷ 0x0C ∷ 0x00 ∷ 0x00 ∷ 0x00 ∷ 0x00 ∷ 0x00 ∷ 0x00 ∷ 0x00 ∷ 0x00 ∷ 0xFF ∷ 0xFF ∷ 0xFC ∷ 0x18
    ∷ 0x03 ∷ 0x02 ∷ 0x00 ∷ 0x00
    ∷ 0x01 ∷ 0x0C ∷ 0x00 ∷ 0x00 ∷ 0x03 ∷ 0xE8 ∷ 0x00 ∷ 0x00 ∷ 0x00 ∷ 0x00 ∷ 0xFF ∷ 0xFF ∷ 0xFC ∷ 0x18
    ∷ 0x03 ∷ 0x02 ∷ 0x00 ∷ 0x00
    ∷ 0x01 ∷ 0x0C ∷ 0x00 ∷ 0x00 ∷ 0x03 ∷ 0xE8 ∷ 0x00 ∷ 0x00 ∷ 0x07 ∷ 0xD0 ∷ 0xFF ∷ 0xFF ∷ 0xFC ∷ 0x18
    ∷ 0x03 ∷ 0x02 ∷ 0x08 ∷ 0x00
    ∷ []

-- the listing's points at version four, with a record of kind 200, which no version here has, and a note
abbrev pub later_file : List ℕ
later_file =
    0x57 ∷ 0x50 ∷ 0x4C ∷ 0x00 ∷ 0x04 ∷ 0x00 ∷ 0x00 ∷ 0x00 ∷ 0x07 ∷ 0x00 ∷ 0x32
    ∷ 0x01 ∷ 0x0C ∷ 0x00 ∷ 0x00 ∷ 0x00 ∷ 0x00 ∷ 0x00 ∷ 0x00 ∷ 0x00 ∷ 0x00 ∷ 0xFF ∷ 0xFF ∷ 0xFC ∷ 0x18
    ∷ 0xC8 ∷ 0x03 ∷ 0x01 ∷ 0x02 ∷ 0x03
    ∷ 0x01 ∷ 0x0C ∷ 0x00 ∷ 0x00 ∷ 0x03 ∷ 0xE8 ∷ 0x00 ∷ 0x00 ∷ 0x00 ∷ 0x00 ∷ 0xFF ∷ 0xFF ∷ 0xFC ∷ 0x18
    ∷ 0x80 ∷ 0x01 ∷ 0x41
    ∷ 0x01 ∷ 0x0C ∷ 0x00 ∷ 0x00 ∷ 0x03 ∷ 0xE8 ∷ 0x00 ∷ 0x00 ∷ 0x07 ∷ 0xD0 ∷ 0xFF ∷ 0xFF ∷ 0xFC ∷ 0x18
    ∷ []

-- that file with its unknown optional record cut out: five bytes less in the area, version three; the note is known and stays
abbrev pub cut_file : List ℕ
cut_file =
    0x57 ∷ 0x50 ∷ 0x4C ∷ 0x00 ∷ 0x03 ∷ 0x00 ∷ 0x00 ∷ 0x00 ∷ 0x07 ∷ 0x00 ∷ 0x2D
    ∷ 0x01 ∷ 0x0C ∷ 0x00 ∷ 0x00 ∷ 0x00 ∷ 0x00 ∷ 0x00 ∷ 0x00 ∷ 0x00 ∷ 0x00 ∷ 0xFF ∷ 0xFF ∷ 0xFC ∷ 0x18
    ∷ 0x01 ∷ 0x0C ∷ 0x00 ∷ 0x00 ∷ 0x03 ∷ 0xE8 ∷ 0x00 ∷ 0x00 ∷ 0x00 ∷ 0x00 ∷ 0xFF ∷ 0xFF ∷ 0xFC ∷ 0x18
    ∷ 0x80 ∷ 0x01 ∷ 0x41
    ∷ 0x01 ∷ 0x0C ∷ 0x00 ∷ 0x00 ∷ 0x03 ∷ 0xE8 ∷ 0x00 ∷ 0x00 ∷ 0x07 ∷ 0xD0 ∷ 0xFF ∷ 0xFF ∷ 0xFC ∷ 0x18
    ∷ []

-- ---- the state that they load to, by mode, radius and courses: serial 7, points (0, 0, −1000), (1000, 0, −1000) and (1000, 2000, −1000), unused
-- places zero, at the start
abbrev pub with_zeros : List ℤ → List ℤ
with_zeros xs = xs ++ replicate (64 - length xs) (pos 0)

abbrev pub state_of : Mode → ℕ → List ℤ → State
state_of mode R courses =
    record {
      plan =
          record {
            head = record { serial = 7; mode = mode; radius = R; count = 3 };
            norths = with_zeros (pos 0 ∷ pos 1000 ∷ pos 1000 ∷ []);
            easts = with_zeros (pos 0 ∷ pos 0 ∷ pos 2000 ∷ []);
            downs = with_zeros (negsuc 999 ∷ negsuc 999 ∷ negsuc 999 ∷ []);
            courses = with_zeros courses;
          };
      progress = record { index = 2; phase = 1; finished = false };
    }

abbrev pub lines_state : State
lines_state = state_of Lines 0 []

abbrev pub fillets_state : State
fillets_state = state_of Fillets 200 []

abbrev pub dubins_state : State
dubins_state = state_of Dubins 200 (pos 0 ∷ pos 0 ∷ pos 2048 ∷ [])

-- 50 m east of the first point, which is 500 decimetres beside the first leg: 0x42480000 is 50.0 and 0xC2C80000 is −100.0
abbrev pub beside_leg : Fix
beside_leg = fix_of 0 0x4248_0000 0xC2C8_0000

-- ---- what a claim says
pub data Claim : Type 0 where
  -- a reader loads a file to a state
  loads : ℕ → List ℕ → State → Claim
  -- a reader refuses a file, with a number at a place
  refuses_file : ℕ → List ℕ → ℕ → ℕ → Claim
  -- a state is written at a version, into room for just that file
  writes : State → ℕ → List ℕ → Claim
  -- a file is marked later, and this is left of it
  cuts : List ℕ → List ℕ → Claim
  -- a file is not marked later
  stays : List ℕ → Claim
  -- a fix that names the state's serial is at a point, and is flown with a heading
  steers : State → Fix → Point → ℕ → Claim

abbrev pub ClaimHolds : Claim → Type 0
ClaimHolds (loads r f s) = Loads r f s
ClaimHolds (refuses_file r f number place) = load_of r f ≡ refused number place
ClaimHolds (writes s version f) = write_of s version (length f) ≡ good f
ClaimHolds (cuts f g) = IsLater f × (cut_out f ≡ g)
ClaimHolds (stays f) = IsLater f → ⊥
ClaimHolds (steers s fix p heading) =
    (position_of fix ≡ Some p) × (((step_of s s.plan.head.serial fix).answer.refusal ≡ 0) × ((step_of s s.plan.head.serial fix).answer.heading ≡ heading))

abbrev pub claims : List Claim
claims =
    writes lines_state 1 lines_file
    ∷ loads 1 lines_file lines_state
    ∷ loads 2 lines_file lines_state
    ∷ loads 3 lines_file lines_state
    ∷ refuses_file 1 fillets_file 7 11
    ∷ loads 2 fillets_file fillets_state
    ∷ loads 3 fillets_file fillets_state
    ∷ refuses_file 1 dubins_file 7 11
    ∷ refuses_file 2 dubins_file 7 29
    ∷ loads 3 dubins_file dubins_state
    ∷ cuts later_file cut_file
    ∷ loads 3 later_file lines_state
    ∷ loads 3 cut_file lines_state
    ∷ stays dubins_file
    ∷ steers lines_state beside_leg (record { north = pos 0; east = pos 500; down = negsuc 999 }) 3712
    ∷ []
