-- Holds clauses 6.1, 6.2, 6.4, 7.1 to 7.12, 7.14, 7.16: files and writes with more than one fault, worked out by hand: the order of the checks,
-- and each number and place. Assumes nothing.
use Rattle.std.specs.Prelude.{◌≡◌, List, [], ◌∷◌, ◌++◌, ℕ, replicate}
use Rattle.refusals.specs.Outcome.{refused}
use Rattle.plane.specs.Samples.{ground}
use Rattle.plan.specs.Loaded.{plan_of}
use Rattle.manager.specs.declared.State.{State}
use Rattle.manager.specs.State.{empty_state, start_of}
use Rattle.wpl.specs.Load.{load_of}
use Rattle.wpl.specs.Write.{write_of}

-- ---- bytes: a header with its mark, by version, serial and the two bytes of its area length; records of numbers that take a byte
abbrev pub headed : ℕ → ℕ → ℕ → ℕ → List ℕ → List ℕ
headed version serial high low area =
    0x57 ∷ 0x50 ∷ 0x4C ∷ 0x00 ∷ version ∷ 0x00 ∷ 0x00 ∷ 0x00 ∷ serial ∷ high ∷ low ∷ area

abbrev pub byte_point : ℕ → ℕ → List ℕ
byte_point n e = 0x01 ∷ 0x0C ∷ 0x00 ∷ 0x00 ∷ 0x00 ∷ n ∷ 0x00 ∷ 0x00 ∷ 0x00 ∷ e ∷ 0x00 ∷ 0x00 ∷ 0x00 ∷ 0x00 ∷ []

abbrev pub byte_radius : ℕ → List ℕ
byte_radius R = 0x02 ∷ 0x02 ∷ 0x00 ∷ R ∷ []

abbrev pub byte_course : List ℕ
byte_course = 0x03 ∷ 0x02 ∷ 0x00 ∷ 0x00 ∷ []

-- ---- a plan with a radius of 200, at its start
abbrev pub rounded : State
rounded = start_of (plan_of 7 200 (ground 0 0 ∷ ground 1000 0 ∷ ground 1000 1000 ∷ []) [])

-- ---- what is refused
pub data Fault : Type 0 where
  -- a file for a reader: the number and the place
  load_fault : ℕ → List ℕ → ℕ → ℕ → Fault
  -- a state for a version and so much room: the number
  write_fault : State → ℕ → ℕ → ℕ → Fault

abbrev pub Refused : Fault → Type 0
Refused (load_fault reader bytes number place) = load_of reader bytes ≡ refused number place
Refused (write_fault s version room number) = write_of s version room ≡ refused number 0

-- 6.1 and 6.2. Each file has the fault of its number, and all but the last have later ones too.
abbrev pub load_order : List Fault
load_order =
    load_fault 0 [] 3 0
    ∷ load_fault 4 [] 3 0
    ∷ load_fault 3 (replicate 10 0) 1 0
    ∷ load_fault 3 (replicate 10 0 ++ (1 ∷ [])) 2 0
    ∷ load_fault 3 (headed 0 0 0 1 []) 3 0
    ∷ load_fault 3 (headed 1 0 0 1 []) 4 0
    ∷ load_fault 3 (headed 1 7 0 0 (9 ∷ [])) 5 0
    ∷ load_fault 3 (headed 1 7 0x20 0x01 (replicate 8193 0)) 5 0
    ∷ load_fault 3 (headed 1 7 0 1 (1 ∷ [])) 6 11
    ∷ load_fault 1 (headed 2 7 0 18 (byte_point 0 0 ++ byte_radius 9)) 7 25
    ∷ load_fault 3 (headed 3 7 0 18 (byte_point 0 0 ++ byte_course)) 8 0
    ∷ load_fault 3 (headed 3 7 0 46 (byte_point 0 0 ++ (byte_course ++ (byte_point 0 0 ++ byte_point 0 0)))) 9 0
    ∷ load_fault 3 (headed 1 7 0 56 (byte_point 0 0 ++ (byte_point 100 0 ++ (byte_point 0 0 ++ byte_point 0 0)))) 10 4
    ∷ load_fault 3 (headed 2 7 0 46 (byte_radius 200 ++ (byte_point 0 0 ++ (byte_point 100 0 ++ byte_point 0 1)))) 11 2
    ∷ load_fault 3 (headed 2 7 0 46 (byte_radius 200 ++ (byte_point 0 0 ++ (byte_point 100 0 ++ byte_point 100 100)))) 12 2
    ∷ []

-- 6.4, in the same way
abbrev pub write_order : List Fault
write_order =
    write_fault empty_state 0 0 14
    ∷ write_fault rounded 0 0 3
    ∷ write_fault rounded 4 0 3
    ∷ write_fault rounded 1 0 7
    ∷ write_fault rounded 2 0 16
    ∷ []
