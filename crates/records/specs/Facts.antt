-- Holds clauses 3.1, 3.3, 3.4, 4.1 to 4.9, 4.11, 7.6, 7.7, 15.8, 15.12: what the definitions of this crate come to, in numbers: the table, laws
-- between readers, and one list of examples that the prover computes. A definition that is changed together with the code that it describes is
-- refused here. Assumes nothing.
use Rattle.std.specs.Prelude.{◌≡◌, ◌↔◌, Bool, true, false, List, [], ◌∷◌, ◌++◌, ℕ, ◌≤◌, pos, negsuc, replicate}
use Rattle.conditions.specs.All.{All}
use Rattle.refusals.specs.Numbers.{too_new}
use Rattle.refusals.specs.Outcome.{Outcome, good, refused}
use Rattle.plane.specs.declared.Point.{Point}
use Rattle.records.specs.Walk.{Walked, end, short, more, walk, fills, flat}
use Rattle.records.specs.Versions.{newest}
use Rattle.records.specs.Kinds.{row, table, Parts, no_parts, holds_newer, skipped, sift}
use Rattle.records.specs.Gather.{header_length, gather, gather_from}
use Rattle.records.specs.Held.{counted}

-- ---- what an example says, of a reader's version, a file's and the bytes of its records
pub data RecordExample : Type 0 where
  -- a radius, points, courses, and whether a course may follow are gathered
  gives : ℕ → ℕ → List ℕ → ℕ → List Point → List ℕ → Bool → RecordExample
  -- a number at an offset of the file
  refuses : ℕ → ℕ → List ℕ → ℕ → ℕ → RecordExample
  -- whether they hold a radius or a course that a reader lacks
  lacked : ℕ → List ℕ → Bool → RecordExample
  -- the records that they are
  walks : List ℕ → Walked → RecordExample
  -- whether they fill the area
  filled : List ℕ → Bool → RecordExample
  -- the bytes that are left without the records that reader three skips
  sifts : List ℕ → List ℕ → RecordExample
  -- whether reader three skips a kind
  skips : ℕ → Bool → RecordExample
  -- so many points or courses, up to one more than a plan holds
  counts : ℕ → ℕ → RecordExample

-- the records stand behind a header
abbrev pub gathered : ℕ → ℕ → List ℕ → Outcome Parts
gathered r v area = gather_from r v (replicate 11 0 ++ area) header_length no_parts

abbrev pub RecordHolds : RecordExample → Type 0
RecordHolds (gives r v area R ps cs follows) = gathered r v area ≡ good (record { radius = R; points = ps; courses = cs; at_point = follows })
RecordHolds (refuses r v area number place) = gathered r v area ≡ refused number place
RecordHolds (lacked r area t) = holds_newer r (walk area) ≡ t
RecordHolds (walks area w) = walk area ≡ w
RecordHolds (filled area t) = fills (walk area) ≡ t
RecordHolds (sifts area rest) = flat (sift (walk area)) ≡ rest
RecordHolds (skips k t) = skipped k ≡ t
RecordHolds (counts n m) = counted n ≡ m

-- ---- records of examples: a point at (1000, 0, −1000); negsuc n is −(n + 1)
abbrev pub second_point : Point
second_point = record { north = pos 1000; east = pos 0; down = negsuc 999 }

abbrev pub a_point : List ℕ
a_point = 0x01 ∷ 0x0C ∷ 0x00 ∷ 0x00 ∷ 0x03 ∷ 0xE8 ∷ 0x00 ∷ 0x00 ∷ 0x00 ∷ 0x00 ∷ 0xFF ∷ 0xFF ∷ 0xFC ∷ 0x18 ∷ []

-- a kind with a value of two bytes, the higher one first
abbrev pub valued : ℕ → ℕ → ℕ → List ℕ
valued k high low = k ∷ 2 ∷ high ∷ low ∷ []

abbrev pub radius50 : List ℕ
radius50 = valued 2 0 50

abbrev pub course0 : List ℕ
course0 = valued 3 0 0

-- a kind with so many bytes of 0
abbrev pub blank : ℕ → ℕ → List ℕ
blank k n = k ∷ n ∷ replicate n 0

abbrev pub record_examples : List RecordExample
record_examples =
    gives 1 1 a_point 0 (second_point ∷ []) [] true
    ∷ gives 3 3 (radius50 ++ a_point ++ valued 3 0x0F 0xFF) 50 (second_point ∷ []) (4095 ∷ []) false
    -- 7.6: cut short, at its offset
    ∷ refuses 1 1 (1 ∷ []) 6 11
    ∷ refuses 1 1 (1 ∷ 12 ∷ 0 ∷ []) 6 11
    ∷ refuses 3 4 (a_point ++ 200 ∷ 2 ∷ 0 ∷ []) 6 25
    -- 7.6 and 7.7: a kind that the reader does not know, in a file that is not above it, and in one that is; and 4.7
    ∷ refuses 3 3 (blank 200 1) 6 11
    ∷ refuses 3 3 (blank 7 0) 6 11
    ∷ refuses 3 4 (blank 7 0) 7 11
    ∷ refuses 3 4 (a_point ++ blank 127 0) 7 25
    ∷ gives 3 4 (blank 200 1) 0 [] [] false
    -- 4.6: the kinds that each reader knows
    ∷ refuses 1 2 radius50 7 11
    ∷ gives 2 2 radius50 50 [] [] false
    ∷ refuses 2 3 (a_point ++ course0) 7 25
    ∷ gives 1 2 (blank 128 0) 0 [] [] false
    ∷ gives 2 3 (valued 129 0 0) 0 [] [] false
    -- 7.6: a kind that the file's own version lacks
    ∷ refuses 3 1 radius50 6 11
    ∷ refuses 3 2 (a_point ++ course0) 6 25
    ∷ refuses 3 1 (blank 128 1) 6 11
    ∷ refuses 3 2 (valued 129 0 1) 6 11
    -- lengths
    ∷ refuses 3 3 (blank 1 11) 6 11
    ∷ refuses 3 3 (blank 1 13) 6 11
    ∷ refuses 3 3 (2 ∷ 1 ∷ 50 ∷ []) 6 11
    ∷ refuses 3 3 (2 ∷ 3 ∷ 0 ∷ 50 ∷ 0 ∷ []) 6 11
    ∷ refuses 3 3 (a_point ++ blank 3 1) 6 25
    ∷ refuses 3 3 (a_point ++ blank 3 3) 6 25
    ∷ refuses 3 3 (129 ∷ 1 ∷ 1 ∷ []) 6 11
    ∷ refuses 3 3 (129 ∷ 3 ∷ 0 ∷ 1 ∷ 0 ∷ []) 6 11
    ∷ refuses 3 3 (blank 128 0) 6 11
    ∷ gives 3 3 (blank 128 1) 0 [] [] false
    ∷ gives 3 3 (blank 128 32) 0 [] [] false
    ∷ refuses 3 3 (blank 128 33) 6 11
    -- values: radius 49, 10,000 and 10,001, course 4096, speed 0, 1, 1000 and 1001, a north of 500,001
    ∷ refuses 3 3 (valued 2 0 49) 6 11
    ∷ gives 3 3 (valued 2 0x27 0x10) 10000 [] [] false
    ∷ refuses 3 3 (valued 2 0x27 0x11) 6 11
    ∷ refuses 3 3 (a_point ++ valued 3 0x10 0x00) 6 25
    ∷ refuses 3 3 (valued 129 0 0) 6 11
    ∷ gives 3 3 (valued 129 0 1) 0 [] [] false
    ∷ gives 3 3 (valued 129 0x03 0xE8) 0 [] [] false
    ∷ refuses 3 3 (valued 129 0x03 0xE9) 6 11
    ∷ refuses 1 1 (1 ∷ 12 ∷ 0x00 ∷ 0x07 ∷ 0xA1 ∷ 0x21 ∷ replicate 8 0) 6 11
    -- 4.8: a second radius, and one behind a point
    ∷ refuses 3 3 (radius50 ++ radius50) 6 15
    ∷ refuses 3 3 (a_point ++ radius50) 6 25
    -- 4.9: a second course, one behind a radius, and one with a note between
    ∷ refuses 3 3 (radius50 ++ course0) 6 15
    ∷ refuses 3 3 (a_point ++ course0 ++ course0) 6 29
    ∷ refuses 3 3 (a_point ++ course0 ++ blank 128 1 ++ course0) 6 32
    ∷ gives 3 3 (a_point ++ blank 128 1 ++ course0) 0 (second_point ∷ []) (0 ∷ []) false
    ∷ gives 3 4 (a_point ++ blank 200 1 ++ course0) 0 (second_point ∷ []) (0 ∷ []) false
    -- 6.1: the first record that is wrong
    ∷ refuses 3 4 (blank 7 0 ++ valued 2 0 49) 7 11
    ∷ refuses 3 4 (valued 2 0 49 ++ blank 7 0) 6 11
    -- 15.8: what each version lacks
    ∷ lacked 1 (a_point ++ radius50) true
    ∷ lacked 2 (a_point ++ radius50) false
    ∷ lacked 1 (a_point ++ course0) true
    ∷ lacked 2 (a_point ++ course0) true
    ∷ lacked 3 (radius50 ++ a_point ++ course0) false
    ∷ lacked 1 (a_point ++ blank 128 1 ++ valued 129 0 1) false
    -- 3.4: records by their own lengths, up to the end or not
    ∷ walks (blank 7 0 ++ valued 200 9 8) (more 7 [] (more 200 (9 ∷ 8 ∷ []) end))
    ∷ walks (blank 7 0 ++ 200 ∷ 2 ∷ 9 ∷ []) (more 7 [] short)
    ∷ filled [] true
    ∷ filled (a_point ++ course0) true
    ∷ filled (a_point ++ 3 ∷ 2 ∷ 0 ∷ []) false
    ∷ filled (a_point ++ 3 ∷ []) false
    -- 15.12: the records that are cut out
    ∷ sifts (blank 200 1 ++ blank 128 1 ++ a_point ++ blank 130 0 ++ blank 7 0) (blank 128 1 ++ a_point ++ blank 7 0)
    ∷ skips 127 false
    ∷ skips 128 false
    ∷ skips 129 false
    ∷ skips 130 true
    ∷ skips 255 true
    -- points over 64 are seen by 8
    ∷ counts 64 64
    ∷ counts 65 65
    ∷ counts 99 65
    ∷ []

-- reader r beside reader three on records that three gathers
pub record Beside (r v : ℕ) (w : Walked) (at : ℕ) (a b : Parts) : Type 0 where
  pub refuses : holds_newer r w ≡ true ↔ (p : ℕ) × (gather r v at a w ≡ refused too_new p)
  pub takes : holds_newer r w ≡ false → gather r v at a w ≡ good b

pub record RecordFacts : Type 0 where
  -- the table of section 4: a kind, since which version, the least and the greatest length of its body
  pub kinds : table ≡ row 1 1 12 12 ∷ row 2 2 2 2 ∷ row 3 3 2 2 ∷ row 128 2 1 32 ∷ row 129 3 2 2 ∷ []
  pub header : header_length ≡ 11
  pub versions : newest ≡ 3
  pub each : All RecordHolds record_examples
  -- records are their bytes
  pub walked : (w : Walked) → fills w ≡ true → walk (flat w) ≡ w
  pub written : (s : List ℕ) → fills (walk s) ≡ true → flat (walk s) ≡ s
  -- readers one and two against three; readers that are no older than the file, places included
  pub older : (r v : ℕ) → 1 ≤ r → r ≤ 3 → (w : Walked) (at : ℕ) (a b : Parts) → gather 3 v at a w ≡ good b → Beside r v w at a b
  pub agree : (r q v : ℕ) → v ≤ r → v ≤ q → (w : Walked) (at : ℕ) (a : Parts) → gather r v at a w ≡ gather q v at a w
