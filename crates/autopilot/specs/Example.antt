-- Holds clauses 17.1 to 17.3, 17.5, 17.7, 17.18, 17.19: a file of lines in an autopilot's words: what a load leaves in them and what a list of calls replies,
-- in numbers; and what two buffers that are alike give for it. A definition that is changed together with the code fails here. Assumes nothing.
use Rattle.std.specs.Prelude.{◌≡◌, true, false, List, [], ◌∷◌, ◌++◌, ℕ, ℤ, pos, negsuc, replicate, Float}
use Rattle.refusals.specs.Outcome.{good, refused}
use Rattle.units.specs.declared.Fix.{Fix}
use Rattle.units.specs.CheckedExamples.{fix_of}
use Rattle.manager.specs.declared.State.{State}
use Rattle.manager.specs.State.{valid_of}
use Rattle.c_answer.specs.Example.{float}
use Rattle.c_state.specs.Stored.{taken_of}
use Rattle.wpl.specs.declared.Loaded.{Loaded}
use Rattle.wpl.specs.Load.{loaded_of}
use Rattle.autopilot.specs.Calls.{load_fits, fix_fits, write_fits, load_result, load_state, load_answer, write_file, write_answer}
use Rattle.autopilot.specs.Held.{Hold, LoadHolds, FixHolds}
use Rattle.autopilot.specs.CallList.{Call, fix, write, Reply, fixed, written, replies, words_in_the_end}
use Rattle.autopilot.specs.TwoBuffers.{loaded_by, AreBytes, AlikeBuffers}
use Rattle.autopilot.specs.Distances.{distances_fit, distance_fits, distances_in, distance_in, distances_result, distances_table, distances_answer, distance_result, distance_answer, TablesStay}

-- the header, serial 7, and three points
abbrev pub example : List ℕ
example =
    (0x57 ∷ 0x50 ∷ 0x4C ∷ 0 ∷ 1 ∷ 0 ∷ 0 ∷ 0 ∷ 7 ∷ 0 ∷ 0x2A ∷ [])
    ++ ((1 ∷ 12 ∷ 0 ∷ 0 ∷ 0 ∷ 0 ∷ 0 ∷ 0 ∷ 0 ∷ 0 ∷ 0xFF ∷ 0xFF ∷ 0xFC ∷ 0x18 ∷ [])
    ++ ((1 ∷ 12 ∷ 0 ∷ 0 ∷ 3 ∷ 0xE8 ∷ 0 ∷ 0 ∷ 0 ∷ 0 ∷ 0xFF ∷ 0xFF ∷ 0xFC ∷ 0x18 ∷ [])
    ++ (1 ∷ 12 ∷ 0 ∷ 0 ∷ 3 ∷ 0xE8 ∷ 0 ∷ 0 ∷ 7 ∷ 0xD0 ∷ 0xFF ∷ 0xFF ∷ 0xFC ∷ 0x18 ∷ [])))

-- a buffer that held something else
abbrev pub ones : List ℤ
ones = replicate 263 (pos 1)

-- the state's words with an index and finished: serial 7, lines, no radius, three points, phase 1; 64 norths, easts, downs and courses
abbrev pub words_at : ℤ → ℤ → List ℤ
words_at index finished =
    (pos 7 ∷ pos 0 ∷ pos 0 ∷ pos 3 ∷ index ∷ pos 1 ∷ finished ∷ [])
    ++ ((pos 0 ∷ pos 1000 ∷ pos 1000 ∷ replicate 61 (pos 0))
    ++ ((pos 0 ∷ pos 0 ∷ pos 2000 ∷ replicate 61 (pos 0)) ++ ((negsuc 999 ∷ negsuc 999 ∷ negsuc 999 ∷ replicate 61 (pos 0)) ++ replicate 64 (pos 0))))

-- at point 2, (100, 0, −100) in metres
abbrev pub at_point_two : Fix
at_point_two = fix_of 0x42c8_0000 0 0xc2c8_0000

-- there; there by another serial; a write at version 1, with room for 53 bytes and for 52; at point 3, (100, 200, −100)
abbrev pub calls : List Call
calls =
    fix 7 at_point_two
    ∷ fix 8 at_point_two
    ∷ write 1 53
    ∷ write 1 52
    ∷ fix 7 (fix_of 0x42c8_0000 0x4348_0000 0xc2c8_0000)
    ∷ []

abbrev pub no_command : List Float
no_command = replicate 6 (float 0)

-- the leg to point 2, and the index moves on; 15; the file; 16; the leg to point 3, heading east, and the flight is finished
abbrev pub wanted : List Reply
wanted =
    fixed 0 (0 ∷ 0 ∷ 1 ∷ 0 ∷ 0 ∷ 3 ∷ 1 ∷ 0 ∷ []) (float 0 ∷ float 0 ∷ float 0xc2c8_0000 ∷ float 0x42c8_0000 ∷ float 0 ∷ float 0 ∷ [])
    ∷ fixed 15 (15 ∷ 0 ∷ 0 ∷ 0 ∷ 0 ∷ 3 ∷ 1 ∷ 0 ∷ []) no_command
    ∷ written (good example)
    ∷ written (refused 16 0)
    ∷ fixed 0 (0 ∷ 0 ∷ 1 ∷ 0 ∷ 1024 ∷ 3 ∷ 1 ∷ 1 ∷ []) (float 0x42c8_0000 ∷ float 0 ∷ float 0xc2c8_0000 ∷ float 0 ∷ float 0x4348_0000 ∷ float 0 ∷ [])
    ∷ []

-- ---- words that hold no state, and those of the empty state: 14, and the words of index, phase and finished as they are
abbrev pub asked : List Call
asked = fix 7 (fix_of 0 0 0) ∷ write 1 53 ∷ []

abbrev pub no_state_replies : ℕ → List Reply
no_state_replies word = fixed 14 (14 ∷ 0 ∷ 0 ∷ 0 ∷ 0 ∷ word ∷ word ∷ word ∷ []) no_command ∷ written (refused 14 0) ∷ []

-- ---- slices of these lengths
abbrev pub states : ℕ → List ℤ
states n = replicate n (pos 0)

abbrev pub words : ℕ → List ℕ
words n = replicate n 1

abbrev pub numbers : ℕ → List Float
numbers n = replicate n (float 0)

pub record CallExample : Type 0 where
  pub loaded : loaded_by 3 example ones ≡ words_at (pos 2) (pos 0)
  -- readers one and two are older ones, and this file and these buffers are among those that the law on two buffers speaks of
  pub in_bytes : AreBytes example
  pub one : AlikeBuffers → loaded_by 1 example ones ≡ words_at (pos 2) (pos 0)
  pub two : AlikeBuffers → loaded_by 2 example ones ≡ words_at (pos 2) (pos 0)
  pub replied : replies (words_at (pos 2) (pos 0)) calls ≡ wanted
  pub ended : words_in_the_end (words_at (pos 2) (pos 0)) calls ≡ words_at (pos 3) (pos 1)
  pub none : replies (replicate 263 (negsuc 0)) asked ≡ no_state_replies 4294967295
  pub left : words_in_the_end (replicate 263 (negsuc 0)) asked ≡ replicate 263 (negsuc 0)
  pub empty : replies (states 263) asked ≡ no_state_replies 0

-- what is no load and no fix: a load that leaves other words, a refused one that leaves them as they were, a fix at the point that is flown to which
-- does not move on, and a refused one that does
pub record Separates : Type 0 where
  pub unloaded : LoadHolds true 3 example ones (states 263) → ⊥
  pub uncleared : LoadHolds true 4 example ones ones → ⊥
  pub unmoved : FixHolds true 7 at_point_two (words_at (pos 2) (pos 0)) (words_at (pos 2) (pos 0)) 0 → ⊥
  pub moved : FixHolds true 8 at_point_two (words_at (pos 2) (pos 0)) (words_at (pos 3) (pos 0)) 15 → ⊥

-- which slices are long enough, and what a refusal and a success leave in longer ones
pub record Lengths : Type 0 where
  pub load : (load_fits (states 263) (words 2) ≡ true) × ((load_fits (states 262) (words 2) ≡ false) × (load_fits (states 263) (words 1) ≡ false))
  pub fix : (fix_fits (states 263) (words 8) (numbers 6) ≡ true)
      × ((fix_fits (states 262) (words 8) (numbers 6) ≡ false)
      × ((fix_fits (states 263) (words 7) (numbers 6) ≡ false) × (fix_fits (states 263) (words 8) (numbers 5) ≡ false)))
  pub write : (write_fits (states 263) (words 3) ≡ true) × ((write_fits (states 262) (words 3) ≡ false) × (write_fits (states 263) (words 2) ≡ false))
  -- 100, and nothing is written
  pub misfit : (x : Loaded) → (load_result false x ≡ 100) × ((load_state false x (states 3) ≡ states 3) × (load_answer false x (words 3) ≡ words 3))
  -- refusal and place; refusal, place and length; the file's bytes
  pub place : load_answer true (loaded_of (refused 6 11)) (words 3) ≡ 6 ∷ 11 ∷ 1 ∷ []
  pub length : write_answer true (good example) (words 4) ≡ 0 ∷ 0 ∷ 53 ∷ 1 ∷ []
  pub unwritten : write_answer true (refused 7 0) (words 4) ≡ 7 ∷ 0 ∷ 0 ∷ 1 ∷ []
  pub bytes : write_file true (good (65 ∷ 66 ∷ [])) (words 3) ≡ 65 ∷ 66 ∷ 1 ∷ []

-- ---- the distance to go: 1000 and 2000, by the state's words and at both indices
pub record DistanceExample : Type 0 where
  pub told : distances_in (taken_of (words_at (pos 2) (pos 0))) 4 ≡ good (3000 ∷ 2000 ∷ [])
  pub short : distances_in (taken_of (words_at (pos 2) (pos 0))) 3 ≡ refused 16 0
  pub first : distance_in (taken_of (words_at (pos 2) (pos 0))) ≡ good 3000
  pub last : distance_in (taken_of (words_at (pos 3) (pos 1))) ≡ good 2000
  pub none : (distances_in (taken_of (replicate 263 (negsuc 0))) 4 ≡ refused 14 0) × (distance_in (taken_of (replicate 263 (negsuc 0))) ≡ refused 14 0)
  -- after the calls above the words, at the last index and finished, have the same table: by the law
  pub stays : TablesStay → (s : State) → Hold (words_at (pos 2) (pos 0)) s → valid_of s ≡ true → distances_in (taken_of (words_at (pos 3) (pos 1))) 4 ≡ good (3000 ∷ 2000 ∷ [])
  -- which slices are long enough
  pub fit : (distances_fit (states 263) (words 2) ≡ true) × ((distances_fit (states 262) (words 2) ≡ false) × (distances_fit (states 263) (words 1) ≡ false))
  pub fits : (distance_fits (states 263) (words 3) ≡ true) × ((distance_fits (states 262) (words 3) ≡ false) × (distance_fits (states 263) (words 2) ≡ false))
  -- what is left in longer ones: entries 2 and 3; refusal and place; refusal, place and decimetres
  pub entries : distances_table true (good (3000 ∷ 2000 ∷ [])) (words 5) ≡ 1 ∷ 1 ∷ 3000 ∷ 2000 ∷ 1 ∷ []
  pub answered : distances_answer true (refused 16 0) (words 3) ≡ 16 ∷ 0 ∷ 1 ∷ []
  pub measured : distance_answer true (good 3000) (words 4) ≡ 0 ∷ 0 ∷ 3000 ∷ 1 ∷ []
  pub refusal : distance_answer true (refused 14 0) (words 4) ≡ 14 ∷ 0 ∷ 0 ∷ 1 ∷ []
  pub misfit : (distances_result false (good []) ≡ 100) × (distance_result false (good 1) ≡ 100)
