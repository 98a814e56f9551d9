-- What words that hold a state hold, test by test. Assumes nothing.
use mathlib.Core.Path.{◌≡◌}
use mathlib.Core.Bool.{true}
use mathlib.Core.List.{List}
use Prim.Native.Nat.{ℕ, zero, suc, ◌≤◌, ◌<◌}
use native.Mathlib.Omega.{arith}
use lib.IntN.{ℤ}
use mir.Syntax.{w8, w16, w32}
use mir.Val.{Fits, SFits}
use borrow.Author.Tests.{leb-true, ltb-true}
use Rattle.conditions.proofs.Bools.{both_first, both-second}
use Rattle.plan.specs.Places.{number_at}
use Rattle.c_state.specs.Stored.{serial_place, mode_place, radius_place, index_place, phase_place, finished_place, norths_place, word_at, holds_state, AreWords}

-- ---- the words of the plan's head, and of the progress
pub four-words : (ws : List ℤ) → SFits w32 (number_at ws 0) → SFits w32 (number_at ws 1) → SFits w32 (number_at ws 2) → SFits w32 (number_at ws 3)
    → AreWords serial_place index_place ws
four-words ws a b c d zero _ h = a
four-words ws a b c d (suc zero) _ h = b
four-words ws a b c d (suc (suc zero)) _ h = c
four-words ws a b c d (suc (suc (suc zero))) _ h = d
four-words ws a b c d (suc (suc (suc (suc i)))) _ h = absurd (omega arith)

pub three-words : (ws : List ℤ) → SFits w32 (number_at ws 4) → SFits w32 (number_at ws 5) → SFits w32 (number_at ws 6) → AreWords index_place norths_place ws
three-words ws a b c (suc (suc (suc (suc zero)))) l h = a
three-words ws a b c (suc (suc (suc (suc (suc zero))))) l h = b
three-words ws a b c (suc (suc (suc (suc (suc (suc zero)))))) l h = c
three-words ws a b c (suc (suc (suc (suc (suc (suc (suc i))))))) l h = absurd (omega arith)
three-words ws a b c (suc (suc (suc zero))) l h = absurd (omega arith)
three-words ws a b c (suc (suc zero)) l h = absurd (omega arith)
three-words ws a b c (suc zero) l h = absurd (omega arith)
three-words ws a b c zero l h = absurd (omega arith)

pub record Holds (ws : List ℤ) : Type 0 where
  pub mode : word_at ws mode_place ≤ 2
  pub radius : word_at ws radius_place < 65536
  pub phase : word_at ws phase_place < 256
  pub finished : word_at ws finished_place ≤ 1

module _ (ws : List ℤ) (h : holds_state ws ≡ true) where
  pub holds-means : Holds ws
  unfolding holds_state
  holds-means =
      let radius = both-second _ _ h in
      let phase = both-second _ _ radius in
      record {
        mode = leb-true (word_at ws mode_place) 2 (both_first _ _ h);
        radius = ltb-true (word_at ws radius_place) 65536 (both_first _ _ radius);
        phase = ltb-true (word_at ws phase_place) 256 (both_first _ _ phase);
        finished = leb-true (word_at ws finished_place) 1 (both-second _ _ phase);
      }

  -- so that what is read of them fits its type
  pub radius-fits : {n : ℕ} → n ≡ word_at ws radius_place → Fits w16 n
  radius-fits e = record { fits = omega (arith, holds-means.radius) }

  pub phase-fits : {n : ℕ} → n ≡ word_at ws phase_place → Fits w8 n
  phase-fits e = record { fits = omega (arith, holds-means.phase) }
