-- Clauses 17.1, 17.2: what a state's words hold after a load and after a fix. Assumes nothing.
use Rattle.std.specs.Prelude.{◌≡◌, Bool, true, List, ℕ, ℤ, pos, replicate}
use Rattle.refusals.specs.Outcome.{good, refused}
use Rattle.buffers.specs.Splice.{over}
use Rattle.units.specs.declared.Fix.{Fix}
use Rattle.manager.specs.declared.State.{State}
use Rattle.manager.specs.State.{empty_state}
use Rattle.manager.specs.Step.{step_of}
use Rattle.c_state.specs.Stored.{taken_of, Storable}
use Rattle.wpl.specs.Load.{load_of}

-- words that hold a state: they are taken for it, and words can keep it
pub record Hold (ws : List ℤ) (s : State) : Type 0 where
  pub taken : taken_of ws ≡ good s
  pub kept : Storable s

-- of a load whose slices fit
pub record LoadHolds (fits : Bool) (reader : ℕ) (file : List ℕ) (before after : List ℤ) : Type 0 where
  pub loaded : fits ≡ true → (s : State) → load_of reader file ≡ good s → Hold after s
  -- refused, all words are 0
  pub empty : fits ≡ true → (number place : ℕ) → load_of reader file ≡ refused number place
      → (after ≡ over (replicate 263 (pos 0)) before) × Hold after empty_state

-- 15.3 and 15.4: what a refusal leaves is what was there
abbrev pub Untouched : {A : Type 0} → ℕ → List A → List A → Type 0
Untouched result before after = (result ≡ 0 → ⊥) → after ≡ before

-- of a fix with a result
pub record FixHolds (fits : Bool) (serial : ℕ) (fix : Fix) (before after : List ℤ) (result : ℕ) : Type 0 where
  pub next : fits ≡ true → (s : State) → taken_of before ≡ good s → Hold after (step_of s serial fix).state
  pub untouched : Untouched result before after
