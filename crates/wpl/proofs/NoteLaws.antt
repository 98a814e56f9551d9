-- The notes of a file by whether it loads, and the bytes of one that was found or none. Assumes nothing.
use mathlib.Core.Path.{◌≡◌, refl, sym, ap, ◌∙◌}
use mathlib.Core.List.{List, []}
use Prim.Native.Nat.{ℕ}
use lib.Dec.{eqb}
use borrow.Author.Tests.{eq-eqb, ne_eqb}
use denote.Bor.{Bor}
use Rattle.std.proofs.Common.{Option, Some, None, unwrap_or}
use Rattle.std.specs.Option.{option_copied}
use Rattle.conditions.proofs.ChooseLaws.{choose-true, choose-false}
use Rattle.refusals.specs.Outcome.{is_good}
use Rattle.records.specs.Versions.{newest}
use Rattle.wpl.specs.Load.{records_of, load_of, loaded_of}
use Rattle.wpl.specs.Note.{note_in, note_of}
use Rattle.wpl.proofs.LoadLaws.{loads-when}

-- ---- a file that the newest reader refuses has no notes
module _ (f : List ℕ) (number : ℕ) (e : number ≡ (loaded_of (load_of newest f)).refusal) where
  pub newest-loads : is_good (load_of newest f) ≡ eqb number 0
  newest-loads = loads-when newest f (loaded_of (load_of newest f)) refl ∙ ap (λ (m : ℕ). eqb m 0) (sym e)

module _ (f : List ℕ) (n number : ℕ) (e : number ≡ (loaded_of (load_of newest f)).refusal) where
  pub note-refused : (number ≡ 0 → ⊥) → note_of f n ≡ []
  unfolding note_of
  note-refused h = choose-false _ _ _ (newest-loads f number e ∙ ne_eqb _ _ h)

  pub note-loaded : number ≡ 0 → note_of f n ≡ note_in n (records_of f)
  unfolding note_of
  note-loaded h = choose-true _ _ _ (newest-loads f number e ∙ eq-eqb _ _ h)

-- ---- the part that was found, or no bytes
pub bytes_or : {A : Type 0} (o : Option (Bor A)) (d : Bor A) → (unwrap_or o d).now ≡ unwrap_or (option_copied o) d.now
bytes_or (Some x) d = refl
bytes_or None d = refl
