-- No clause: what writing a text into a `Text` comes to: the text stands from its place on, every other byte is what it was, the place is the one
-- behind it, and the buffer is the same one. Assumes nothing.
use Rattle.std.specs.Prelude.{◌≡◌, List, ℕ, ◌+◌, ◌≤◌, length}
use Rattle.text.specs.Written.{Wrote}
use Rattle.text.specs.declared.Text.{Text}

-- so many bytes fit
abbrev pub Fits : ℕ → Text → Type 0
Fits n t = t.at + n ≤ length t.buffer.now

-- no more than so many bytes were written
abbrev pub AtMost : ℕ → Text → Text → Type 0
AtMost n old new = new.at ≤ old.at + n

pub record Added (text : List ℕ) (old new : Text) : Type 0 where
  pub wrote : Wrote old.at text old.buffer.now new.buffer.now new.at
  pub kept : length new.buffer.now ≡ length old.buffer.now
  pub same : new.buffer.ghost_name ≡ old.buffer.ghost_name
