-- No clause: what writing a text from a place on comes to: it stands there whole, every other byte is what it was, and the end is the place
-- behind it. Assumes nothing.
use Rattle.std.specs.Prelude.{◌≡◌, List, ℕ, ◌+◌, ◌≤◌, length}
use Rattle.buffers.specs.Splice.{splice}

pub record Wrote (at : ℕ) (text old new : List ℕ) (end : ℕ) : Type 0 where
  pub bytes : new ≡ splice at text old
  pub ends : end ≡ at + length text
  pub inside : end ≤ length new
