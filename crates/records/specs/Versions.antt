-- Clauses 5.4, 7.3: the newest version. Readers and writers have versions 1 up to it; a file may have a higher one. Assumes nothing.
use Rattle.std.specs.Prelude.{ℕ}

abbrev pub newest : ℕ
newest = 3
