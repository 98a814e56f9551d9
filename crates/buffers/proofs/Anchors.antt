-- The examples of buffers, computed from the definitions. The checker takes the files by name, this one before all laws, so that a wrong
-- definition is refused by its example. Assumes nothing.
use mathlib.Core.Path.{refl}
use Rattle.buffers.specs.Splice.{zeroed}
use Rattle.buffers.specs.Facts.{BufferFacts}

pub buffer_facts : BufferFacts
unfolding zeroed
buffer_facts = record { front = refl; inside = refl; zeros = refl }
