-- `fits` compares two lengths. Assumes nothing.
use mathlib.Core.Path.{sym}
use borrow.Author.Tests.{le-leb, lt-leb}
use Rattle.conditions.proofs.Bools.{both-on, both-off}
use Rattle.desk.specs.Calls.{note_fits}
use Rattle.desk.proofs.fits.Goals as goal

pub returns-then-buffer-ge-MOST_NOTE : goal.returns-then-buffer-ge-MOST_NOTE
unfolding note_fits
returns-then-buffer-ge-MOST_NOTE c = sym (both-on _ _ (le-leb _ _ c.if-buffer-ge-MOST_NOTE.true))

pub returns : goal.returns
unfolding note_fits
returns c = sym (both-off _ _ (lt-leb _ _ c.if-buffer-ge-MOST_NOTE.false))
