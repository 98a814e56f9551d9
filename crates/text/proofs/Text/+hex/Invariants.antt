-- What falls with each call of `hex` by itself: the digits that are left. Assumes nothing.
use Rattle.text.proofs.Text.+hex.Given as goal

abbrev pub decreases-hex : goal.decreases-hex
decreases-hex l = l.count
