-- `Sides::outer_length` gives the lesser length of RSR and LSL, whichever is tried first. Assumes nothing.
use Rattle.std.proofs.Common.{None}
use mathlib.Core.Path.{refl}
use Rattle.dubins.proofs.OrderLaws.{left-first}
use Rattle.dubins.proofs.Sides.outer_length.Goals as goal

pub returns-then-left_nearer : goal.returns-then-left_nearer
returns-then-left_nearer c = left-first c.args.self.ends _ (c.better_length.ensures _ (c.better_length-lsl.ensures None refl))

pub returns-else-left_nearer : goal.returns-else-left_nearer
returns-else-left_nearer c = c.better_length-else-left_nearer.ensures _ (c.better_length-rsr.ensures None refl)
