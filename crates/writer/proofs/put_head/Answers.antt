-- `put_head` writes two bytes. Assumes nothing.
use native.Mathlib.Omega.{arith}
use lib.ListN.{length-set}
use Rattle.buffers.proofs.SpliceLaws.{stored}
use Rattle.writer.proofs.put_head.Goals as goal

pub bounds-file-at-2 : goal.bounds-file-at-2
bounds-file-at-2 c = simp length-set (omega arith)

pub returns : goal.returns
returns c = let a = c.args in stored a.at a.kind a.size a.file.now c.requires
