-- `bytes` writes two digits for each byte. Assumes nothing.
use native.Mathlib.Omega.{arith}
use Rattle.text.proofs.BytesLaws.{starts, goes_on, ends}
use Rattle.text.proofs.HoldsLaws.{bytes-hold}
use Rattle.text.proofs.Text.bytes.Goals as goal

pub loop-byte-init : goal.loop-byte-init
loop-byte-init c = starts c.args.bytes.now c.args.self.now c.requires

pub loop-byte-preserved : goal.loop-byte-preserved
loop-byte-preserved c =
    goes_on c.args.bytes.now c.args.self.now c.requires _ _ c.loop-byte.invariant _ c.loop-byte-test.true c.pair.ensures

pub returns : goal.returns
returns c =
    record { wrote = ends c.args.bytes.now c.args.self.now c.requires _ _ c.loop-byte.invariant (omega arith); bytes_hold = bytes-hold }
