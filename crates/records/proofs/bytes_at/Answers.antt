-- `bytes_at` makes an array of what stands at each place from i on; where a place is too far to be counted, nothing stands. Assumes nothing.
use Prim.Native.Nat.{◌+◌}
use lib.ListN.{get_or}
use Rattle.std.proofs.Common.{rules, tests}
use Rattle.records.proofs.NumberLaws.{array-made}
use Rattle.records.proofs.bytes_at.Goals as goal

pub returns : goal.returns
returns g c = array-made _ _ (λ k. get_or c.args.s.now (c.args.i + k) 0) _ (λ k y q w. (search (rules, tests), search (rules, tests))) g.row.N c.from_fn.ensures.items
