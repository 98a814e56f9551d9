-- What the loop of `bytes` keeps: two digits are written for each byte that was reached. Assumes nothing.
use Rattle.text.proofs.BytesLaws.{Spelling}
use Rattle.text.proofs.Text.bytes.Given as goal

abbrev pub invariant-loop-byte : goal.invariant-loop-byte
invariant-loop-byte l = Spelling l.bytes l.initial.self l.self l.byte-index
