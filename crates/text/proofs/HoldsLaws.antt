-- The definitions of text are held: see specs/Holds. Assumes nothing.
use mathlib.Core.Path.{refl}
use Rattle.conditions.specs.Choose.{choose}
use lib.Ieee.{of_bits, to_bits}
use Rattle.text.specs.Digits.{digits_in, decimal_of, signed_text, hex_digit, hex_of}
use Rattle.text.specs.Parts.{count_text, bytes_to, bytes_text, float_text, refusal_text}
use Rattle.text.specs.Holds.{DecimalHolds, SignedHolds, HexHolds, BytesHold, FloatHolds, RefusalHolds}
use Rattle.text.proofs.DigitLaws.{hex-length}
use Rattle.text.proofs.ReadLaws.{decimal-is, decimal-only, signed_reads, hex-reads}

pub decimal-holds : DecimalHolds
unfolding decimal_of digits_in choose
decimal-holds = record { is = decimal-is; only = decimal-only; nought = refl; most = refl }

pub signed-holds : SignedHolds
unfolding signed_text decimal_of digits_in choose
signed-holds = record { reads = signed_reads; minus = refl }

pub hex-holds : HexHolds
unfolding hex_of hex_digit choose
hex-holds = record { reads = hex-reads; many = hex-length; digits = refl }

pub bytes-hold : BytesHold
unfolding bytes_text bytes_to hex_of hex_digit choose
bytes-hold = record { digits = refl }

pub float-holds : FloatHolds
unfolding float_text hex_of hex_digit choose of_bits to_bits
float-holds = record { plain = refl; not-one = refl }

pub hex_and_floats : HexHolds × FloatHolds
hex_and_floats = (hex-holds, float-holds)

pub refusal-holds : RefusalHolds
unfolding refusal_text count_text decimal_of digits_in choose
refusal-holds = record { line = refl }
