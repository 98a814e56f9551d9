-- Clause 1.9: both of two tests pass. It stays shut where it is cited, so that the tests of a chain can be taken one by one. Assumes nothing.
use Rattle.std.specs.Prelude.{Bool, true, false}

unfoldable pub both : Bool → Bool → Bool
both true b = b
both false b = false
