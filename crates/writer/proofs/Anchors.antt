-- The examples of files, computed from the definitions. The checker takes the files by name, this one before all laws, so that a definition that
-- misses the rules is refused by its example. Assumes nothing.
use mathlib.Core.Path.{refl}
use Rattle.conditions.specs.Choose.{choose}
use Rattle.plan.specs.Places.{padded}
use Rattle.plan.specs.Rules.{mode_of}
use Rattle.plan.specs.Stands.{given_of}
use Rattle.records.specs.Numbers.{u16_bytes, u32_bytes, i32_bytes}
use Rattle.records.specs.Walk.{flat}
use Rattle.records.specs.Kinds.{point_bytes}
use Rattle.writer.specs.File.{with_header, point_records, radius_record, listed, plan_records, file_of}
use Rattle.writer.specs.Facts.{FileFacts}

pub file-facts : FileFacts
unfolding choose padded mode_of given_of u16_bytes u32_bytes i32_bytes flat point_bytes with_header point_records radius_record listed plan_records file_of
file-facts = record { lines = refl; dubins = refl }
