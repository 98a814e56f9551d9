-- The examples of records, computed from the definitions. The checker takes the files by name, this one before all laws, so that a definition
-- that misses the rules is refused by its example. Assumes nothing.
use mathlib.Core.Path.{refl}
use Rattle.conditions.specs.Choose.{choose}
use Rattle.conditions.specs.Both.{both}
use Rattle.conditions.specs.Between.{between}
use Rattle.conditions.specs.All.{All}
use Rattle.plan.specs.Limits.{signed_between, inside_of, in_area_of}
use Rattle.records.specs.Numbers.{u16_at, u32_at, i32_at}
use Rattle.records.specs.Walk.{walk_by, walk, fills, flat, holds}
use Rattle.records.specs.Kinds.{table, row_in, row_of, optional, knows, point_in, point_rule, radius_rule, course_rule, optional_rule, value_rule, known_rule, unknown_rule, judge, holds_newer, skipped, sift}
use Rattle.records.specs.Gather.{after, gather, gather_from}
use Rattle.records.specs.Facts.{RecordHolds, record_examples}

pub each : All RecordHolds record_examples
unfolding choose both signed_between inside_of in_area_of u16_at u32_at i32_at walk_by walk fills flat holds table row_in row_of optional knows between point_in point_rule radius_rule course_rule optional_rule value_rule known_rule unknown_rule judge holds_newer skipped sift after gather gather_from
each = (refl, (refl, (refl, (refl, (refl, (refl, (refl, (refl, (refl, (refl, (refl, (refl, (refl, (refl, (refl, (refl, (refl, (refl, (refl, (refl, (refl, (refl, (refl, (refl, (refl, (refl, (refl, (refl, (refl, (refl, (refl, (refl, (refl, (refl, (refl, (refl, (refl, (refl, (refl, (refl, (refl, (refl, (refl, (refl, (refl, (refl, (refl, (refl, (refl, (refl, (refl, (refl, (refl, (refl, (refl, (refl, (refl, (refl, (refl, (refl, (refl, (refl, (refl, (refl, (refl, (refl, (refl, (refl, (refl, (refl, tt))))))))))))))))))))))))))))))))))))))))))))))))))))))))))))))))))))))
