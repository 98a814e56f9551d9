-- Holds clauses 14.1, 14.2: headings worked out by hand, those of section 19 among them. They hold the definitions to the rules, whatever the
-- code does. Assumes nothing.
use Rattle.std.specs.Prelude.{◌≡◌, true, false, pos, negsuc}
use Rattle.course.specs.Vectors.{plain}
use Rattle.heading.specs.Heading.{line_heading, circle_heading}

pub record LineExamples : Type 0 where
  -- on the leg (1000, 0) from (0, 0), at (0, 500)
  pub right : line_heading (plain 1000 0) (plain 0 500) ≡ 3712
  -- fix (0,−1): b is −2, and 768·b/1024 is −1, toward zero
  pub left : line_heading (plain 1000 0) (record { north = pos 0; east = negsuc 0 }) ≡ 1

pub record CircleExamples : Type 0 where
  -- on a circle of R 1000 to the right, at (1000, 0) of the centre, and at the centre
  pub round : circle_heading (plain 1000 0) 1000 true ≡ 1024
  pub centre : circle_heading (plain 0 0) 1000 true ≡ 159
  -- and at (1000,0) with the other sense
  pub back : circle_heading (plain 1000 0) 1000 false ≡ 3072
