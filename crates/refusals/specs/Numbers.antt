-- Clauses 7.1 to 7.18, 17.5: each refusal's number by a name, which the code has in capitals. Assumes nothing.
use Rattle.std.specs.Prelude.{ℕ}

-- 7.1: fewer bytes than a header has
abbrev pub file_too_short : ℕ
file_too_short = 1

-- 7.2: no mark
abbrev pub no_mark : ℕ
no_mark = 2

-- 7.3: file version 0, or a reader or writer of a version that there is not
abbrev pub no_version : ℕ
no_version = 3

-- 7.4: serial 0
abbrev pub no_serial : ℕ
no_serial = 4

-- 7.5: an area length that is not that of the area, or too long
abbrev pub wrong_area : ℕ
wrong_area = 5

-- 7.6: a record that is cut short, or wrong in its length, value, position or version
abbrev pub wrong_record : ℕ
wrong_record = 6

-- 7.7: a record too new for the reader; a plan too new for the version that is written
abbrev pub too_new : ℕ
too_new = 7

-- 7.8: too few points, or too many
abbrev pub point_count : ℕ
point_count = 8

-- 7.9: courses and no radius, or not at every point
abbrev pub course_count : ℕ
course_count = 9

-- 7.10: two points in a row at one level place
abbrev pub equal_neighbours : ℕ
equal_neighbours = 10

-- 7.11: a leg right back along the one before it; fillets: too sharp a turn
abbrev pub sharp_corner : ℕ
sharp_corner = 11

-- 7.12: a leg too short for its arcs
abbrev pub short_leg : ℕ
short_leg = 12

-- 7.13: a fix that is no number, or too far away
abbrev pub no_position : ℕ
no_position = 13

-- 7.14: a state that breaks a limit or a rule
abbrev pub no_state : ℕ
no_state = 14

-- 7.15: a fix for another plan
abbrev pub other_serial : ℕ
other_serial = 15

-- 7.16: a buffer shorter than the file
abbrev pub no_room : ℕ
no_room = 16

-- 7.17: a leg without any Dubins case
abbrev pub no_case : ℕ
no_case = 17

-- 7.18: no strip plan
abbrev pub not_strips : ℕ
not_strips = 18

-- 17.5: a slice that is lent too short, or lists that differ in length: no number of section 7
abbrev pub misfit : ℕ
misfit = 100
