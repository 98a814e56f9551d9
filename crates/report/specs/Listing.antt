-- Clauses 16.1 to 16.3, 16.8: the listing of a file, or the line of its refusal. Assumes nothing.
use Rattle.std.specs.Prelude.{List, [], ◌++◌, ℕ, zero, suc, eqb, leb, length}
use Rattle.conditions.specs.Choose.{choose}
use Rattle.buffers.specs.Splice.{over}
use Rattle.text.specs.Ascii.{ascii}
use Rattle.text.specs.Digits.{decimal_of}
use Rattle.text.specs.Parts.{count_text, number_text, refusal_text}
use Rattle.plane.specs.declared.Point.{Point}
use Rattle.plan.specs.declared.Mode.{Mode}
use Rattle.plan.specs.declared.Mode.TheVariants.{Lines, Fillets, Dubins}
use Rattle.plan.specs.declared.Head.{Head}
use Rattle.plan.specs.declared.Plan.{Plan}
use Rattle.plan.specs.Places.{plan_point, plan_course}
use Rattle.records.specs.Versions.{newest}
use Rattle.wpl.specs.declared.Loaded.{Loaded}
use Rattle.wpl.specs.Header.{version_of}
use Rattle.wpl.specs.Load.{load_of, loaded_of}

abbrev pub newline : List ℕ
newline = ascii "\n"

abbrev pub space : List ℕ
space = ascii " "

unfoldable pub mode_text : Mode → List ℕ
mode_text Lines = ascii "lines"
mode_text Fillets = ascii "fillets"
mode_text Dubins = ascii "dubins"

-- 16.2, 16.8: the first line, without its end: a strip listing's goes on
unfoldable pub title_of : ℕ → Head → List ℕ
title_of version h =
    count_text (ascii "plan ") h.serial
    ++ (count_text (ascii " version ") version ++ (ascii " mode " ++ (mode_text h.mode ++ count_text (ascii " points ") h.count)))

-- 16.2: a course, or a dash
unfoldable pub course_text : Mode → ℕ → List ℕ
course_text Lines course = ascii " -"
course_text Fillets course = ascii " -"
course_text Dubins course = count_text space course

unfoldable pub point_text : Point → List ℕ
point_text p = number_text space p.north ++ (number_text space p.east ++ number_text space p.down)

unfoldable pub line_of : Mode → ℕ → Point → ℕ → List ℕ
line_of mode number p course = decimal_of number ++ (point_text p ++ (course_text mode course ++ newline))

-- the lines of the first points
unfoldable pub lines_to : Plan → ℕ → List ℕ
lines_to p zero = []
lines_to p (suc i) = lines_to p i ++ line_of p.head.mode (suc i) (plan_point p i) (plan_course p i)

unfoldable pub plan_text : ℕ → Plan → List ℕ
plan_text version p = title_of version p.head ++ (newline ++ lines_to p p.head.count)

-- refusal 0 stands for none
unfoldable pub loaded_text : ℕ → Loaded → List ℕ
loaded_text version x =
    choose (eqb x.refusal 0) (plan_text version x.state.plan) (refusal_text x.refusal x.place ++ newline)

unfoldable pub listing_of : List ℕ → List ℕ
listing_of file = loaded_text (version_of file) (loaded_of (load_of newest file))

-- no listing is longer: a first line of at most 96 bytes, and for each of 64 points a line of at most 108, by the types of their numbers
abbrev pub listing_room : ℕ
listing_room = 7008

-- at the front of a buffer that has the room of a listing, and its length; in a shorter one nothing, and 0
unfoldable pub listed_in : ℕ → List ℕ → List ℕ → List ℕ
listed_in room text old = choose (leb room (length old)) (over text old) old

unfoldable pub listed_length : ℕ → List ℕ → List ℕ → ℕ
listed_length room text old = choose (leb room (length old)) (length text) 0
