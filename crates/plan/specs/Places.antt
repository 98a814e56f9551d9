-- Clause 8.1: the points and courses of a plan by their places, which are counted from 0 here. A plan holds each kind of number in an array of
-- its own. A list and arrays that hold it padded with zeros give the same. Assumes nothing.
use Rattle.std.specs.Prelude.{◌≡◌, List, [], ◌∷◌, ◌++◌, ℕ, zero, suc, ◌*◌, length, get_or, take, drop, ℤ, pos, nat_abs}
use Rattle.plane.specs.declared.Point.{Point}
use Rattle.plan.specs.declared.Head.{Head}
use Rattle.plan.specs.declared.Plan.{Plan}
use Rattle.plan.specs.Limits.{most_points}

abbrev pub no_point : Point
no_point = record { north = pos 0; east = pos 0; down = pos 0 }

-- ---- of a file's lists
abbrev pub points_at : List Point → ℕ → Point
points_at points i = get_or points i no_point

abbrev pub courses_at : List ℕ → ℕ → ℕ
courses_at courses i = get_or courses i 0

-- where no point has one; for proofs alone
abbrev pub no_course : ℕ → ℕ
no_course i = 0

-- ---- of arrays of numbers
abbrev pub number_at : List ℤ → ℕ → ℤ
number_at numbers i = get_or numbers i (pos 0)

abbrev pub place_at : List ℤ → List ℤ → List ℤ → ℕ → Point
place_at norths easts downs i = record { north = number_at norths i; east = number_at easts i; down = number_at downs i }

abbrev pub course_at : List ℤ → ℕ → ℕ
course_at courses i = nat_abs (number_at courses i)

abbrev pub plan_point : Plan → ℕ → Point
plan_point p = place_at p.norths p.easts p.downs

abbrev pub plan_course : Plan → ℕ → ℕ
plan_course p = course_at p.courses

-- the plan of a head and lent numbers
abbrev pub seen : Head → List ℤ → List ℤ → List ℤ → List ℤ → Plan
seen h norths easts downs courses =
    record {
      head = h;
      norths = norths;
      easts = easts;
      downs = downs;
      courses = courses;
    }

-- ---- the arrays of a plan one after another, how many numbers they have, and the k-th of them, from 0
abbrev pub numbers_of : Plan → List ℤ
numbers_of p = p.norths ++ (p.easts ++ (p.downs ++ p.courses))

abbrev pub plan_numbers : ℕ
plan_numbers = 4 * most_points

-- the numbers of one kind; for proofs alone
abbrev pub block : ℕ → List ℤ → List ℤ
block k numbers = take most_points (drop (k * most_points) numbers)

-- the plan of a head and of all numbers one after another; for proofs alone
abbrev pub planned_in : Head → List ℤ → Plan
planned_in h numbers = seen h (block 0 numbers) (block 1 numbers) (block 2 numbers) (block 3 numbers)

-- each array has all its places, as those of every plan in the code have
pub record Filled (p : Plan) : Type 0 where
  pub north : length p.norths ≡ most_points
  pub east : length p.easts ≡ most_points
  pub down : length p.downs ≡ most_points
  pub course : length p.courses ≡ most_points

-- a number of each element of a list in n places, the rest being d
unfoldable pub padded : {A B : Type 0} → (A → B) → ℕ → B → List A → List B
padded f zero d xs = []
padded f (suc n) d [] = d ∷ padded f n d []
padded f (suc n) d (x ∷ xs) = f x ∷ padded f n d xs
