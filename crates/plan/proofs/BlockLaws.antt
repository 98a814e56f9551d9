-- The arrays of a plan one after another: each is found at its place, and a store in one leaves the others as they are. Assumes nothing.
use mathlib.Core.Path.{◌≡◌, refl, sym, ap, ◌∙◌}
use mathlib.Core.List.{List, [], ◌∷◌, ◌++◌, append-nil}
use Prim.Native.Nat.{ℕ, zero, suc, ◌+◌, ◌*◌, ◌<◌}
use native.Mathlib.Omega.{arith}
use lib.ListN.{length, get_or, set, replicate, length-append}
use lib.Seq.{take_at, drop-append-add, set-append_left}
use lib.IntN.{ℤ, pos}
use Rattle.plane.specs.declared.Point.{Point}
use Rattle.plan.specs.declared.Plan.{Plan}
use Rattle.plan.specs.Limits.{most_points}
use Rattle.plan.specs.Places.{numbers_of, plan_numbers, block, padded}
use Rattle.plan.specs.Loaded.{plan_of}

-- ---- blocks of a plan's length
pub padded-length : {A B : Type 0} (f : A → B) (n : ℕ) (d : B) (xs : List A) → length (padded f n d xs) ≡ n
unfolding padded
padded-length f zero d xs = refl
padded-length f (suc n) d [] = ap suc (padded-length f n d [])
padded-length f (suc n) d (x ∷ xs) = ap suc (padded-length f n d xs)

abbrev pub joined : List (List ℤ) → List ℤ
joined [] = []
joined (b ∷ bs) = b ++ joined bs

abbrev pub Blocks : List (List ℤ) → Type 0
Blocks [] = Unit {0}
Blocks (b ∷ bs) = (length b ≡ most_points) × Blocks bs

-- ---- the k-th of them
set_past : {A : Type 0} (xs ys : List A) (i : ℕ) (x : A) → set (xs ++ ys) (length xs + i) x ≡ xs ++ set ys i x
set_past [] ys i x = let p : 0 + i ≡ i = omega arith in rw p
set_past {A = A} (y ∷ xs) ys i x =
    let p : suc (length xs) + i ≡ suc (length xs + i) = omega arith in
    rw p (ap (λ (l : List A). y ∷ l) (set_past xs ys i x))

pub joined_length : (bs : List (List ℤ)) → Blocks bs → length (joined bs) ≡ length bs * most_points
joined_length [] e = refl
joined_length (b ∷ bs) e = length-append b (joined bs) ∙ omega (arith, e.0, joined_length bs e.1)

pub block-joined : (k : ℕ) (bs : List (List ℤ)) → Blocks bs → k < length bs → block k (joined bs) ≡ get_or bs k []
block-joined k [] e h = absurd (omega arith)
block-joined zero (b ∷ bs) e h = take_at b (joined bs) most_points e.0
block-joined (suc k) (b ∷ bs) e h =
    let p : suc k * most_points ≡ length b + k * most_points = omega (arith, e.0) in
    rw (p, drop-append-add b (joined bs) (k * most_points)) (block-joined k bs e.1 (omega arith))

pub set-joined : (k i : ℕ) (x : ℤ) (bs : List (List ℤ)) → Blocks bs → k < length bs → i < most_points
    → set (joined bs) (k * most_points + i) x ≡ joined (set bs k (set (get_or bs k []) i x))
set-joined k i x [] e h l = absurd (omega arith)
set-joined zero i x (b ∷ bs) e h l =
    let p : zero * most_points + i ≡ i = omega arith in
    rw p (set-append_left b (joined bs) i x (omega (arith, e.0)))
set-joined (suc k) i x (b ∷ bs) e h l =
    let p : suc k * most_points + i ≡ length b + (k * most_points + i) = omega (arith, e.0) in
    rw (p, set_past b (joined bs) (k * most_points + i) x) (ap (λ (l : List ℤ). b ++ l) (set-joined k i x bs e.1 (omega arith) l))

-- ---- a plan's
abbrev pub blocks_of : Plan → List (List ℤ)
blocks_of p = p.norths ∷ p.easts ∷ p.downs ∷ p.courses ∷ []

pub numbers-joined : (p : Plan) → numbers_of p ≡ joined (blocks_of p)
numbers-joined p = ap (λ (l : List ℤ). p.norths ++ (p.easts ++ (p.downs ++ l))) (sym (append-nil p.courses))

-- and of lists: with nothing in them they are all 0
pub loaded-none : (serial R : ℕ) → numbers_of (plan_of serial R [] []) ≡ replicate plan_numbers (pos 0)
unfolding padded
loaded-none serial R = refl

module _ (serial R : ℕ) (ps : List Point) (cs : List ℕ) where
  pub loaded-blocks : Blocks (blocks_of (plan_of serial R ps cs))
  loaded-blocks = (padded-length _ most_points _ ps, (padded-length _ most_points _ ps, (padded-length _ most_points _ ps, (padded-length _ most_points _ cs, tt))))

  pub loaded-length : length (numbers_of (plan_of serial R ps cs)) ≡ plan_numbers
  loaded-length = ap length (numbers-joined (plan_of serial R ps cs)) ∙ joined_length (blocks_of (plan_of serial R ps cs)) loaded-blocks
