-- The arrays of a plan one after another, and back. Assumes nothing.
use mathlib.Core.Path.{◌≡◌, refl, ap, ◌∙◌}
use mathlib.Core.List.{List, [], ◌∷◌}
use Prim.Native.Nat.{ℕ, zero, suc, ◌*◌, ◌<◌}
use native.Mathlib.Omega.{arith}
use lib.IntN.{ℤ, pos}
use lib.ListN.{length, get_or, drop, length-drop}
use lib.Seq.{length-take-le}
use Rattle.plane.specs.declared.Point.{Point}
use Rattle.plan.specs.declared.Head.{Head}
use Rattle.plan.specs.declared.Plan.{Plan}
use Rattle.plan.specs.Limits.{most_points}
use Rattle.plan.specs.Places.{no_point, points_at, padded, block, plan_numbers, numbers_of, planned_in, Filled}
use Rattle.plan.specs.Long.{Long}
use Rattle.plan.proofs.BlockLaws.{padded-length, Blocks, block-joined, blocks_of, numbers-joined}
use Rattle.plan.proofs.PlaceLaws.{padded_at}

module _ (p : Plan) (f : Filled p) where
  pub filled-long : Long p.norths p.easts p.downs p.courses
  filled-long = record { north = omega (arith, f.north); east = omega (arith, f.east); down = omega (arith, f.down); course = omega (arith, f.course) }

  blocks : Blocks (blocks_of p)
  blocks = (f.north, (f.east, (f.down, (f.course, tt))))

  back : (k : ℕ) → k < 4 → block k (numbers_of p) ≡ get_or (blocks_of p) k []
  back k h = ap (block k) (numbers-joined p) ∙ block-joined k (blocks_of p) blocks h

  pub planned-back : planned_in p.head (numbers_of p) ≡ p
  planned-back =
      λ t.
      record {
        head = p.head;
        norths = back 0 (omega arith) t;
        easts = back 1 (omega arith) t;
        downs = back 2 (omega arith) t;
        courses = back 3 (omega arith) t;
      }

-- ---- each block of all numbers is whole
module _ (numbers : List ℤ) (e : length numbers ≡ plan_numbers) where
  pub block-length : (k : ℕ) → k < 4 → length (block k numbers) ≡ most_points
  block-length k h = length-take-le most_points (drop (k * most_points) numbers) (simp length-drop (omega (arith, e)))

  pub planned-filled : (h : Head) → Filled (planned_in h numbers)
  planned-filled h =
      record {
        north = block-length 0 (omega arith);
        east = block-length 1 (omega arith);
        down = block-length 2 (omega arith);
        course = block-length 3 (omega arith);
      }

-- ---- a plan of padded lists has all its places
pub padded-filled : (p : Plan) (ps : List Point) (cs : List ℕ)
    → p.norths ≡ padded (λ (q : Point). q.north) most_points (pos 0) ps
    → p.easts ≡ padded (λ (q : Point). q.east) most_points (pos 0) ps
    → p.downs ≡ padded (λ (q : Point). q.down) most_points (pos 0) ps
    → p.courses ≡ padded pos most_points (pos 0) cs → Filled p
padded-filled p ps cs n e d c =
    record {
      north = ap length n ∙ padded-length _ most_points (pos 0) ps;
      east = ap length e ∙ padded-length _ most_points (pos 0) ps;
      down = ap length d ∙ padded-length _ most_points (pos 0) ps;
      course = ap length c ∙ padded-length _ most_points (pos 0) cs;
    }

-- ---- a padded list has the numbers of the list's elements at all its places, and of the default past the list's end
pub padded-within : {A B : Type 0} (f : A → B) (n : ℕ) (d : A) (xs : List A) (i : ℕ) → i < n → get_or (padded f n (f d) xs) i (f d) ≡ f (get_or xs i d)
unfolding padded
padded-within f zero d xs i h = absurd (omega arith)
padded-within f (suc n) d [] zero h = refl
padded-within f (suc n) d [] (suc i) h = padded-within f n d [] i (omega arith)
padded-within f (suc n) d (x ∷ xs) zero h = refl
padded-within f (suc n) d (x ∷ xs) (suc i) h = padded-within f n d xs i (omega arith)

pub point-within : (ps : List Point) (i : ℕ) → i < most_points → padded_at ps i ≡ points_at ps i
point-within ps i h =
    λ t. record {
      north = padded-within (λ (p : Point). p.north) most_points no_point ps i h t;
      east = padded-within (λ (p : Point). p.east) most_points no_point ps i h t;
      down = padded-within (λ (p : Point). p.down) most_points no_point ps i h t;
    }
