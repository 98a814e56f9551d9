-- A vector that has reached one edge and not another further on bears a unit between them. Assumes nothing.
use mathlib.Core.Path.{◌≡◌, sym, ap, ◌∙◌, subst}
use Prim.Native.Nat.{ℕ, zero, suc, ◌+◌, ◌*◌, ◌/◌, ◌%◌, ◌<◌}
use native.Mathlib.Omega.{arith}
use lib.IntN.{pos}
use lib.Signed.{lt_z, ◌≤ℤ◌, ◌<ℤ◌, clash_ℤ}
use Rattle.integers.proofs.Tests.{lt_yes, lt_no}
use Rattle.conditions.proofs.Bools.{by_bool}
use Rattle.course.specs.declared.Vector.{Vector}
use Rattle.course.specs.Vectors.{cross}
use Rattle.course.specs.Direction.{turned}
use Rattle.course.specs.Bearing.{edge_of, bearing_of}
use Rattle.course.proofs.DirectionLaws.{turned_round}
use Rattle.course.proofs.SectorLaws.{edge-turned}
use Rattle.course.proofs.BearingLaws.{bearing-only}

-- ---- edges go round, of every number
edge-rounds : (n k : ℕ) → edge_of (k + 4096 * n) ≡ edge_of k
unfolding turned
edge-rounds n k =
    ap edge_of {x = k + 4096 * n} {y = k + 1024 * (4 * n)} (omega arith)
    ∙ edge-turned (4 * n) k
    ∙ sym (turned_round (4 * n) (edge_of k))
    ∙ ap (λ (q : ℕ). turned q (edge_of k)) {x = 4 * n % 4} {y = 0} (omega arith)

edge-rest : (k : ℕ) → edge_of k ≡ edge_of (k % 4096)
edge-rest k = ap edge_of {x = k} {y = k % 4096 + 4096 * (k / 4096)} (omega arith) ∙ edge-rounds (k / 4096) (k % 4096)

edge-after : (k : ℕ) → edge_of (suc k) ≡ edge_of (suc (k % 4096))
edge-after k = ap edge_of {x = suc k} {y = suc (k % 4096) + 4096 * (k / 4096)} (omega arith) ∙ edge-rounds (k / 4096) (suc (k % 4096))

-- ---- the unit that is found: so many past the first edge
pub record Past (w : Vector) (j m : ℕ) : Type 0 where
  pub by : ℕ
  pub few : by < m
  pub bears : bearing_of w ≡ (j + by) % 4096

here : (w : Vector) (k : ℕ) → pos 0 ≤ℤ cross (edge_of k) w → cross (edge_of (suc k)) w <ℤ pos 0 → bearing_of w ≡ k % 4096
here w k h l =
    sym (bearing-only w (k % 4096)
    (record {
      round = omega arith;
      from = subst (λ (u : Vector). pos 0 ≤ℤ cross u w) (edge-rest k) h;
      upto = subst (λ (u : Vector). cross u w <ℤ pos 0) (edge-after k) l;
    }))

pub between : (w : Vector) (j m : ℕ) → pos 0 ≤ℤ cross (edge_of j) w → cross (edge_of (j + m)) w <ℤ pos 0 → Past w j m
between w j zero h l = clash_ℤ (subst (λ (k : ℕ). cross (edge_of k) w <ℤ pos 0) {x = j + 0} {y = j} (omega arith) l) h
between w j (suc m) h l =
    by_bool (lt_z (cross (edge_of (j + m)) w) (pos 0))
    (λ t. let p = between w j m h (lt_yes (cross (edge_of (j + m)) w) (pos 0) t) in record { by = p.by; few = omega (arith, p.few); bears = p.bears })
    (λ t.
    record {
      by = m;
      few = omega arith;
      bears =
          here w (j + m) (lt_no (cross (edge_of (j + m)) w) (pos 0) t)
          (subst (λ (k : ℕ). cross (edge_of k) w <ℤ pos 0) {x = j + suc m} {y = suc (j + m)} (omega arith) l);
    })
