-- `rounded` gives a corner's arc. Assumes nothing.
use mathlib.Core.Path.{sym, subst, ◌∙◌}
use lib.Dec.{leb→le}
use native.Mathlib.Nat.{le_trans}
use Rattle.course.specs.Vectors.{Near}
use Rattle.course.proofs.VectorLaws.{near_le}
use Rattle.plane.specs.Level.{minus}
use Rattle.fillets.specs.Corners.{rounded_of}
use Rattle.fillets.proofs.HandCornerLaws.{hand-corners}
use Rattle.fillets.proofs.CornerLaws.{z1-near, rounded-is, corner-carried}
use Rattle.fillets.proofs.rounded.Goals as goal

pub sum-centre-requires : goal.sum-centre-requires
sum-centre-requires c =
    let e = c.vector_between-z1.ensures.0 ∙ (λ i. minus c.args.point (c.offset.ensures.0 i)) in (
      near_le (leb→le 550280 1000000 tt) (subst (Near 550280) (sym e) (z1-near c.args.point c.args.j c.args.t c.requires.0 c.requires.1.1.1)),
      near_le (le_trans c.requires.1.1.0 (leb→le 10000 1000000 tt)) c.offset-3.ensures.1,
    )

pub returns : goal.returns
unfolding rounded_of
returns c =
    record {
      value = corner-carried
          (simp (c.sum-centre.ensures.0, c.offset-3.ensures.0, c.sideways-side.ensures.0, c.sum-z2.ensures.0, c.offset-2.ensures.0, c.vector_between-z1.ensures.0, c.offset.ensures.0))
          (rounded-is c.args.point c.args.j c.args.t c.requires.0 c.requires.1.1.1 c.args.k c.args.right c.args.radius c.requires.1.1.0);
      hand_corners = hand-corners;
    }
