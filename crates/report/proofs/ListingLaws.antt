-- The lines of a plan, point by point; a loaded plan has no more points than there is room for; and where a listing ends up. Assumes nothing.
use mathlib.Core.Path.{◌≡◌, sym, ap, ◌∙◌}
use mathlib.Core.List.{List, ◌++◌}
use Prim.Native.Nat.{ℕ, ◌+◌, ◌*◌, ◌≤◌, ◌<◌}
use native.Mathlib.Numerals.{add-one}
use native.Mathlib.Omega.{arith}
use lib.ListN.{length}
use borrow.Author.Tests.{le-leb, lt-leb, eq-eqb, ne_eqb}
use Rattle.conditions.proofs.ChooseLaws.{choose-true, choose-false}
use Rattle.refusals.specs.Outcome.{Outcome, good, refused}
use Rattle.buffers.proofs.SpliceLaws.{at_front}
use Rattle.text.specs.Parts.{refusal_text}
use Rattle.text.specs.declared.Text.{Text}
use Rattle.text.specs.Written.{Wrote}
use Rattle.text.specs.Added.{Fits, AtMost, Added}
use Rattle.text.proofs.AddedLaws.{nothing, joined}
use Rattle.plane.specs.declared.Point.{Point}
use Rattle.plan.specs.declared.Plan.{Plan}
use Rattle.plan.specs.Limits.{most_points}
use Rattle.plan.specs.Places.{plan_point, plan_course}
use Rattle.manager.specs.declared.State.{State}
use Rattle.manager.proofs.StateLaws.{valid-means}
use Rattle.wpl.specs.declared.Loaded.{Loaded}
use Rattle.wpl.specs.Load.{load_of, loaded_of}
use Rattle.wpl.proofs.StartLaws.{load-valid}
use Rattle.report.specs.Listing.{newline, line_of, lines_to, plan_text, loaded_text, listed_in, listed_length}

-- ---- line by line
lines_next : (p : Plan) (i : ℕ) → lines_to p (i + 1) ≡ lines_to p i ++ line_of p.head.mode (i + 1) (plan_point p i) (plan_course p i)
unfolding lines_to
lines_next p i = rw add-one

-- before line i
pub record Underway (p : Plan) (old now : Text) (i : ℕ) : Type 0 where
  pub inside : i ≤ p.head.count
  pub done : Added (lines_to p i) old now
  pub short : AtMost (108 * i) old now

module _ (p : Plan) (old : Text) (room : Fits (108 * p.head.count) old) where
  pub starts : Underway p old old 0
  unfolding lines_to
  starts = record { inside = omega arith; done = nothing old (omega (arith, room)); short = omega arith }

  module _ (now : Text) (i : ℕ) (u : Underway p old now i) where
    pub goes_on : (new : Text) → i < p.head.count → {q : Point} {course : ℕ} → q ≡ plan_point p i → course ≡ plan_course p i
        → Added (line_of p.head.mode (i + 1) q course) now new × AtMost 108 now new → Underway p old new (i + 1)
    goes_on new h {q} {course} e f w =
        let v : Added (line_of p.head.mode (i + 1) (plan_point p i) (plan_course p i)) now new = rw (← e, ← f) w.0 in
        record {
          inside = omega arith;
          done = rw (lines_next p i) (joined u.done v);
          short = omega (arith, u.short, w.1);
        }

-- ---- 7.8
pub loaded-few : (r : ℕ) (f : List ℕ) (o : Outcome State) → load_of r f ≡ o → (loaded_of o).state.plan.head.count ≤ most_points
unfolding loaded_of
loaded-few r f (good s) e = (valid-means s (load-valid r f s e)).stands.most
loaded-few r f (refused n p) e = omega arith

-- ---- a file that loads, and one that is refused
pub text-loads : (version : ℕ) (x : Loaded) → x.refusal ≡ 0 → loaded_text version x ≡ plan_text version x.state.plan
unfolding loaded_text
text-loads version x h = choose-true _ _ _ (eq-eqb x.refusal 0 h)

pub text-refused : (version : ℕ) (x : Loaded) → (x.refusal ≡ 0 → ⊥) → loaded_text version x ≡ refusal_text x.refusal x.place ++ newline
unfolding loaded_text
text-refused version x h = choose-false _ _ _ (ne_eqb x.refusal 0 h)

-- ---- at the front of a buffer, or not at all, with what the promise says besides
module _ (room : ℕ) (text old : List ℕ) {Holds : Type 0} (holds : Holds) where
  abbrev Listed : List ℕ → ℕ → Type 0
  Listed new end = (end ≡ listed_length room text old) × ((new ≡ listed_in room text old) × ((end ≤ length old) × Holds))

  pub too_short : length old < room → Listed old 0
  unfolding listed_length listed_in
  too_short h =
      let t = lt-leb room (length old) h in
      (sym (choose-false _ _ _ t), (sym (choose-false _ _ _ t), (omega arith, holds)))

  pub whole : (from to : Text) → room ≤ length old → from.at ≡ 0 → from.buffer.now ≡ old → Added text from to → Listed to.buffer.now to.at
  unfolding listed_length listed_in
  whole from to h z o w =
      let t = le-leb room (length old) h in
      let v : Wrote 0 text old to.buffer.now to.at = rw (z, o) at w.wrote in
      let k : length to.buffer.now ≡ length old = w.kept ∙ ap length o in (
        omega (arith, v.ends) ∙ sym (choose-true _ _ _ t),
        (v.bytes ∙ at_front text old ∙ sym (choose-true _ _ _ t), (omega (arith, k, v.inside), holds)),
      )
