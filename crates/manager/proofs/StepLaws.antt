-- Laws of one fix: which answer when; a refused fix returns its state; a step keeps the plan and validity. Assumes nothing.
use mathlib.Core.Path.{◌≡◌, refl, ap, ◌∙◌}
use mathlib.Core.Bool.{Bool, true, false}
use Prim.Native.Nat.{ℕ, ◌+◌, ◌<◌}
use native.Mathlib.Omega.{arith}
use lib.Dec.{eqb, ltb}
use borrow.Author.Tests.{ltb-true, ltb-false, le-leb, eq-eqb, ne_eqb}
use Rattle.std.specs.Prelude.{Option, Some, None}
use Rattle.conditions.specs.Choose.{choose}
use Rattle.conditions.proofs.ChooseLaws.{choose-true, choose-false}
use Rattle.conditions.proofs.Bools.{by_bool, clash, both-off, both-off-second, both_true}
use Rattle.plane.specs.declared.Point.{Point}
use Rattle.units.specs.declared.Fix.{Fix}
use Rattle.units.specs.Position.{position_of}
use Rattle.plan.specs.declared.Mode.{Mode}
use Rattle.manager.specs.declared.Progress.{Progress}
use Rattle.manager.specs.declared.State.{State}
use Rattle.manager.specs.declared.Stepped.{Stepped}
use Rattle.manager.specs.State.{last_index, on_last_leg, last_phase, at_end, index_fits, phase_fits, end_fits, placed_of, valid_of}
use Rattle.manager.specs.Step.{guide_here, next_of, next_here, refuse_of, moved_of, located_step, step_of}
use Rattle.manager.proofs.StateLaws.{index-fits, phase-fits, end_fits_lem, index-least, index-last, phase-last, valid-stands, valid-placed, before_last, phase-one}

-- ---- which answer when
module _ (s : State) (serial : ℕ) (fix : Fix) where
  pub step-14 : valid_of s ≡ false → step_of s serial fix ≡ refuse_of s 14
  unfolding step_of choose
  step-14 h = rw h

  pub step-15 : valid_of s ≡ true → eqb serial s.plan.head.serial ≡ false → step_of s serial fix ≡ refuse_of s 15
  unfolding step_of choose
  step-15 h k = rw (h, k)

  pub step-located : valid_of s ≡ true → eqb serial s.plan.head.serial ≡ true → step_of s serial fix ≡ located_step s (position_of fix)
  unfolding step_of choose
  step-located h k = rw (h, k)

  pub step-13 : valid_of s ≡ true → eqb serial s.plan.head.serial ≡ true → position_of fix ≡ None → step_of s serial fix ≡ refuse_of s 13
  unfolding located_step
  step-13 h k e = step-located h k ∙ ap (located_step s) e

  pub step-moved : valid_of s ≡ true → eqb serial s.plan.head.serial ≡ true → (p : Point) → position_of fix ≡ Some p → step_of s serial fix ≡ moved_of s p
  unfolding located_step
  step-moved h k p e = step-located h k ∙ ap (located_step s) e

-- ---- what a step may do to a state: it stays, or it moves on
abbrev pub onward : State → Bool → State
onward s passed = record { plan = s.plan; progress = next_here s passed }

pub data Goes (s : State) : State → Type 0 where
  stays : Goes s s
  moves : (passed : Bool) → Goes s (onward s passed)

refuse-goes : (s : State) (number : ℕ) → Goes s (refuse_of s number).state
unfolding refuse_of
refuse-goes s number = stays

located-goes : (s : State) (position : Option Point) → Goes s (located_step s position).state
unfolding located_step moved_of
located-goes s (Some p) = moves (guide_here s p).passed
located-goes s None = refuse-goes s 13

choose-goes : (s : State) (b : Bool) (x y : Stepped) → Goes s x.state → Goes s y.state → Goes s (choose b x y).state
unfolding choose
choose-goes s true x y h k = h
choose-goes s false x y h k = k

pub step-goes : (s : State) (serial : ℕ) (fix : Fix) → Goes s (step_of s serial fix).state
unfolding step_of
step-goes s serial fix =
    choose-goes s (valid_of s) _ _ (choose-goes s (eqb serial s.plan.head.serial) _ _ (located-goes s (position_of fix)) (refuse-goes s 15)) (refuse-goes s 14)

-- a refused fix returns its state
located-refused : (s : State) (position : Option Point) → ((located_step s position).answer.refusal ≡ 0 → ⊥) → (located_step s position).state ≡ s
unfolding located_step moved_of refuse_of
located-refused s (Some p) h = absurd (h refl)
located-refused s None h = refl

choose-refused : (s : State) (b : Bool) (x y : Stepped) → ((x.answer.refusal ≡ 0 → ⊥) → x.state ≡ s) → ((y.answer.refusal ≡ 0 → ⊥) → y.state ≡ s)
    → ((choose b x y).answer.refusal ≡ 0 → ⊥) → (choose b x y).state ≡ s
unfolding choose
choose-refused s true x y h k = h
choose-refused s false x y h k = k

refuse-state : (s : State) (number : ℕ) → (refuse_of s number).state ≡ s
unfolding refuse_of
refuse-state s number = refl

pub step-refused : (s : State) (serial : ℕ) (fix : Fix) → ((step_of s serial fix).answer.refusal ≡ 0 → ⊥) → (step_of s serial fix).state ≡ s
unfolding step_of
step-refused s serial fix =
    choose-refused s (valid_of s) _ _
    (choose-refused s (eqb serial s.plan.head.serial) _ _ (located-refused s (position_of fix)) (λ h. refuse-state s 15)) (λ h. refuse-state s 14)

-- ---- a step keeps the plan
goes-plan : {s t : State} → Goes s t → t.plan ≡ s.plan
goes-plan stays = refl
goes-plan (moves passed) = refl

pub step-plan : (s : State) (serial : ℕ) (fix : Fix) → (step_of s serial fix).state.plan ≡ s.plan
step-plan s serial fix = goes-plan (step-goes s serial fix)

-- ---- and validity
abbrev at : ℕ → ℕ → Bool → Progress
at index phase finished = record { index = index; phase = phase; finished = finished }

module _ (mode : Mode) (n : ℕ) (p : Progress) where
  going : p.finished ≡ false → end_fits mode n p ≡ true
  unfolding end_fits
  going h = rw choose-false

  ended : at_end mode n p ≡ true → end_fits mode n p ≡ true
  unfolding end_fits
  ended h = by_bool p.finished (λ t. rw choose-true h) (λ t. rw choose-false)

  -- a finished flight is at its end, so one that is not there is not finished
  unfinished : end_fits mode n p ≡ true → at_end mode n p ≡ false → p.finished ≡ false
  unfolding end_fits
  unfinished h e = by_bool p.finished (λ t. clash (at_end mode n p) (rw choose-true at h) e) (λ t. t)

  placed : index_fits n p ≡ true → phase_fits mode n p ≡ true → end_fits mode n p ≡ true → placed_of mode n p ≡ true
  unfolding placed_of
  placed a b c = both_true _ _ a (both_true _ _ b c)

module _ (mode : Mode) (n : ℕ) (p : Progress) (h : placed_of mode n p ≡ true) where
  abbrev on-last : Bool
  on-last = on_last_leg n p.index

  abbrev last-phase : ℕ
  last-phase = last_phase mode n p.index

  -- the next phase
  phase-placed : ltb p.phase last-phase ≡ true → placed_of mode n (at p.index (p.phase + 1) p.finished) ≡ true
  unfolding index_fits phase_fits at_end
  phase-placed t =
      let l : p.phase < last-phase = ltb-true p.phase last-phase t in
      let k : at_end mode n p ≡ false = both-off-second on-last _ (ne_eqb p.phase last-phase (λ e. omega arith)) in
      placed mode n _ (index-fits mode n p h) (both_true _ _ (le-leb 1 (p.phase + 1) (omega arith)) (le-leb (p.phase + 1) last-phase (omega arith)))
      (going mode n _ (unfinished mode n p (end_fits_lem mode n p h) k))

  -- the end
  end-placed : ltb p.phase last-phase ≡ false → on-last ≡ true → placed_of mode n (at p.index p.phase true) ≡ true
  unfolding index_fits phase_fits at_end
  end-placed t u =
      let e : p.phase ≡ last-phase = omega (arith, ltb-false p.phase last-phase t, phase-last mode n p h) in
      placed mode n _ (index-fits mode n p h) (phase-fits mode n p h) (ended mode n _ (both_true _ _ u (eq-eqb p.phase last-phase e)))

  -- the next index
  index-placed : on-last ≡ false → placed_of mode n (at (p.index + 1) 1 p.finished) ≡ true
  unfolding index_fits phase_fits at_end
  index-placed u =
      let a = index-least mode n p h in
      let b : p.index < last_index n = before_last n p.index u (index-last mode n p h) in
      placed mode n _ (both_true _ _ (le-leb 2 (p.index + 1) (omega arith)) (le-leb (p.index + 1) (last_index n) (omega arith)))
      (both_true _ _ (le-leb 1 1 (omega arith)) (le-leb 1 _ (phase-one mode n (p.index + 1))))
      (going mode n _ (unfinished mode n p (end_fits_lem mode n p h) (both-off on-last _ u)))

  next-placed : (passed : Bool) → placed_of mode n (next_of mode n p passed) ≡ true
  unfolding next_of choose
  next-placed false = h
  next-placed true =
      by_bool (ltb p.phase last-phase) (λ t. rw t (phase-placed t))
      (λ t. by_bool on-last (λ u. rw (t, u) (end-placed t u)) (λ u. rw (t, u) (index-placed u)))

goes-valid : {s t : State} → Goes s t → valid_of s ≡ true → valid_of t ≡ true
unfolding valid_of
goes-valid stays h = h
goes-valid {s} (moves passed) h =
    both_true _ _ (valid-stands s h) (next-placed s.plan.head.mode s.plan.head.count s.progress (valid-placed s h) passed)

pub step-valid : (s : State) (serial : ℕ) (fix : Fix) → valid_of s ≡ true → valid_of (step_of s serial fix).state ≡ true
step-valid s serial fix = goes-valid (step-goes s serial fix)
