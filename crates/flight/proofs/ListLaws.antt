-- The lists of a flight, fix by fix: what is left of them, and what is left to write. Assumes nothing.
use mathlib.Core.Path.{◌≡◌, refl, sym, ◌∙◌}
use mathlib.Core.Bool.{Bool, true, false, ◌&&◌}
use mathlib.Core.List.{List, [], ◌∷◌}
use Prim.Native.Nat.{ℕ, suc, ◌+◌, ◌*◌, ◌/◌, ◌%◌, ◌-◌, ◌≤◌, ◌<◌}
use native.Mathlib.Omega.{arith}
use lib.Dec.{leb, eqb}
use lib.ListN.{length}
use lib.Ieee.{Float}
use borrow.Author.Tests.{leb-true, leb-false, le-leb, lt-leb, eqb-true, eqb-false, eq-eqb, ne_eqb}
use Rattle.conditions.specs.Both.{both}
use Rattle.conditions.proofs.Bools.{by_bool, both_first, both-second}
use Rattle.buffers.specs.Splice.{over, splice}
use Rattle.buffers.proofs.SpliceLaws.{further, unchanged, at_front}
use Rattle.manager.specs.declared.State.{State}
use Rattle.manager.specs.declared.Stepped.{Stepped}
use Rattle.c_answer.specs.Words.{answer_words, command_numbers}
use Rattle.c_answer.proofs.WordLaws.{answer-length, command-length}
use Rattle.flight.specs.Run.{Named, step_by, run}
use Rattle.flight.specs.Flight.{named_at, named_from, named_of, answers_of, commands_of, last_of, fits_of}

-- ---- lists and buffers that fit
pub record Fits (n f a c : ℕ) : Type 0 where
  pub fixes : f ≡ 3 * n
  pub answers : 8 * n ≤ a
  pub commands : 6 * n ≤ c

pub fits-means : (n f a c : ℕ) → fits_of n f a c ≡ true → Fits n f a c
unfolding fits_of
fits-means n f a c h =
    let k = both-second _ _ h in
    record {
      fixes = eqb-true f (3 * n) (both_first _ _ h);
      answers = leb-true (8 * n) a (both_first _ _ k);
      commands = leb-true (6 * n) c (both-second _ _ k);
    }

-- ---- what is left of the lists at the i-th fix
module _ (serials : List ℕ) (fixes : List Float) (n i : ℕ) where
  abbrev pub left : List Named
  left = named_from serials fixes (n - i) i

  pub left-none : n ≤ i → named_from serials fixes (n - i) i ≡ []
  unfolding named_from
  left-none h = let e : n - i ≡ 0 = omega arith in rw e

  pub left_one : i < n → named_from serials fixes (n - i) i ≡ named_at serials fixes i ∷ named_from serials fixes (n - (i + 1)) (i + 1)
  unfolding named_from
  left_one h = let e : n - i ≡ suc (n - (i + 1)) = omega arith in rw e

  -- ---- one fix: the state after it, and what is left to write behind its answer
  module _ (s : State) (x : Stepped) (h : i < n) (e : x ≡ step_by s (named_at serials fixes i)) where
    one-run : run s (named_from serials fixes (n - i) i) ≡ x ∷ run x.state (named_from serials fixes (n - (i + 1)) (i + 1))
    unfolding run
    one-run = rw (left_one h, e)

    pub last_on : last_of x.state (run x.state (named_from serials fixes (n - (i + 1)) (i + 1))) ≡ last_of s (run s (named_from serials fixes (n - i) i))
    unfolding last_of
    last_on = rw one-run

    pub answers-on : (old new : List ℕ) → 8 * i ≤ length old → new ≡ splice (8 * i) (answer_words x.answer) old
        → splice (8 * (i + 1)) (answers_of (run x.state (named_from serials fixes (n - (i + 1)) (i + 1)))) new
        ≡ splice (8 * i) (answers_of (run s (named_from serials fixes (n - i) i))) old
    unfolding answers_of
    answers-on old new l k =
        let a : 8 * (i + 1) ≡ 8 * i + 8 = omega arith in
        rw (one-run, a, k) (further (8 * i) 8 (answer_words x.answer) (answers_of (run x.state (named_from serials fixes (n - (i + 1)) (i + 1)))) old (answer-length x.answer) l)

    pub commands-on : (old new : List Float) → 6 * i ≤ length old → new ≡ splice (6 * i) (command_numbers x.answer.command) old
        → splice (6 * (i + 1)) (commands_of (run x.state (named_from serials fixes (n - (i + 1)) (i + 1)))) new
        ≡ splice (6 * i) (commands_of (run s (named_from serials fixes (n - i) i))) old
    unfolding commands_of
    commands-on old new l k =
        let a : 6 * (i + 1) ≡ 6 * i + 6 = omega arith in
        rw (one-run, a, k) (further (6 * i) 6 (command_numbers x.answer.command) (commands_of (run x.state (named_from serials fixes (n - (i + 1)) (i + 1)))) old (command-length x.answer.command) l)

  -- ---- behind the last fix nothing is left
  module _ (s : State) (h : n ≤ i) where
    pub last_done : s ≡ last_of s (run s (named_from serials fixes (n - i) i))
    unfolding last_of run
    last_done = rw (left-none h)

    pub answers-done : (at : ℕ) (old : List ℕ) → old ≡ splice at (answers_of (run s (named_from serials fixes (n - i) i))) old
    unfolding answers_of run
    answers-done at old = rw (left-none h) (sym (unchanged at old))

    pub commands-done : (at : ℕ) (old : List Float) → old ≡ splice at (commands_of (run s (named_from serials fixes (n - i) i))) old
    unfolding commands_of run
    commands-done at old = rw (left-none h) (sym (unchanged at old))

-- ---- the loop over the lists: what is left, flown from the state reached and written from the places reached, gives what the whole gives
pub record Underway (serials : List ℕ) (fixes : List Float) (answers₀ : List ℕ) (commands₀ : List Float) (state₀ : State) (answers : List ℕ)
    (commands : List Float) (state : State) (i : ℕ) : Type 0 where
  pub last : last_of state (run state (named_from serials fixes (length serials - i) i)) ≡ last_of state₀ (run state₀ (named_of serials fixes))
  pub answered : splice (8 * i) (answers_of (run state (named_from serials fixes (length serials - i) i))) answers
      ≡ over (answers_of (run state₀ (named_of serials fixes))) answers₀
  pub commanded : splice (6 * i) (commands_of (run state (named_from serials fixes (length serials - i) i))) commands
      ≡ over (commands_of (run state₀ (named_of serials fixes))) commands₀

module _ (serials : List ℕ) (fixes : List Float) (answers₀ : List ℕ) (commands₀ : List Float) (state₀ : State) where
  pub starts : Underway serials fixes answers₀ commands₀ state₀ answers₀ commands₀ state₀ 0
  unfolding named_of
  starts =
      let e : length serials - 0 ≡ length serials = omega arith in
      record {
        last = rw e;
        answered = rw e (at_front (answers_of (run state₀ (named_from serials fixes (length serials) 0))) answers₀);
        commanded = rw e (at_front (commands_of (run state₀ (named_from serials fixes (length serials) 0))) commands₀);
      }

  module _ (answers : List ℕ) (commands : List Float) (state : State) (i : ℕ) (u : Underway serials fixes answers₀ commands₀ state₀ answers commands state i) where
    pub goes_on : (x : Stepped) (next : List ℕ) (more : List Float) → i < length serials → x ≡ step_by state (named_at serials fixes i)
        → 8 * i ≤ length answers → next ≡ splice (8 * i) (answer_words x.answer) answers
        → 6 * i ≤ length commands → more ≡ splice (6 * i) (command_numbers x.answer.command) commands
        → Underway serials fixes answers₀ commands₀ state₀ next more x.state (i + 1)
    goes_on x next more h e al a cl m =
        record {
          last = last_on serials fixes (length serials) i state x h e ∙ u.last;
          answered = answers-on serials fixes (length serials) i state x h e answers next al a ∙ u.answered;
          commanded = commands-on serials fixes (length serials) i state x h e commands more cl m ∙ u.commanded;
        }

    module _ (h : length serials ≤ i) where
      pub last-is : state ≡ last_of state₀ (run state₀ (named_of serials fixes))
      last-is = last_done serials fixes (length serials) i state h ∙ u.last

      pub answers-are : answers ≡ over (answers_of (run state₀ (named_of serials fixes))) answers₀
      answers-are = answers-done serials fixes (length serials) i state h (8 * i) answers ∙ u.answered

      pub commands-are : commands ≡ over (commands_of (run state₀ (named_of serials fixes))) commands₀
      commands-are = commands-done serials fixes (length serials) i state h (6 * i) commands ∙ u.commanded

-- ---- the tests of `fits`
same_test : (n c m d : ℕ) → (n ≤ c → m ≤ d) → (m ≤ d → n ≤ c) → leb n c ≡ leb m d
same_test n c m d f g =
    by_bool (leb n c) (λ t. t ∙ sym (le-leb m d (f (leb-true n c t))))
    (λ t. t ∙ sym (lt-leb m d (let l = leb-false n c t in by_bool (leb m d) (λ u. let k = g (leb-true m d u) in absurd (omega arith)) (λ u. leb-false m d u))))

thirds : (n f : ℕ) → (eqb (f % 3) 0 && eqb (f / 3) n) ≡ eqb f (3 * n)
thirds n f =
    by_bool (eqb f (3 * n))
    (λ t. let e = eqb-true f (3 * n) t in rw (eq-eqb (f % 3) 0 (omega arith), eq-eqb (f / 3) n (omega arith)) (sym t))
    (λ t.
    let ne = eqb-false f (3 * n) t in
    by_bool (eqb (f % 3) 0) (λ z. let m = eqb-true (f % 3) 0 z in rw (z, ne_eqb (f / 3) n (λ q. ne (omega arith))) (sym t)) (λ z. rw z (sym t)))

in_turn : (p q r : Bool) → ((p && q) && r) ≡ both p (both q r)
unfolding both
in_turn true true r = refl
in_turn true false r = refl
in_turn false q r = refl

-- divided, and one after the other
pub divided : (n f a c : ℕ) → fits_of n f a c ≡ (((eqb (f % 3) 0 && eqb (f / 3) n) && leb n (a / 8)) && leb n (c / 6))
unfolding fits_of
divided n f a c =
    let words = same_test n (a / 8) (8 * n) a (λ l. omega arith) (λ l. omega arith) in
    let numbers = same_test n (c / 6) (6 * n) c (λ l. omega arith) (λ l. omega arith) in
    rw (thirds n f, words, numbers) (sym (in_turn _ _ _))
