-- Words that hold a state are put back as they were, also where only the progress is put; a state that is put and taken is the same state.
-- Assumes nothing.
use mathlib.Core.Path.{◌≡◌, refl, sym, ap, ◌∙◌}
use mathlib.Core.Bool.{Bool, true, false}
use mathlib.Core.List.{List, [], ◌∷◌, ◌++◌, append_assoc}
use Prim.Native.Nat.{ℕ, zero, suc, ◌+◌, ◌-◌, ◌≤◌, ◌<◌}
use native.Mathlib.Numerals.{add-one}
use native.Mathlib.Omega.{arith}
use lib.Dec.{eqb}
use lib.IntN.{ℤ, pos}
use lib.ListN.{length, take, drop, replicate, length-append, length-drop}
use lib.Seq.{length-take-le, take_at, drop_at, drop-cons, drop-drop, take-add}
use mir.Facts.{Fits-of_z}
use borrow.Author.Tests.{lt-ltb, le-leb}
use Rattle.conditions.specs.Choose.{choose}
use Rattle.conditions.proofs.Bools.{both_true}
use Rattle.integers.specs.TwosComplement.{signed_of, unsigned_of}
use Rattle.integers.proofs.TwosComplementLaws.{signed-unsigned, unsigned_signed}
use Rattle.refusals.specs.Numbers.{no_state}
use Rattle.refusals.specs.Outcome.{good}
use Rattle.refusals.proofs.OutcomeLaws.{check-true}
use Rattle.buffers.specs.Splice.{over, splice}
use Rattle.buffers.proofs.SpliceLaws.{put-there, followed}
use Rattle.plan.specs.declared.Mode.{Mode}
use Rattle.plan.specs.declared.Mode.TheVariants.{Lines, Fillets, Dubins}
use Rattle.plan.specs.declared.Head.{Head}
use Rattle.plan.specs.declared.Plan.{Plan}
use Rattle.plan.specs.Limits.{most_points}
use Rattle.plan.specs.Places.{number_at, seen, numbers_of, Filled}
use Rattle.manager.specs.declared.Progress.{Progress}
use Rattle.manager.specs.declared.State.{State}
use Rattle.manager.specs.State.{empty_state}
use Rattle.c_answer.specs.Words.{word_of, flag_of}
use Rattle.c_answer.proofs.WordLaws.{word_kept}
use Rattle.c_state.specs.Stored.{serial_place, mode_place, radius_place, count_place, index_place, phase_place, finished_place, norths_place, easts_place, downs_place, courses_place, state_length, mode_word, mode_at, head_words, progress_words, state_words, word_at, head_at, progress_at, part, plan_at, state_at, holds_state, taken_of, AreWords, Storable}
use Rattle.c_state.proofs.HoldsLaws.{holds-means}

-- ---- the words of a mode and of a flag, there and back
mode-word : (n : ℕ) → n ≤ 2 → mode_word (mode_at n) ≡ n
unfolding mode_word mode_at choose
mode-word zero h = refl
mode-word (suc zero) h = refl
mode-word (suc (suc zero)) h = refl
mode-word (suc (suc (suc n))) h = absurd (omega arith)

word-mode : (m : Mode) → mode_at (mode_word m) ≡ m
unfolding mode_word mode_at choose
word-mode Lines = refl
word-mode Fillets = refl
word-mode Dubins = refl

mode-most : (m : Mode) → mode_word m ≤ 2
unfolding mode_word
mode-most Lines = omega arith
mode-most Fillets = omega arith
mode-most Dubins = omega arith

flag_word : (n : ℕ) → n ≤ 1 → flag_of (eqb n 1) ≡ n
unfolding flag_of
flag_word zero h = refl
flag_word (suc zero) h = refl
flag_word (suc (suc n)) h = absurd (omega arith)

word-flag : (b : Bool) → eqb (flag_of b) 1 ≡ b
unfolding flag_of
word-flag true = refl
word-flag false = refl

flag-most : (b : Bool) → flag_of b ≤ 1
unfolding flag_of
flag-most true = omega arith
flag-most false = omega arith

-- ---- whole words
pub empty-words : state_words empty_state ≡ replicate state_length (pos 0)
unfolding state_words mode_word word_of flag_of
empty-words = refl

pub words-length : (s : State) → Filled s.plan → length (state_words s) ≡ state_length
unfolding state_words
words-length s w = simp length-append (omega (arith, w.north, w.east, w.down, w.course))

-- the blocks that a part brings back, and then the words before them
pub whole-put : (s : State) → Filled s.plan → (ws : List ℤ) {back now : List ℤ} → norths_place ≤ length ws → back ≡ numbers_of s.plan
    → now ≡ over (head_words s.plan.head ++ progress_words s.progress) (take norths_place ws ++ (back ++ drop (state_length - norths_place) (drop norths_place ws)))
    → now ≡ over (state_words s) ws
unfolding state_words
whole-put s w ws {back} l e f =
    let h = head_words s.plan.head ++ progress_words s.progress in
    let rest = back ++ drop (state_length - norths_place) (drop norths_place ws) in
    let n : length (take norths_place ws) ≡ norths_place = length-take-le norths_place ws l in
    f
    ∙ ap (λ (l : List ℤ). h ++ l) (drop_at (take norths_place ws) rest norths_place n)
    ∙ (λ t. h ++ (e t ++ drop-drop (state_length - norths_place) norths_place ws t))
    ∙ sym (append_assoc h (numbers_of s.plan) (drop state_length ws))
    ∙ ap (λ (k : ℕ). state_words s ++ drop k ws) (sym (words-length s w))

-- ---- words by their places
module _ (ws : List ℤ) where
  -- k of them
  abbrev from : ℕ → ℕ → List ℤ
  from zero at = []
  from (suc k) at = number_at ws at ∷ from k (at + 1)

  some : (k at : ℕ) → at + k ≤ length ws → from k at ≡ take k (drop at ws)
  some zero at h = refl
  some (suc k) at h =
      ap (λ (l : List ℤ). number_at ws at ∷ l) (some k (at + 1) (omega arith)) ∙ sym (rw (add-one, drop-cons ws at (pos 0) (omega arith)))

  -- a block and m words behind it
  joined : (at m : ℕ) → part at ws ++ take m (drop (at + most_points) ws) ≡ take (most_points + m) (drop at ws)
  joined at m = sym (take-add most_points m (drop at ws) ∙ ap (λ (l : List ℤ). part at ws ++ take m l) (drop-drop most_points at ws))

  numbers-there : numbers_of (plan_at ws) ≡ take (state_length - norths_place) (drop norths_place ws)
  numbers-there =
      ap (λ (l : List ℤ). part norths_place ws ++ (part easts_place ws ++ l)) (joined downs_place most_points)
      ∙ ap (λ (l : List ℤ). part norths_place ws ++ l) (joined easts_place (most_points + most_points))
      ∙ joined norths_place (most_points + (most_points + most_points))

  module _ (long : state_length ≤ length ws) where
    whole : (at : ℕ) → at ≤ courses_place → length (part at ws) ≡ most_points
    whole at l = length-take-le most_points (drop at ws) (simp length-drop (omega arith))

    pub blocks-lent : (h : Head) → Filled (seen h (part norths_place ws) (part easts_place ws) (part downs_place ws) (part courses_place ws))
    blocks-lent h = record { north = whole norths_place (omega arith); east = whole easts_place (omega arith); down = whole downs_place (omega arith); course = whole courses_place (omega arith) }

  -- ---- words that hold a state, and another progress of its plan
  module _ (m n : ℕ) (words : AreWords m n ws) where
    back : (i : ℕ) → m ≤ i → i < n → signed_of (word_at ws i) ≡ number_at ws i
    unfolding word_at
    back i k l = signed-unsigned _ (words i k l)

    count-back : (i : ℕ) → m ≤ i → i < n → signed_of (word_of (word_at ws i)) ≡ number_at ws i
    unfolding word_at
    count-back i k l = ap signed_of (word_kept (unsigned_of (number_at ws i)) (Fits-of_z (words i k l)).fits) ∙ signed-unsigned _ (words i k l)

  module _ (long : state_length ≤ length ws) (h : holds_state ws ≡ true) where
    head-there : AreWords serial_place index_place ws → head_words (head_at ws) ≡ take index_place ws
    head-there words =
        (λ t.
        back 0 4 words 0 (omega arith) (omega arith) t
        ∷ (ap signed_of (mode-word (word_at ws 1) (holds-means ws h).mode) ∙ back 0 4 words 1 (omega arith) (omega arith)) t
        ∷ back 0 4 words 2 (omega arith) (omega arith) t
        ∷ count-back 0 4 words 3 (omega arith) (omega arith) t
        ∷ [])
        ∙ some 4 0 (omega arith)

    progress-there : AreWords index_place norths_place ws → progress_words (progress_at ws) ≡ take 3 (drop index_place ws)
    progress-there words =
        (λ t.
        count-back 4 7 words 4 (omega arith) (omega arith) t
        ∷ back 4 7 words 5 (omega arith) (omega arith) t
        ∷ (ap signed_of (flag_word (word_at ws 6) (holds-means ws h).finished) ∙ back 4 7 words 6 (omega arith) (omega arith)) t
        ∷ [])
        ∙ some 3 index_place (omega arith)

    pub progress-is : AreWords serial_place index_place ws → (p : Progress)
        → splice index_place (progress_words p) ws ≡ over (state_words (record { plan = plan_at ws; progress = p })) ws
    unfolding state_words
    progress-is words p =
        let new = progress_words p in
        let n : length (take index_place ws ++ new) ≡ norths_place
        = length-append (take index_place ws) new ∙ ap (λ (k : ℕ). k + 3) (length-take-le index_place ws (omega arith)) in
        sym ((λ t. over (head-there words t ++ (new ++ numbers-there t)) ws)
        ∙ ap (λ (l : List ℤ). over l ws) (sym (append_assoc (take index_place ws) new _))
        ∙ followed norths_place (state_length - norths_place) (take index_place ws ++ new) ws n (omega arith)
        ∙ append_assoc (take index_place ws) new (drop norths_place ws))

    pub put_back : AreWords serial_place index_place ws → AreWords index_place norths_place ws → over (state_words (state_at ws)) ws ≡ ws
    put_back first words =
        sym (progress-is first (progress_at ws))
        ∙ ap (λ (l : List ℤ). splice index_place l ws) (progress-there words)
        ∙ put-there index_place 3 ws (omega arith)

    -- and the state that they hold is one that words can keep
    below : {m n : ℕ} → AreWords m n ws → (i : ℕ) → m ≤ i → i < n → word_at ws i < 4294967296
    unfolding word_at
    below words i k l = (Fits-of_z (words i k l)).fits

    pub held-storable : AreWords serial_place index_place ws → AreWords index_place norths_place ws → Storable (state_at ws)
    held-storable first words =
        record {
          serial = below first serial_place (omega arith) (omega arith);
          radius = (holds-means ws h).radius;
          count = below first count_place (omega arith) (omega arith);
          index = below words index_place (omega arith) (omega arith);
          phase = (holds-means ws h).phase;
          filled = blocks-lent long (head_at ws);
        }

-- ---- a state in words, and whatever stands behind it
module _ (all : List ℤ) where
  found : {at : ℕ} (before block rest : List ℤ) → all ≡ before ++ (block ++ rest) → length before ≡ at → length block ≡ most_points → part at all ≡ block
  found {at} before block rest e f g = rw (e, drop_at before (block ++ rest) at f) (take_at block rest most_points g)

module _ (h : List ℤ) (p : Plan) (w : Filled p) (behind : List ℤ) (e : length h ≡ norths_place) where
  abbrev all : List ℤ
  all = (h ++ numbers_of p) ++ behind

  abbrev up_to1 : List ℤ
  up_to1 = h ++ p.norths

  abbrev up_to2 : List ℤ
  up_to2 = up_to1 ++ p.easts

  abbrev up_to3 : List ℤ
  up_to3 = up_to2 ++ p.downs

  blocks-back : (g : Head) → seen g (part norths_place all) (part easts_place all) (part downs_place all) (part courses_place all) ≡ seen g p.norths p.easts p.downs p.courses
  blocks-back g =
      let l1 : length up_to1 ≡ easts_place = simp length-append (omega (arith, e, w.north)) in
      let l2 : length up_to2 ≡ downs_place = simp length-append (omega (arith, e, w.north, w.east)) in
      let l3 : length up_to3 ≡ courses_place = simp length-append (omega (arith, e, w.north, w.east, w.down)) in
      λ t. seen g (found all h p.norths ((p.easts ++ (p.downs ++ p.courses)) ++ behind) (simp append_assoc) e w.north t)
      (found all up_to1 p.easts ((p.downs ++ p.courses) ++ behind) (simp append_assoc) l1 w.east t)
      (found all up_to2 p.downs (p.courses ++ behind) (simp append_assoc) l2 w.down t)
      (found all up_to3 p.courses behind (simp append_assoc) l3 w.course t)

same_count : (n : ℕ) → n < 4294967296 → unsigned_of (signed_of (word_of n)) ≡ n
same_count n h = let k = word_kept n h in unsigned_signed (word_of n) (rw k h) ∙ k

module _ (s : State) (fits : Storable s) (behind : List ℤ) where
  abbrev stored : List ℤ
  stored = state_words s ++ behind

  mode-back : word_at stored mode_place ≡ mode_word s.plan.head.mode
  unfolding state_words word_at
  mode-back = unsigned_signed (mode_word s.plan.head.mode) (omega (arith, mode-most s.plan.head.mode))

  radius-back : word_at stored radius_place ≡ s.plan.head.radius
  unfolding state_words word_at
  radius-back = unsigned_signed s.plan.head.radius (omega (arith, fits.radius))

  phase-back : word_at stored phase_place ≡ s.progress.phase
  unfolding state_words word_at
  phase-back = unsigned_signed s.progress.phase (omega (arith, fits.phase))

  flag-back : word_at stored finished_place ≡ flag_of s.progress.finished
  unfolding state_words word_at
  flag-back = unsigned_signed (flag_of s.progress.finished) (omega (arith, flag-most s.progress.finished))

  head-back : head_at stored ≡ s.plan.head
  unfolding state_words word_at
  head-back =
      λ t. record {
        serial = unsigned_signed s.plan.head.serial fits.serial t;
        mode = (ap mode_at mode-back ∙ word-mode s.plan.head.mode) t;
        radius = radius-back t;
        count = same_count s.plan.head.count fits.count t;
      }

  progress-back : progress_at stored ≡ s.progress
  unfolding state_words word_at
  progress-back =
      λ t. record {
        index = same_count s.progress.index fits.index t;
        phase = phase-back t;
        finished = (ap (λ (n : ℕ). eqb n 1) flag-back ∙ word-flag s.progress.finished) t;
      }

  state-back : state_at stored ≡ s
  unfolding state_words
  state-back =
      let p = s.plan in
      (λ t. record { plan = blocks-back (head_words p.head ++ progress_words s.progress) p fits.filled behind refl (head_at stored) t; progress = progress_at stored })
      ∙ (λ t. record { plan = seen (head-back t) p.norths p.easts p.downs p.courses; progress = progress-back t })

  holds-back : holds_state stored ≡ true
  unfolding holds_state
  holds-back =
      both_true _ _ (le-leb (word_at stored mode_place) 2 (rw mode-back (mode-most s.plan.head.mode)))
      (both_true _ _ (lt-ltb (word_at stored radius_place) 65536 (rw radius-back fits.radius))
      (both_true _ _ (lt-ltb (word_at stored phase_place) 256 (rw phase-back fits.phase))
      (le-leb (word_at stored finished_place) 1 (rw flag-back (flag-most s.progress.finished)))))

pub taken_back : (s : State) (ws : List ℤ) → Storable s → taken_of (over (state_words s) ws) ≡ good s
unfolding taken_of
taken_back s ws fits =
    let behind = drop (length (state_words s)) ws in
    let all = state_words s ++ behind in
    check-true (holds_state all) no_state (good (state_at all)) (holds-back s fits behind) ∙ ap good (state-back s fits behind)
