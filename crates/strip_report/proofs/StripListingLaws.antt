-- The lines of a state's strips, strip by strip; no state has more than there is room for; what the check of a loaded state says; and that one
-- text alone is the strip listing of a file. Assumes nothing.
use mathlib.Core.Path.{◌≡◌, refl, sym, ap, ◌∙◌, subst}
use mathlib.Core.Bool.{true, false}
use mathlib.Core.List.{List, ◌++◌}
use mathlib.Core.Logic.{⊎_elim}
use Prim.Native.Nat.{ℕ, ◌+◌, ◌*◌, ◌≤◌, ◌<◌}
use native.Mathlib.Numerals.{add-one}
use native.Mathlib.Omega.{arith}
use lib.Dec.{eqb, ltb}
use borrow.Author.Tests.{ltb-true, ltb-false, eqb-true, eqb-false, eq-eqb, ne_eqb}
use Rattle.std.proofs.Common.{Ok, Err}
use Rattle.std.specs.Result.{is_ok}
use Rattle.conditions.proofs.Bools.{by_bool, clash}
use Rattle.conditions.proofs.ChooseLaws.{choose-true, choose-false}
use Rattle.refusals.specs.Outcome.{Outcome, good, refused}
use Rattle.refusals.specs.Sweep.{Done}
use Rattle.text.specs.Parts.{refusal_text}
use Rattle.text.specs.declared.Text.{Text}
use Rattle.text.specs.Added.{Fits, AtMost, Added}
use Rattle.text.proofs.AddedLaws.{nothing, joined}
use Rattle.manager.specs.declared.State.{State}
use Rattle.manager.specs.State.{valid_of}
use Rattle.manager.proofs.StateLaws.{valid-means}
use Rattle.records.specs.Versions.{newest}
use Rattle.wpl.specs.declared.Loaded.{Loaded}
use Rattle.wpl.specs.Header.{version_of}
use Rattle.wpl.specs.Load.{load_of, loaded_of}
use Rattle.wpl.specs.Starts.{GivenByLoad}
use Rattle.wpl.proofs.GivenLaws.{load-numbers}
use Rattle.wpl.proofs.StartLaws.{load-valid}
use Rattle.strips.specs.declared.Fault.{Fault}
use Rattle.strips.specs.declared.Strip.{Strip}
use Rattle.strips.specs.Strips.{strips_in, StripPlan}
use Rattle.strips.specs.Check.{Checked, refused_check, paired_of, fault_check, check_of, checked_as, numbered, strip_row}
use Rattle.strips.proofs.CheckLaws.{check-unpaired, check-paired, told}
use Rattle.strips.proofs.RowLaws.{counts}
use Rattle.strips.proofs.TiedLaws.{tied}
use Rattle.report.specs.Listing.{newline}
use Rattle.strip_report.specs.StripListing.{strip_line, strip_lines_to, strips_text, fault_text, checked_text, loaded_strips, strip_listing_of, StripsListed, OneListing}
use Rattle.strip_report.specs.Holds.{StripListingHolds}
use Rattle.strip_report.proofs.Anchors.{strip-listing-holds}

-- ---- line by line
lines_next : (s : State) (i : ℕ) → strip_lines_to s (i + 1) ≡ strip_lines_to s i ++ strip_line (strip_row s (i + 1))
unfolding strip_lines_to
lines_next s i = rw add-one

-- before line i of n
pub record Underway (s : State) (n : ℕ) (old now : Text) (i : ℕ) : Type 0 where
  pub inside : i ≤ n
  pub done : Added (strip_lines_to s i) old now
  pub short : AtMost (63 * i) old now

module _ (s : State) (n : ℕ) (old : Text) (room : Fits (63 * n) old) where
  pub starts : Underway s n old old 0
  unfolding strip_lines_to
  starts = record { inside = omega arith; done = nothing old (omega (arith, room)); short = omega arith }

  module _ (now : Text) (i : ℕ) (u : Underway s n old now i) where
    pub goes_on : (new : Text) → i < n → {row : Strip} → row ≡ strip_row s (i + 1) → Added (strip_line row) now new × AtMost 63 now new
        → Underway s n old new (i + 1)
    goes_on new h {row} e w =
        let v : Added (strip_line (strip_row s (i + 1))) now new = rw (← e) w.0 in
        record {
          inside = omega arith;
          done = rw (lines_next s i) (joined u.done v);
          short = omega (arith, u.short, w.1);
        }

-- ---- half as many strips as points at most
pub few-strips : (s : State) → (check_of s).strips ≤ 32
few-strips s =
    by_bool (ltb 0 (check_of s).strips)
    (λ t. let c = counts s (ltb-true 0 (check_of s).strips t) in omega (arith, c.most, (valid-means s c.sound).stands.most))
    (λ t. omega (arith, ltb-false 0 (check_of s).strips t))

-- ---- a check that passes, and one that is refused
module _ (version : ℕ) (s : State) (x : Checked) where
  pub text-passes : x.refusal ≡ 0 → checked_text version s x ≡ strips_text version s x.strips
  unfolding checked_text
  text-passes h = choose-true _ _ _ (eq-eqb x.refusal 0 h)

  pub text-faults : (x.refusal ≡ 0 → ⊥) → checked_text version s x ≡ fault_text x
  unfolding checked_text
  text-faults h = choose-false _ _ _ (ne_eqb x.refusal 0 h)

-- by what the check of a state answers
module _ (version : ℕ) (s : State) where
  checked_as-refuses : {f : Fault} → Err f ≡ checked_as (check_of s) → f.refusal ≡ 0 → ⊥
  unfolding checked_as
  checked_as-refuses e z =
      let n : (check_of s).refusal ≡ 0 = sym (ap (λ (x : Checked). x.refusal) (told s e)) ∙ z in
      clash false (ap is_ok (e ∙ choose-true _ _ _ (eq-eqb (check_of s).refusal 0 n))) refl

  pub text-strips : {strips : ℕ} → Ok strips ≡ checked_as (check_of s) → checked_text version s (check_of s) ≡ strips_text version s strips
  text-strips {strips} e = ap (checked_text version s) (sym (told s e)) ∙ text-passes version s (numbered (Ok strips)) refl

  pub text-fault : {f : Fault} → Err f ≡ checked_as (check_of s) → checked_text version s (check_of s) ≡ fault_text (refused_check f.refusal f.place f.rule)
  text-fault {f} e = ap (checked_text version s) (sym (told s e)) ∙ text-faults version s (numbered (Err f)) (checked_as-refuses e)

-- ---- a file that loads, and one that is refused
module _ (version : ℕ) (x : Loaded) where
  pub strips-loaded : x.refusal ≡ 0 → loaded_strips version x ≡ checked_text version x.state (check_of x.state)
  unfolding loaded_strips
  strips-loaded h = choose-true _ _ _ (eq-eqb x.refusal 0 h)

  pub strips-refused : (x.refusal ≡ 0 → ⊥) → loaded_strips version x ≡ refusal_text x.refusal x.place ++ newline
  unfolding loaded_strips
  strips-refused h = choose-false _ _ _ (ne_eqb x.refusal 0 h)

-- ---- a load that is refused has a number
not-nought : {number : ℕ} → GivenByLoad number → number ≡ 0 → ⊥
not-nought g z = ⊎_elim (λ k. omega (arith, k.0, z)) (λ k. omega (arith, k, z)) g

-- ---- what the check of a loaded state says, and with it the strip listing of its file
abbrev Faulty : Checked → Type 0
Faulty x = (x.refusal ≡ 0 → ⊥) → x ≡ refused_check 18 x.place x.rule

fault-number : (n : ℕ) (o : Outcome Done) → Faulty (fault_check n o)
unfolding fault_check
fault-number n (good d) h = absurd (h refl)
fault-number n (refused rule j) h = refl

check-number : (s : State) → valid_of s ≡ true → Faulty (check_of s)
check-number s v =
    by_bool (paired_of s.plan.head.mode s.plan.head.count)
    (λ p. subst Faulty (sym (check-paired s v p)) (fault-number _ _))
    (λ p. subst Faulty (sym (check-unpaired s v p)) (λ _. refl))

module _ (file : List ℕ) (s : State) (loads : load_of newest file ≡ good s) where
  listed-check : strip_listing_of file ≡ checked_text (version_of file) s (check_of s)
  unfolding strip_listing_of loaded_of
  listed-check = ap (λ (o : Outcome State). loaded_strips (version_of file) (loaded_of o)) loads ∙ strips-loaded (version_of file) (loaded_of (good s)) refl

  valid : valid_of s ≡ true
  valid = load-valid newest file s loads

  listed-strips : StripPlan s.plan → strip_listing_of file ≡ strips_text (version_of file) s (strips_in s.plan.head.count)
  listed-strips p =
      let x = (tied s).passes valid p in
      listed-check ∙ text-passes (version_of file) s (check_of s) (ap (λ (c : Checked). c.refusal) x)
      ∙ ap (λ (c : Checked). strips_text (version_of file) s c.strips) x

  listed-fault : (StripPlan s.plan → ⊥) → strip_listing_of file ≡ fault_text (refused_check 18 (check_of s).place (check_of s).rule)
  listed-fault n =
      let z : (check_of s).refusal ≡ 0 → ⊥ = λ h. n ((tied s).means h).1 in
      listed-check ∙ text-faults (version_of file) s (check_of s) z ∙ ap fault_text (check-number s valid z)

module _ (file : List ℕ) where
  listed-refused : (number place : ℕ) → load_of newest file ≡ refused number place → strip_listing_of file ≡ refusal_text number place ++ newline
  unfolding strip_listing_of loaded_of
  listed-refused number place e =
      ap (λ (o : Outcome State). loaded_strips (version_of file) (loaded_of o)) e
      ∙ strips-refused (version_of file) (loaded_of (refused number place)) (λ z. not-nought (load-numbers newest file number place e) z)

  listed : StripsListed file (strip_listing_of file)
  listed = record { strips = listed-strips file; others = listed-fault file; refusal = listed-refused }

  -- ---- one text alone
  module _ (text : List ℕ) (l : StripsListed file text) where
    by-load : (o : Outcome State) → load_of newest file ≡ o → text ≡ strip_listing_of file
    by-load (good s) e =
        by_bool (eqb (check_of s).refusal 0)
        (λ t.
        let p = ((tied s).means (eqb-true (check_of s).refusal 0 t)).1 in
        l.strips s e p ∙ sym (listed-strips file s e p))
        (λ t.
        let n : StripPlan s.plan → ⊥ = λ p. eqb-false (check_of s).refusal 0 t (ap (λ (c : Checked). c.refusal) ((tied s).passes (valid file s e) p)) in
        l.others s e n ∙ sym (listed-fault file s e n))
    by-load (refused number place) e = l.refusal number place e ∙ sym (listed-refused number place e)

one-listing : OneListing
one-listing file a b l m = by-load file a l (load_of newest file) refl ∙ sym (by-load file b m (load_of newest file) refl)

-- ---- what the promise says besides
pub holds : (file : List ℕ) → StripsListed file (strip_listing_of file) × (OneListing × StripListingHolds)
holds file = (listed file, (one-listing, strip-listing-holds))
