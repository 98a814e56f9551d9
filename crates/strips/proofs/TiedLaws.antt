-- The check says what the definition of a strip plan says, both ways, and no other answer does. Assumes nothing.
use mathlib.Core.Path.{◌≡◌, refl, sym, ap, ◌∙◌, subst}
use mathlib.Core.Bool.{true}
use lib.Dec.{ltb}
use Prim.Native.Nat.{ℕ, ◌+◌, ◌-◌, ◌%◌, ◌≤◌, ◌<◌}
use native.Mathlib.Omega.{arith}
use borrow.Author.Tests.{eq-eqb, ltb-true, ltb-false}
use Rattle.conditions.proofs.Bools.{by_bool, clash, both_true}
use Rattle.refusals.specs.Outcome.{Outcome, good, refused, is_good}
use Rattle.refusals.specs.Sweep.{Done, done}
use Rattle.refusals.proofs.OutcomeLaws.{never-good}
use Rattle.refusals.proofs.OrderLaws.{order}
use Rattle.refusals.proofs.FoundLaws.{found_of}
use Rattle.refusals.proofs.SweepLaws.{sweep-means}
use Rattle.course.specs.Bearing.{bearing_of}
use Rattle.plane.specs.declared.Point.{Point}
use Rattle.plan.specs.declared.Plan.{Plan}
use Rattle.plan.specs.Places.{plan_point, plan_course}
use Rattle.manager.specs.declared.State.{State}
use Rattle.manager.specs.State.{valid_of}
use Rattle.strips.specs.Strips.{first_place, last_place, strips_in, strip_leg, Opposed, Keeps, Paired, StripPlan, FirstFault}
use Rattle.strips.specs.Check.{Checked, rule_broken, rule_at, fault_of, refused_check, is_dubins, paired_of, fault_check, check_of, Tied, OneAnswer}
use Rattle.strips.proofs.RuleLaws.{Judged, breaks1, breaks2, breaks3, breaks0, judged}
use Rattle.strips.proofs.CheckLaws.{check-unsound, check-unpaired, check-paired}
use Rattle.strips.proofs.ThereLaws.{paired-mode, paired-even}

-- ---- one strip
module _ (at : ℕ → Point) (course : ℕ → ℕ) (j : ℕ) where
  -- the rules below a limit, from what they say
  below : (limit : ℕ) → limit ≤ 3 → (1 < limit → course (first_place j) ≡ course (last_place j)) → (2 < limit → course (first_place j) ≡ bearing_of (strip_leg at j))
      → (rule : ℕ) → rule < limit → Keeps rule at course j
  below limit m e b rule l =
      record {
        equal = λ r. e (omega (arith, r, l));
        along = λ r. let k = b (omega (arith, r, l)) in (k, sym (e (omega (arith, r, l))) ∙ k);
        against = λ r. absurd (omega (arith, r, l, m));
      }

  -- the rule that is broken, and those before it
  record Breaks (rule : ℕ) : Type 0 where
    named : (1 ≤ rule) × (rule ≤ 3)
    broken : Keeps rule at course j → ⊥
    rules : (earlier : ℕ) → earlier < rule → Keeps earlier at course j

  breaks : Judged at course j → (rule_broken at course j ≡ 0 → ⊥) → Breaks (rule_broken at course j)
  breaks (breaks1 r n) h =
      subst Breaks (sym r) (record {
        named = (omega arith, omega arith);
        broken = λ k. n (k.equal refl);
        rules = below 1 (omega arith) (λ l. absurd (omega (arith, l))) (λ l. absurd (omega (arith, l)));
      })
  breaks (breaks2 r e n) h =
      subst Breaks (sym r) (record {
        named = (omega arith, omega arith);
        broken = λ k. n (k.along refl).0;
        rules = below 2 (omega arith) (λ l. e) (λ l. absurd (omega (arith, l)));
      })
  breaks (breaks3 r e b l n) h =
      subst Breaks (sym r) (record {
        named = (omega arith, omega arith);
        broken = λ k. n (k.against refl l).0;
        rules = below 3 (omega arith) (λ m. e) (λ m. b);
      })
  breaks (breaks0 r e b o) h = absurd (h r)

  -- a strip that breaks none has one course
  one-course : Judged at course j → rule_broken at course j ≡ 0 → course (first_place j) ≡ course (last_place j)
  one-course (breaks1 r n) z = absurd (omega (arith, r, z))
  one-course (breaks2 r e n) z = e
  one-course (breaks3 r e b l n) z = e
  one-course (breaks0 r e b o) z = e

  -- and keeps every rule, where the strip before it has one course too
  keeps : Judged at course j → rule_broken at course j ≡ 0 → (2 ≤ j → course (first_place (j - 1)) ≡ course (last_place (j - 1)))
      → (rule : ℕ) → Keeps rule at course j
  keeps (breaks1 r n) z f rule = absurd (omega (arith, r, z))
  keeps (breaks2 r e n) z f rule = absurd (omega (arith, r, z))
  keeps (breaks3 r e b l n) z f rule = absurd (omega (arith, r, z))
  keeps (breaks0 r e b o) z f rule =
      record {
        equal = λ _. e;
        along = λ _. (b, sym e ∙ b);
        against = λ _ l. (o l, subst (λ (χ : ℕ). Opposed χ (course (last_place (j - 1)))) e (subst (λ (ψ : ℕ). Opposed (course (first_place j)) ψ) (f l) (o l)));
      }

  -- a strip that keeps every rule breaks none
  kept : Judged at course j → ((rule : ℕ) → Keeps rule at course j) → rule_broken at course j ≡ 0
  kept (breaks1 r n) k = absurd (n ((k 1).equal refl))
  kept (breaks2 r e n) k = absurd (n ((k 2).along refl).0)
  kept (breaks3 r e b l n) k = absurd (n ((k 3).against refl l).0)
  kept (breaks0 r e b o) k = r

-- ---- all strips before one
module _ (at : ℕ → Point) (course : ℕ → ℕ) where
  -- strips are counted from 1, places of a sweep from 0
  number : (j : ℕ) → 1 ≤ j → rule_at at course (j - 1) ≡ 0 → rule_broken at course j ≡ 0
  number j l h = let e : j - 1 + 1 ≡ j = omega arith in subst (λ (k : ℕ). rule_broken at course k ≡ 0) e h

  all_keep : (m : ℕ) → ((i : ℕ) → i < m → rule_at at course i ≡ 0) → (j : ℕ) → 1 ≤ j → j ≤ m → (rule : ℕ) → Keeps rule at course j
  all_keep m h j a b =
      keeps at course j (judged at course j) (number j a (h (j - 1) (omega arith)))
      (λ l. one-course at course (j - 1) (judged at course (j - 1)) (number (j - 1) (omega arith) (h (j - 1 - 1) (omega arith))))

  module _ (n : ℕ) where
    -- no strip is at fault
    clean : fault_of at course n ≡ good done → (j : ℕ) → 1 ≤ j → j ≤ strips_in n → (rule : ℕ) → Keeps rule at course j
    unfolding fault_of is_good
    clean h = all_keep (strips_in n) (λ i l. sweep-means (rule_at at course) (strips_in n - 0) 0 (ap is_good h) i (omega arith) (omega (arith, l)))

    all-clean : ((j : ℕ) → 1 ≤ j → j ≤ strips_in n → (rule : ℕ) → Keeps rule at course j) → fault_of at course n ≡ good done
    unfolding fault_of
    all-clean k =
        (order.lowest (strips_in n - 0) 0).none (rule_at at course) (λ i a b. kept at course (i + 1) (judged at course (i + 1)) (k (i + 1) (omega arith) (omega (arith, b))))

    -- one is
    fault : (rule j : ℕ) → fault_of at course n ≡ refused rule j → FirstFault at course n j rule
    unfolding fault_of
    fault rule j h =
        let f = found_of (rule_at at course) (strips_in n - 0) 0 rule j h in
        let e : j - 1 + 1 ≡ j = omega (arith, f.low) in
        let v : rule_broken at course j ≡ rule = subst (λ (k : ℕ). rule_broken at course k ≡ rule) e f.value in
        let b = subst (Breaks at course j) v (breaks at course j (judged at course j) (λ z. f.fails (sym v ∙ z))) in
        record {
          strip = (omega (arith, f.low), omega (arith, f.high));
          named = b.named;
          broken = b.broken;
          rules = b.rules;
          strips = λ i a l. all_keep (j - 1) (λ m k. f.before m (omega arith) (omega (arith, k))) i a (omega (arith, l));
        }

-- ---- a Dubins plan with an even number of points
paired_is : (p : Plan) → Paired p → paired_of p.head.mode p.head.count ≡ true
unfolding paired_of is_dubins
paired_is p h = both_true _ _ (ap is_dubins h.mode) (eq-eqb (p.head.count % 2) 0 h.even)

paired-means : (p : Plan) → paired_of p.head.mode p.head.count ≡ true → Paired p
paired-means p h = record { mode = paired-mode _ _ h; even = paired-even _ _ h }

-- ---- the check
module _ (s : State) where
  abbrev faults : Outcome Done
  faults = fault_of (plan_point s.plan) (plan_course s.plan) s.plan.head.count

  unpaired : valid_of s ≡ true → (Paired s.plan → ⊥) → check_of s ≡ refused_check 18 0 0
  unpaired v n =
      by_bool (paired_of s.plan.head.mode s.plan.head.count) (λ p. absurd (n (paired-means s.plan p))) (λ p. check-unpaired s v p)

  passes : valid_of s ≡ true → StripPlan s.plan → check_of s ≡ record { refusal = 0; place = 0; rule = 0; strips = strips_in s.plan.head.count }
  unfolding fault_check
  passes v p = check-paired s v (paired_is s.plan p.paired) ∙ ap (fault_check s.plan.head.count) (all-clean _ _ _ p.kept)

  -- by what the strips have found
  accepted : (o : Outcome Done) → faults ≡ o → (fault_check s.plan.head.count o).refusal ≡ 0 → faults ≡ good done
  unfolding fault_check
  accepted (good done) e h = e
  accepted (refused rule j) e h = absurd (omega (arith, h))

  means : (check_of s).refusal ≡ 0 → (valid_of s ≡ true) × StripPlan s.plan
  means h =
      by_bool (valid_of s)
      (λ v.
      by_bool (paired_of s.plan.head.mode s.plan.head.count)
      (λ p.
      let k = accepted faults refl (subst (λ (x : Checked). x.refusal ≡ 0) (check-paired s v p) h) in
      (v, record { paired = paired-means s.plan p; kept = clean _ _ _ k }))
      (λ p. absurd (omega (arith, h, ap (λ (x : Checked). x.refusal) (check-unpaired s v p)))))
      (λ v. absurd (omega (arith, h, ap (λ (x : Checked). x.refusal) (check-unsound s v))))

  abbrev Faulty : Checked → Type 0
  Faulty r =
      (r ≡ refused_check 18 r.place r.rule) × FirstFault (plan_point s.plan) (plan_course s.plan) s.plan.head.count r.place r.rule

  refused-by : (o : Outcome Done) → faults ≡ o → (faults ≡ good done → ⊥) → Faulty (fault_check s.plan.head.count o)
  unfolding fault_check
  refused-by (good done) e n = absurd (n e)
  refused-by (refused rule j) e n = (refl, fault _ _ _ rule j e)

  faulty : valid_of s ≡ true → Paired s.plan → (StripPlan s.plan → ⊥) → Faulty (check_of s)
  faulty v p n =
      subst Faulty (sym (check-paired s v (paired_is s.plan p))) (refused-by faults refl (λ g. n (record { paired = p; kept = clean _ _ _ g })))

  pub tied : Tied s (check_of s)
  tied = record { unsound = check-unsound s; unpaired = unpaired; passes = passes; means = means; faults = faulty }

-- ---- one answer alone
module _ {at : ℕ → Point} {course : ℕ → ℕ} {n : ℕ} where
  no-earlier : {j rule k other : ℕ} → FirstFault at course n j rule → FirstFault at course n k other → j < k → ⊥
  no-earlier {j} {rule} f g l = f.broken (g.strips j f.strip.0 l rule)

  same-strip : {j rule k other : ℕ} → FirstFault at course n j rule → FirstFault at course n k other → j ≡ k
  same-strip {j} {rule} {k} f g =
      by_bool (ltb j k)
      (λ t. absurd (no-earlier f g (ltb-true j k t)))
      (λ t. by_bool (ltb k j) (λ u. absurd (no-earlier g f (ltb-true k j u))) (λ u. omega (arith, ltb-false j k t, ltb-false k j u)))

  same-rule : {j rule other : ℕ} → FirstFault at course n j rule → FirstFault at course n j other → rule ≡ other
  same-rule {j} {rule} {other} f g =
      by_bool (ltb rule other)
      (λ t. absurd (f.broken (g.rules rule (ltb-true rule other t))))
      (λ t.
      by_bool (ltb other rule)
      (λ u. absurd (g.broken (f.rules other (ltb-true other rule u))))
      (λ u. omega (arith, ltb-false rule other t, ltb-false other rule u)))

  same-fault : {j rule k other : ℕ} → FirstFault at course n j rule → FirstFault at course n k other → (j ≡ k) × (rule ≡ other)
  same-fault {j} {rule} {k} {other} f g =
      let e = same-strip f g in
      (e, same-rule f (subst (λ (i : ℕ). FirstFault at course n i other) (sym e) g))

module _ (s : State) {r : Checked} (t : Tied s r) where
  found : valid_of s ≡ true → Paired s.plan → (o : Outcome Done) → faults s ≡ o → r ≡ check_of s
  found v p (good done) e =
      let h : StripPlan s.plan = record { paired = p; kept = clean _ _ _ e } in
      t.passes v h ∙ sym (passes s v h)
  found v p (refused rule j) e =
      let n : StripPlan s.plan → ⊥ = λ h. never-good (sym e ∙ all-clean _ _ _ h.kept) in
      let a = t.faults v p n in
      let b = faulty s v p n in
      let u = same-fault a.1 b.1 in
      a.0 ∙ (λ i. refused_check 18 (u.0 i) (u.1 i)) ∙ sym b.0

  fixed : r ≡ check_of s
  fixed =
      by_bool (valid_of s)
      (λ v.
      by_bool (paired_of s.plan.head.mode s.plan.head.count)
      (λ p. found v (paired-means s.plan p) (faults s) refl)
      (λ p. t.unpaired v (λ q. clash _ (paired_is s.plan q) p) ∙ sym (check-unpaired s v p)))
      (λ v. t.unsound v ∙ sym (check-unsound s v))

pub one_answer : OneAnswer
one_answer s r q t u = fixed s t ∙ sym (fixed s u)
