-- A shortest path is found exactly when a case exists. It is the path of its own case, no case is shorter and no earlier one as short, and no
-- other path is so. Assumes nothing.
use Rattle.std.proofs.Common.{Option, Some, None}
use mathlib.Core.Path.{◌≡◌, refl, sym, ap, ◌∙◌, subst}
use mathlib.Core.Bool.{Bool, true, false, true≢false, ◌||◌}
use Prim.Native.Nat.{ℕ, suc, ◌≤◌, ◌<◌, min}
use native.Mathlib.Omega.{arith}
use native.Mathlib.Decide.{dec_lt}
use lib.Dec.{leb}
use borrow.Author.Tests.{leb-true, leb-false, le-leb, lt-leb}
use Rattle.conditions.specs.Choose.{choose}
use Rattle.conditions.proofs.ChooseLaws.{choose-true, choose-false}
use Rattle.dubins.specs.declared.Case.{Case}
use Rattle.dubins.specs.declared.Case.TheVariants.{Rsr, Rsl, Lsr, Lsl}
use Rattle.dubins.specs.declared.Ends.{Ends}
use Rattle.dubins.specs.declared.Circles.{Circles}
use Rattle.dubins.specs.declared.Path.{Path}
use Rattle.dubins.specs.Cases.{number_of, circles_of, case_exists, straight_of, straight_course, path_of}
use Rattle.dubins.specs.Choice.{case_path, shorter_of, shortest_of, found_length, has_path_of, Wins, IsShortest, Chosen}
use Rattle.dubins.specs.Ways.{no_length, Measures}

-- ---- of two paths
module _ (p q : Path) where
  pub earlier-wins : p.length ≤ q.length → shorter_of (Some p) (Some q) ≡ Some p
  unfolding shorter_of
  earlier-wins h = choose-true (leb p.length q.length) (Some p) (Some q) (le-leb p.length q.length h)

  pub later-wins : q.length < p.length → shorter_of (Some p) (Some q) ≡ Some q
  unfolding shorter_of
  later-wins h = choose-false (leb p.length q.length) (Some p) (Some q) (lt-leb p.length q.length h)

pub only-later : (b : Option Path) → shorter_of None b ≡ b
unfolding shorter_of
only-later None = refl
only-later (Some q) = refl

-- ---- the cases one after another
pub shortest-all : (ends : Ends)
    → shorter_of (shorter_of (shorter_of (shorter_of None (case_path ends Rsr)) (case_path ends Rsl)) (case_path ends Lsr)) (case_path ends Lsl) ≡ shortest_of ends
unfolding shortest_of
shortest-all ends = ap (λ (f : Option Path). shorter_of (shorter_of (shorter_of f (case_path ends Rsl)) (case_path ends Lsr)) (case_path ends Lsl)) (only-later (case_path ends Rsr))

pub earlier-stays : (f : Option Path) (best : ℕ) → Measures f best → (p : Path) (m : ℕ) → m < no_length → best ≤ m → m ≤ p.length → shorter_of f (Some p) ≡ f
earlier-stays None best e p m b h l = absurd (omega (arith, e))
earlier-stays (Some q) best e p m b h l = earlier-wins q p (omega (arith, e.0))

-- ---- lengths alone: a case that does not exist, one of which as much is known as is no shorter, and one that is shorter
module _ (f : Option Path) (best : ℕ) (k : Measures f best) (c : Option Path) where
  pub measures-absent : c ≡ None → Measures (shorter_of f c) best
  unfolding shorter_of
  measures-absent h = subst (λ (x : Option Path). Measures (shorter_of f x) best) (sym h) k

  module _ (p : Path) (there : c ≡ Some p) where
    pub measures-kept : (m : ℕ) → m < no_length → best ≤ m → m ≤ p.length → Measures (shorter_of f c) best
    measures-kept m b h l = subst (λ (x : Option Path). Measures (shorter_of f x) best) (sym there) (subst (λ (x : Option Path). Measures x best) (sym (earlier-stays f best k p m b h l)) k)

    pub measures-taken : (length : ℕ) → length ≡ p.length → length < no_length → length < best → Measures (shorter_of f c) length
    measures-taken length e b h = subst (λ (x : Option Path). Measures (shorter_of f x) length) (sym there) (subst (λ (x : Option Path). Measures x length) (sym (takes f k)) (e, b))
      where
        takes : (g : Option Path) → Measures g best → shorter_of g (Some p) ≡ Some p
        takes None i = only-later (Some p)
        takes (Some q) i = later-wins q p (omega (arith, i.0, e))

    pub measures-lesser : (length : ℕ) → length ≡ p.length → length < no_length → Measures (shorter_of f c) (min best length)
    measures-lesser length e b = by-dec (dec_lt length best)
      where
        by-dec : Dec (length < best) → Measures (shorter_of f c) (min best length)
        by-dec (yes h) = subst (λ (n : ℕ). Measures (shorter_of f c) n) {x = length} {y = min best length} (omega arith) (measures-taken length e b h)
        by-dec (no h) = subst (λ (n : ℕ). Measures (shorter_of f c) n) {x = best} {y = min best length} (omega arith) (measures-kept length b (omega arith) (omega (arith, e)))

-- at the end
pub measures-found : (f : Option Path) (best : ℕ) → Measures f best → best < no_length → best ≡ found_length f
unfolding found_length
measures-found None best k h = absurd (omega (arith, k))
measures-found (Some p) best k h = k.0

pub measures-none : (f : Option Path) (best : ℕ) → Measures f best → no_length ≤ best → 0 ≡ found_length f
unfolding found_length
measures-none None best k h = refl
measures-none (Some p) best k h = absurd (omega (arith, k.1))

-- ---- one case, from its parts
module _ (ends : Ends) (case : Case) where
  pub case-there : (circles : Circles) (s θ : ℕ) → case_exists ends case ≡ true → circles ≡ circles_of ends case → s ≡ straight_of case ends.radius circles.v → θ ≡ straight_course case ends.radius s circles.v → case_path ends case ≡ Some (path_of ends case circles s θ)
  unfolding case_path choose
  case-there circles s θ h e k l = simp (h, l, k, e)

  pub case-absent : case_exists ends case ≡ false → case_path ends case ≡ None
  unfolding case_path choose
  case-absent h = simp h

-- ---- found exactly when a case exists
abbrev is_found : Option Path → Bool
is_found (Some p) = true
is_found None = false

by-test : (t : Bool) (p : Path) → is_found (choose t (Some p) None) ≡ t
unfolding choose
by-test true p = refl
by-test false p = refl

either : (t : Bool) (p q : Path) → is_found (choose t (Some p) (Some q)) ≡ true
unfolding choose
either true p q = refl
either false p q = refl

shorter-found : (a b : Option Path) → is_found (shorter_of a b) ≡ is_found a || is_found b
unfolding shorter_of
shorter-found (Some p) None = refl
shorter-found None None = refl
shorter-found None (Some q) = refl
shorter-found (Some p) (Some q) = either (leb p.length q.length) p q

case-found : (ends : Ends) (case : Case) → is_found (case_path ends case) ≡ case_exists ends case
unfolding case_path
case-found ends case = by-test (case_exists ends case) _

has-path : (ends : Ends) → is_found (shortest_of ends) ≡ has_path_of ends
unfolding shortest_of has_path_of
has-path ends = simp (shorter-found, case-found)

found-is : (f : Option Path) → is_found f ≡ true → (p : Path) × (f ≡ Some p)
found-is (Some p) h = (p, refl)
found-is None h = let z : ◌≡◌ {A = ℕ} 0 1 = cc in absurd (omega arith)

missing-is : (f : Option Path) → is_found f ≡ false → f ≡ None
missing-is (Some p) h = let z : ◌≡◌ {A = ℕ} 0 1 = cc in absurd (omega arith)
missing-is None h = refl

pub found-when : (ends : Ends) → has_path_of ends ≡ true → (p : Path) × (shortest_of ends ≡ Some p)
found-when ends h = found-is (shortest_of ends) (has-path ends ∙ h)

pub missing-when : (ends : Ends) → has_path_of ends ≡ false → shortest_of ends ≡ None
missing-when ends h = missing-is (shortest_of ends) (has-path ends ∙ h)

-- ---- what is found wins, and nothing else does
none : {q : Path} {A : Type 0} → ◌≡◌ {A = Option Path} None (Some q) → A
none e = absurd (true≢false (sym (ap is_found e)))

abbrev case_in : Option Path → Case
case_in (Some p) = p.case
case_in None = Rsr

abbrev length_in : Option Path → ℕ
length_in (Some p) = p.length
length_in None = 0

case_by : (case : Case) (t : Bool) (p q : Path) → p.case ≡ case → choose t (Some p) None ≡ Some q → q.case ≡ case
unfolding choose
case_by case true p q k e = sym (ap case_in e) ∙ k
case_by case false p q k e = none e

-- ---- cases by their numbers
abbrev case_of : ℕ → Case
case_of n = choose (leb n 1) Rsr (choose (leb n 2) Rsl (choose (leb n 3) Lsr Lsl))

by-number : (case : Case) → case_of (number_of case) ≡ case
unfolding choose
by-number Rsr = refl
by-number Rsl = refl
by-number Lsr = refl
by-number Lsl = refl

same-number : (a b : Case) → number_of a ≡ number_of b → a ≡ b
same-number a b e = sym (by-number a) ∙ ap case_of e ∙ by-number b

number-low : (case : Case) → number_of case ≤ 4
number-low Rsr = omega arith
number-low Rsl = omega arith
number-low Lsr = omega arith
number-low Lsl = omega arith

none-before : (case : Case) → number_of case ≤ 0 → ⊥
none-before Rsr h = omega arith
none-before Rsl h = omega arith
none-before Lsr h = omega arith
none-before Lsl h = omega arith

module _ (ends : Ends) where
  path-case : (case : Case) (q : Path) → case_path ends case ≡ Some q → q.case ≡ case
  unfolding case_path path_of
  path-case case q e = case_by case (case_exists ends case) _ q refl e

  -- of the cases up to number m, as Wins of all four
  record Leads (m : ℕ) (p : Path) : Type 0 where
    most : number_of p.case ≤ m
    own : case_path ends p.case ≡ Some p
    shortest : (case : Case) (q : Path) → number_of case ≤ m → case_path ends case ≡ Some q → p.length ≤ q.length
    earliest : (case : Case) (q : Path) → number_of case < number_of p.case → case_path ends case ≡ Some q → p.length < q.length

  abbrev Leading : ℕ → Option Path → Type 0
  Leading m (Some p) = Leads m p
  Leading m None = (case : Case) → number_of case ≤ m → case_path ends case ≡ None

  module _ (m : ℕ) (next : Case) (number : number_of next ≡ suc m) where
    -- p leads on where the next case is no shorter
    kept : (p : Path) → Leads m p → ((q : Path) → case_path ends next ≡ Some q → p.length ≤ q.length) → Leads (suc m) p
    kept p l h =
        record {
          most = omega (arith, l.most);
          own = l.own;
          shortest = λ case q a e. by-dec case q a e (dec_lt (number_of case) (suc m));
          earliest = l.earliest;
        }
      where
        by-dec : (case : Case) (q : Path) → number_of case ≤ suc m → case_path ends case ≡ Some q → Dec (number_of case < suc m) → p.length ≤ q.length
        by-dec case q a e (yes d) = l.shortest case q (omega arith) e
        by-dec case q a e (no d) = h q (ap (case_path ends) (same-number next case (omega (arith, number))) ∙ e)

    -- and the next case does where it is shorter than all before it
    taken : (p : Path) → case_path ends next ≡ Some p → ((case : Case) (q : Path) → number_of case ≤ m → case_path ends case ≡ Some q → p.length < q.length) → Leads (suc m) p
    taken p k h =
        let n : number_of p.case ≡ suc m = ap number_of (path-case next p k) ∙ number in
        record {
          most = omega (arith, n);
          own = ap (case_path ends) (path-case next p k) ∙ k;
          shortest = λ case q a e. by-dec case q a e (dec_lt (number_of case) (suc m));
          earliest = λ case q a e. h case q (omega (arith, n)) e;
        }
      where
        by-dec : (case : Case) (q : Path) → number_of case ≤ suc m → case_path ends case ≡ Some q → Dec (number_of case < suc m) → p.length ≤ q.length
        by-dec case q a e (yes d) = omega (arith, h case q (omega arith) e)
        by-dec case q a e (no d) = omega (arith, ap length_in (sym k ∙ ap (case_path ends) (same-number next case (omega (arith, number))) ∙ e))

    by_length : (p q : Path) (t : Bool) → leb p.length q.length ≡ t → case_path ends next ≡ Some q → Leads m p → Leading (suc m) (choose t (Some p) (Some q))
    unfolding choose
    by_length p q true e k l = kept p l (λ r s. omega (arith, leb-true p.length q.length e, ap length_in (sym k ∙ s)))
    by_length p q false e k l = taken q k (λ case r a s. omega (arith, leb-false p.length q.length e, l.shortest case r a s))

    still-none : case_path ends next ≡ None → Leading m None → (case : Case) → number_of case ≤ suc m → Dec (number_of case < suc m) → case_path ends case ≡ None
    still-none k l case a (yes d) = l case (omega arith)
    still-none k l case a (no d) = ap (case_path ends) (same-number case next (omega (arith, number))) ∙ k

    step : (a b : Option Path) → case_path ends next ≡ b → Leading m a → Leading (suc m) (shorter_of a b)
    unfolding shorter_of
    step None None k l = λ case a. still-none k l case a (dec_lt (number_of case) (suc m))
    step (Some p) None k l = kept p l (λ q e. none (sym k ∙ e))
    step None (Some q) k l = taken q k (λ case r a e. none (sym (l case a) ∙ e))
    step (Some p) (Some q) k l = by_length p q (leb p.length q.length) refl k l

  leading : Leading 4 (shortest_of ends)
  unfolding shortest_of
  leading =
      step 3 Lsl refl _ _ refl
      (step 2 Lsr refl _ _ refl
      (step 1 Rsl refl _ _ refl
      (subst (Leading 1) (only-later (case_path ends Rsr)) (step 0 Rsr refl None _ refl (λ case a. absurd (none-before case a))))))

  all-four : (f : Option Path) → Leading 4 f → IsShortest ends f
  all-four (Some p) l = record { own = l.own; shortest = λ case q e. l.shortest case q (number-low case) e; earliest = l.earliest }
  all-four None l = λ case. l case (number-low case)

  pub shortest-is : IsShortest ends (shortest_of ends)
  shortest-is = all-four (shortest_of ends) leading

  wins-once : (p q : Path) → Wins ends p → Wins ends q → Dec (number_of p.case < number_of q.case) → Dec (number_of q.case < number_of p.case) → Some p ≡ Some q
  wins-once p q v w (yes d) e = absurd (omega (arith, w.earliest p.case p d v.own, v.shortest q.case q w.own))
  wins-once p q v w (no d) (yes e) = absurd (omega (arith, v.earliest q.case q e w.own, w.shortest p.case p v.own))
  wins-once p q v w (no d) (no e) = sym v.own ∙ ap (case_path ends) (same-number p.case q.case (omega arith)) ∙ w.own

  pub shortest-only : (f g : Option Path) → IsShortest ends f → IsShortest ends g → f ≡ g
  shortest-only (Some p) (Some q) v w = wins-once p q v w (dec_lt (number_of p.case) (number_of q.case)) (dec_lt (number_of q.case) (number_of p.case))
  shortest-only (Some p) None v w = none (sym (w p.case) ∙ v.own)
  shortest-only None (Some q) v w = none (sym (v q.case) ∙ w.own)
  shortest-only None None v w = refl

  pub chosen : (r : Option Path) → r ≡ shortest_of ends → Chosen ends r
  chosen r e =
      record {
        holds = subst (IsShortest ends) (sym e) shortest-is;
        only = λ f h. shortest-only f (shortest_of ends) h shortest-is ∙ sym e;
        found = λ h. let p = found-when ends h in (p.0, e ∙ p.1);
        missing = λ h. e ∙ missing-when ends h;
      }
