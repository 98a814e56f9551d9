-- The words of 15.8 to 15.16 and of two flights mean what they have to. Assumes nothing.
use mathlib.Core.Path.{◌≡◌, refl, sym, ap, subst, ◌∙◌}
use mathlib.Core.Bool.{true, false}
use mathlib.Core.List.{List, [], ◌∷◌, ◌++◌}
use mathlib.Core.Logic.{◌⊎◌, inl, inr, ◌↔◌}
use Prim.Native.Nat.{ℕ, ◌≤◌, ◌<◌}
use native.Mathlib.Omega.{arith}
use lib.Dec.{eqb}
use lib.Ieee.{Float}
use borrow.Author.Tests.{eqb-true, eqb-false}
use Rattle.std.specs.Prelude.{Some}
use Rattle.conditions.proofs.Bools.{by_bool}
use Rattle.refusals.specs.Outcome.{Outcome, good, refused}
use Rattle.refusals.specs.Sweep.{done}
use Rattle.plane.specs.declared.Point.{Point}
use Rattle.units.specs.Position.{position_of}
use Rattle.guidance.specs.declared.Command.TheVariants.{Nothing}
use Rattle.guidance.specs.Commands.{PlainCommand, HasCommand}
use Rattle.manager.specs.declared.State.{State}
use Rattle.manager.specs.declared.Stepped.{Stepped}
use Rattle.records.specs.Walk.{fills}
use Rattle.records.specs.Kinds.{holds_newer}
use Rattle.wpl.specs.declared.Loaded.{Loaded}
use Rattle.wpl.specs.Header.{version_of, serial_of, header_of}
use Rattle.wpl.specs.Load.{records_of, load_of, loaded_of}
use Rattle.wpl.proofs.LoadLaws.{loaded-good, loaded-refused}
use Rattle.flight.specs.Run.{Named, step_by, run, none, next, Alike, AlikeRuns, ended, onward, Answered, PlainRun}
use Rattle.flight.specs.Demand.{IsOlder, Loads, RefusesAsTooNew, IsLater, Demand, cut_out}
use Rattle.flight.specs.Flight.{last_of}
use Rattle.flight.specs.TwoFlights.{flown_with, answers_with, commands_with, OlderFlights}
use Rattle.flight.specs.Anchors.{Outright, Anchored}
use Rattle.flight.proofs.LaterLaws.{cut-loads, uncut-loads}
use Rattle.flight.proofs.WitnessLaws.{each}

-- ---- alike is equal, whichever side of a field is which
alike-means : (a b : Stepped) → Alike a b → a ≡ b
alike-means a b h =
    let refusals = h.refusal in
    let places = h.place in
    let commands = h.command in
    let headings = h.heading in
    let indices = h.index in
    let phases = h.phase in
    let ends = h.finished in
    let states = h.state in
    let refusal : a.answer.refusal ≡ b.answer.refusal = cc in
    let place : a.answer.place ≡ b.answer.place = cc in
    let command : a.answer.command ≡ b.answer.command = cc in
    let heading : a.answer.heading ≡ b.answer.heading = cc in
    let index : a.answer.index ≡ b.answer.index = cc in
    let phase : a.answer.phase ≡ b.answer.phase = cc in
    let finished : a.answer.finished ≡ b.answer.finished = cc in
    let state : a.state ≡ b.state = cc in
    λ i.
    record {
      answer =
          record {
            refusal = refusal i;
            place = place i;
            command = command i;
            heading = heading i;
            index = index i;
            phase = phase i;
            finished = finished i;
          };
      state = state i;
    }

runs-mean : {xs ys : List Stepped} → AlikeRuns xs ys → xs ≡ ys
runs-mean ended = refl
runs-mean (onward a b xs ys h rest) =
    let e = alike-means _ _ h in
    let first : a ≡ b = cc in
    λ i. first i ∷ runs-mean rest i

-- ---- readers
older-numbers : (r : ℕ) → 1 ≤ r → r ≤ 2 → IsOlder r
older-numbers r l h = by_bool (eqb r 1) (λ t. inl (eqb-true r 1 t)) (λ u. inr (omega (arith, eqb-false r 1 u)))

three-not : IsOlder 3 → ⊥
three-not (inl e) = omega arith
three-not (inr e) = omega arith

-- ---- loads
module _ (r : ℕ) (f : List ℕ) where
  loads-means : (s : State) → Loads r f s ↔ (loaded_of (load_of r f) ≡ record { refusal = 0; place = 0; state = s })
  unfolding loaded_of
  loads-means s = (
    λ h. ap loaded_of h,
    λ e. loaded-good r f (loaded_of (load_of r f)) refl (ap (λ (x : Loaded). x.refusal) e) ∙ ap (λ (x : Loaded). good x.state) e,
  )

  refuses-means : RefusesAsTooNew r f ↔ ((loaded_of (load_of r f)).refusal ≡ 7)
  unfolding loaded_of
  refuses-means = (
    λ h. ap (λ (o : Outcome State). (loaded_of o).refusal) h.1,
    λ e.
        let k = loaded-refused r f (loaded_of (load_of r f)) refl (λ z. omega arith) in
        ((loaded_of (load_of r f)).place, k.0 ∙ ap (λ (n : ℕ). refused n (loaded_of (load_of r f)).place) e),
  )

-- ---- the answer to the last fix of a list
last-answered : (s : State) (n : ℕ) (before : List Named) (x : Named) → Answered n (before ++ (x ∷ [])) (run s (before ++ (x ∷ []))) → x.serial ≡ n → (p : Point)
    → position_of x.fix ≡ Some p
    → ((step_by (last_of s (run s before)) x).answer.refusal ≡ 0) × ((step_by (last_of s (run s before)) x).answer.command ≡ Nothing → ⊥)
unfolding run last_of
last-answered s n [] x a e p at = let y = a.0 e p at in (y.0, λ none. subst HasCommand none y.1)
last-answered s n (y ∷ ys) x a e p at = last-answered (step_by s y).state n ys x a.1 e p at

last-plain : (s : State) (before : List Named) (x : Named) → PlainRun (run s (before ++ (x ∷ []))) → PlainCommand (step_by (last_of s (run s before)) x).answer.command
unfolding run last_of
last-plain s [] x a = a.0
last-plain s (y ∷ ys) x a = last-plain (step_by s y).state ys x a.1

-- ---- these clauses by their own words, and without them
is_later : (f : List ℕ) → 3 < version_of f → header_of f ≡ good done → fills (records_of f) ≡ true → IsLater f
is_later f v h w = record { version = v; header = h; records = w }

module _ (d : Demand) where
  by_number : (f : List ℕ) (s : State) → load_of 3 f ≡ good s → (r : ℕ) → 1 ≤ r → r ≤ 2
      → ((holds_newer r (records_of f) ≡ true) × ((loaded_of (load_of r f)).refusal ≡ 7)) ⊎ ((holds_newer r (records_of f) ≡ false) × (load_of r f ≡ good s))
  by_number f s h r low high =
      let o = older-numbers r low high in
      by_bool (holds_newer r (records_of f)) (λ t. inl (t, (refuses-means r f).0 ((d.refuses f s h r o).1 t))) (λ u. inr (u, d.otherwise f s h r o u))

  two-fixes : (s : State) (x y : Named) → run s (x ∷ y ∷ []) ≡ step_by s x ∷ step_by (step_by s x).state y ∷ []
  two-fixes s x y =
      sym ((d.chained s (x ∷ y ∷ []) (step_by s x ∷ step_by (step_by s x).state y ∷ [])).0 (next s x (y ∷ []) (step_by (step_by s x).state y ∷ []) (next (step_by s x).state y [] [] (none (step_by (step_by s x).state y).state))))

  by_bytes : (f : List ℕ) → IsLater f → (s : State) → Loads 3 f s ↔ Loads 3 (cut_out f) s
  by_bytes f later s = (
    λ h. let x = (d.cut f later).0 (s, h) in subst (Loads 3 (cut_out f)) (sym (d.same f later s x.0 h x.1)) x.1,
    λ g. let x = (d.cut f later).1 (s, g) in subst (Loads 3 f) (d.same f later x.0 s x.1 g) x.1,
  )

  says-outright : Outright
  unfolding cut_out
  says-outright =
      record {
        older = by_number;
        runs = λ f s t r low high h g fixes. runs-mean (d.alike f s t r (older-numbers r low high) h g fixes);
        second = two-fixes;
        later = λ f v h w s. by_bytes f (is_later f v h w) s;
        left = λ f v h w. let is = d.cutting f (is_later f v h w) in (is.header, is.records);
        valid = λ r f s h. d.valid r f s h;
        flies = λ r f s h before x e p at. last-answered s (serial_of f) before x (d.flies r f s h (before ++ (x ∷ []))) e p at;
        plain = λ s before x. last-plain s before x (d.plain s (before ++ (x ∷ [])));
      }

-- ---- two flights
module _ (f serials : List ℕ) (fixes : List Float) (answers : List ℕ) (commands : List Float) where
  abbrev Same : ℕ → Type 0
  Same r =
      (flown_with f serials fixes answers commands r ≡ flown_with f serials fixes answers commands 3)
      × ((answers_with f serials fixes answers commands r ≡ answers_with f serials fixes answers commands 3)
      × (commands_with f serials fixes answers commands r ≡ commands_with f serials fixes answers commands 3))

  refused-or-same : OlderFlights f serials fixes answers commands → (flown_with f serials fixes answers commands 3).refusal ≡ 0 → (r : ℕ) → 1 ≤ r → r ≤ 2
      → ((flown_with f serials fixes answers commands r).refusal ≡ 7) ⊎ Same r
  refused-or-same flights flies r low high =
      let x = flights r (older-numbers r low high) flies in
      by_bool (holds_newer r (records_of f)) (λ t. inl (x.refuses.1 t)) (λ u. inr (x.flown u, (x.answered u, x.commanded u)))

pub anchored : Anchored
anchored =
    record {
      steps = alike-means;
      runs = λ xs ys h. runs-mean h;
      older = (inl refl, inr refl);
      newest = three-not;
      loads = loads-means;
      refuses = refuses-means;
      cut = λ f g later is s. (cut-loads f g later is s, uncut-loads f g later is s);
      files = each;
      outright = says-outright;
      flights = refused-or-same;
    }
