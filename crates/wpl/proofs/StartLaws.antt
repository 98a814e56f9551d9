-- What a load gives can be flown, or is refused by whoever takes it. Assumes nothing.
use mathlib.Core.Path.{◌≡◌, sym, ap, subst, ◌∙◌}
use mathlib.Core.Bool.{true}
use mathlib.Core.List.{List}
use Prim.Native.Nat.{ℕ}
use Rattle.refusals.specs.Numbers.{no_state}
use Rattle.refusals.specs.Outcome.{Outcome, good, refused, is_good}
use Rattle.refusals.specs.Sweep.{Done}
use Rattle.refusals.proofs.OutcomeLaws.{then-means}
use Rattle.plan.specs.Loaded.{plan_of, Loadable}
use Rattle.plan.proofs.LoadedLaws.{loaded-stands}
use Rattle.units.specs.declared.Fix.{Fix}
use Rattle.manager.specs.declared.State.{State}
use Rattle.manager.specs.State.{empty_state, start_of, valid_of}
use Rattle.manager.specs.Step.{refuse_of, step_of}
use Rattle.manager.proofs.StartLaws.{started-valid, empty-refused}
use Rattle.manager.proofs.EmptyLaws.{empty-invalid}
use Rattle.records.specs.Kinds.{Parts, no_parts}
use Rattle.records.specs.Gather.{header_length, InRange}
use Rattle.records.proofs.GatherLaws.{gather-ranged, none-ranged}
use Rattle.wpl.specs.Header.{version_of, serial_of}
use Rattle.wpl.specs.Load.{records_of, parts_of, settle_of, rules_in, finish_of, load_of, loaded_of}
use Rattle.wpl.specs.Write.{write_of}
use Rattle.wpl.specs.Starts.{Starts}
use Rattle.wpl.proofs.LoadStepLaws.{load-steps}
use Rattle.wpl.proofs.LoadLaws.{finish-makes}
use Rattle.wpl.proofs.HeaderLaws.{serial-some}
use Rattle.wpl.proofs.WriteLaws.{not_valid}
use Rattle.wpl.proofs.LongLaws.{long-file}
use Rattle.wpl.proofs.GivenLaws.{load-numbers}

-- ---- the rules have passed what is made into a plan
finish-passed : (serial : ℕ) (a : Parts) (s : State) → finish_of serial a ≡ good s → is_good (rules_in a) ≡ true
unfolding finish_of is_good
finish-passed serial a s e =
    let m = then-means (rules_in a) (λ (_ : Done). good (start_of (plan_of serial a.radius a.points a.courses))) s e in
    ap is_good m.1.0

-- ---- a loaded state is the start of the plan that some parts in their ranges make
module _ (r : ℕ) (f : List ℕ) (s : State) (loads : load_of r f ≡ good s) where
  pub load-parts : (a : Parts) × (InRange a × (finish_of (serial_of f) a ≡ good s))
  unfolding parts_of settle_of
  load-parts =
      let x = load-steps r f s loads in
      let e : x.taken ≡ x.settled = let z = x.settles in cc in
      (x.settled, (subst InRange e (gather-ranged r (version_of f) (records_of f) header_length no_parts x.taken none-ranged x.gathered), x.finishes))

  pub load-starts : s ≡ start_of (plan_of (serial_of f) load-parts.0.radius load-parts.0.points load-parts.0.courses)
  load-starts = finish-makes (serial_of f) load-parts.0 s load-parts.1.1

  listed : Loadable (serial_of f) load-parts.0.radius load-parts.0.points load-parts.0.courses
  unfolding rules_in
  listed =
      let a = load-parts.0 in
      let h = load-parts.1.0 in
      record {
        numbered = serial-some f (load-steps r f s loads).header;
        radius = h.radius;
        ranged = h.points;
        aimed = h.courses;
        rules = finish-passed (serial_of f) a s load-parts.1.1;
      }

  pub load-valid : valid_of s ≡ true
  load-valid =
      ap valid_of load-starts ∙ started-valid _ (loaded-stands (serial_of f) load-parts.0.radius load-parts.0.points load-parts.0.courses listed)

  pub load-serial : s.plan.head.serial ≡ serial_of f
  load-serial = ap (λ (t : State). t.plan.head.serial) load-starts

-- ---- the state of a refused load is the empty one
module _ (r : ℕ) (f : List ℕ) (number place : ℕ) (refuses : load_of r f ≡ refused number place) where
  none_left : (loaded_of (load_of r f)).state ≡ empty_state
  unfolding loaded_of
  none_left = ap (λ (o : Outcome State). (loaded_of o).state) refuses

  none-flown : (serial : ℕ) (fix : Fix) → step_of (loaded_of (load_of r f)).state serial fix ≡ refuse_of (loaded_of (load_of r f)).state no_state
  none-flown serial fix = subst (λ (t : State). step_of t serial fix ≡ refuse_of t no_state) (sym none_left) (empty-refused serial fix)

  none_written : (version room : ℕ) → write_of (loaded_of (load_of r f)).state version room ≡ refused no_state 0
  none_written version room = ap (λ (t : State). write_of t version room) none_left ∙ not_valid empty_state version room empty-invalid

pub starts : (reader : ℕ) (file : List ℕ) → Starts reader file
starts reader file =
    record {
      valid = load-valid reader file;
      serial = load-serial reader file;
      unflown = none-flown reader file;
      unwritten = none_written reader file;
      numbers = load-numbers reader file;
      long = λ n h k. long-file file n h k reader;
    }
