-- A file marked later than version three, and the same with its unknown optional records cut out: version three's reader loads both or
-- neither, to the same state. Assumes nothing.
use mathlib.Core.Path.{◌≡◌, ap, ◌∙◌}
use mathlib.Core.Logic.{◌↔◌}
use mathlib.Core.List.{List}
use Prim.Native.Nat.{ℕ, ◌≤◌}
use native.Mathlib.Omega.{arith}
use lib.ListN.{length, drop}
use Rattle.refusals.specs.Outcome.{good}
use Rattle.refusals.specs.Sweep.{done}
use Rattle.manager.specs.declared.State.{State}
use Rattle.records.specs.Walk.{Walked, walk, flat}
use Rattle.records.specs.Versions.{newest}
use Rattle.records.specs.Kinds.{Parts, no_parts, sift}
use Rattle.records.specs.Gather.{header_length}
use Rattle.records.proofs.WalkLaws.{flat_walk}
use Rattle.records.proofs.CutLaws.{cut_out_lem, sift-fills, sift-shorter}
use Rattle.wpl.specs.Header.{most_area, version_of, serial_of, header_of}
use Rattle.wpl.specs.Load.{records_of, parts_of, settle_of}
use Rattle.wpl.proofs.HeaderLaws.{header-good, header-version, header-serial, header-records, serial-some, area-most}
use Rattle.flight.specs.Demand.{IsCut, Loads, IsLater, cut_out}
use Rattle.wpl.proofs.LoadStepLaws.{load-steps, steps-load}

-- ---- the cut file: version three, the same serial, the records that are left, and a header that passes
module _ (f : List ℕ) (later : IsLater f) where
  cut-version : version_of (cut_out f) ≡ newest
  unfolding cut_out
  cut-version = header-version _ _ _

  cut-serial : serial_of (cut_out f) ≡ serial_of f
  unfolding cut_out
  cut-serial = header-serial _ _ _

  cut-records : records_of (cut_out f) ≡ sift (records_of f)
  unfolding cut_out
  cut-records = header-records _ _ _ (sift-fills (records_of f) ∙ later.records)

  cut_short : length (flat (sift (records_of f))) ≤ most_area
  unfolding records_of
  cut_short =
      let whole = ap length (flat_walk (drop header_length f) later.records) in
      omega (arith, sift-shorter (walk (drop header_length f)), whole, area-most f later.header)

  cut-header : header_of (cut_out f) ≡ good done
  unfolding cut_out
  cut-header = let one : 1 ≤ newest = omega arith in header-good _ _ _ one (serial-some f later.header) cut_short

  pub is_cut : IsCut f (cut_out f)
  is_cut = record { version = cut-version; serial = cut-serial; header = cut-header; records = cut-records }

-- what the whole walk decides does not hang on records that are skipped
settled-alike : (w : Walked) (a b : Parts) → (settle_of w a ≡ good b) ↔ (settle_of (sift w) a ≡ good b)
unfolding settle_of
settled-alike w a b = (λ e. e, λ e. e)

-- ---- the loads of a later file and of whatever is its cut
module _ (f g : List ℕ) (later : IsLater f) (is : IsCut f g) where
  cut_parts : (a : Parts) → (parts_of newest f ≡ good a) ↔ (parts_of newest g ≡ good a)
  unfolding parts_of
  cut_parts a = rw (is.version, is.records) (cut_out_lem (version_of f) later.version (records_of f) header_length header_length no_parts a)

  module _ (s : State) where
    pub cut-loads : Loads 3 f s → Loads 3 g s
    cut-loads h =
        let x = load-steps newest f s h in
        steps-load newest g s
        (record {
          served = x.served;
          header = is.header;
          taken = x.taken;
          gathered = (cut_parts x.taken).0 x.gathered;
          settled = x.settled;
          settles = rw is.records ((settled-alike (records_of f) x.taken x.settled).0 x.settles);
          finishes = rw is.serial x.finishes;
        })

    pub uncut-loads : Loads 3 g s → Loads 3 f s
    uncut-loads h =
        let x = load-steps newest g s h in
        steps-load newest f s
        (record {
          served = x.served;
          header = later.header;
          taken = x.taken;
          gathered = (cut_parts x.taken).1 x.gathered;
          settled = x.settled;
          settles = (settled-alike (records_of f) x.taken x.settled).1 (rw is.records at x.settles);
          finishes = rw is.serial at x.finishes;
        })
