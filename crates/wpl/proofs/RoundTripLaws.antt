-- What is written at a version that can carry the plan stands at the front of the buffer, and every reader of that version or later loads it
-- as that plan at its start. Assumes nothing.
use mathlib.Core.Path.{◌≡◌, sym, ap, ◌∙◌}
use mathlib.Core.Bool.{Bool, true}
use Prim.Native.Nat.{ℕ, ◌≤◌}
use native.Mathlib.Omega.{arith}
use lib.ListN.{length, drop}
use lib.Seq.{take-append_seam}
use Rattle.conditions.proofs.BetweenLaws.{between-test}
use Rattle.refusals.specs.Numbers.{no_version}
use Rattle.refusals.specs.Outcome.{good, and_then, is_good}
use Rattle.refusals.specs.Sweep.{done}
use Rattle.refusals.proofs.OutcomeLaws.{check-true, then-good}
use Rattle.refusals.proofs.SweepLaws.{good-is}
use Rattle.plan.specs.declared.Plan.{Plan}
use Rattle.plan.specs.Places.{Filled}
use Rattle.plan.specs.Stands.{stands_of}
use Rattle.plan.proofs.StandLaws.{stands-tests}
use Rattle.manager.specs.declared.State.{State}
use Rattle.manager.specs.State.{start_of}
use Rattle.manager.proofs.StateLaws.{valid-stands}
use Rattle.records.specs.Walk.{flat}
use Rattle.records.specs.Versions.{newest}
use Rattle.records.specs.Gather.{header_length}
use Rattle.writer.specs.File.{plan_records, file_of}
use Rattle.wpl.specs.Header.{header_of}
use Rattle.wpl.specs.Load.{parts_of, settle_of, finish_of, body_of, load_of}
use Rattle.wpl.specs.Write.{carried_since, buffer_of}
use Rattle.wpl.specs.RoundTrip.{RoundTrip, EveryReader}
use Rattle.wpl.proofs.WriteLaws.{since-first, write-passes, good-passes}
use Rattle.wpl.proofs.HeaderLaws.{header-version, header-serial, header-good, header-records}
use Rattle.wpl.proofs.PlanRecordLaws.{plan-fills, plan-size, parts_of_plan, gather-plan}
use Rattle.wpl.proofs.PlanPartLaws.{points-length, plan-kept, plan-rules, plan-carried}

-- ---- the load of it
module _ (p : Plan) (filled : Filled p) (stands : stands_of p ≡ true) where
  finish-kept : (g : Bool) → finish_of p.head.serial (parts_of_plan p g) ≡ good (start_of p)
  unfolding finish_of
  finish-kept g =
      then-good _ done _ (good-is _ (plan-rules p filled stands g)) ∙ ap (λ (q : Plan). good (start_of q)) (plan-kept p filled stands)

  module _ (reader version : ℕ) (carried : carried_since p.head.mode ≤ version) (reads : version ≤ reader) where
    first : 1 ≤ version
    first = omega (arith, since-first p.head.mode)

    head_passed : header_of (file_of version p) ≡ good done
    unfolding file_of
    head_passed =
        let t = stands-tests p stands in
        let n = points-length p filled stands in
        header-good version p.head.serial (flat (plan_records p)) first t.serial (omega (arith, plan-size p))

    parts-kept : (g : Bool) × (parts_of reader (file_of version p) ≡ good (parts_of_plan p g))
    unfolding parts_of file_of
    parts-kept =
        let x = gather-plan reader version first reads p header_length (plan-carried p filled stands version carried) in
        let v = header-version version p.head.serial (flat (plan_records p)) in
        let w = header-records version p.head.serial (plan_records p) (plan-fills p) in
        (x.0, rw (v, w) x.1)

    body_kept : body_of reader (file_of version p) ≡ good (start_of p)
    unfolding body_of settle_of and_then file_of
    body_kept =
        let x = parts-kept in
        then-good _ _ _ x.1 ∙ rw (header-serial version p.head.serial (flat (plan_records p))) (finish-kept x.0)

    load_kept : reader ≤ newest → load_of reader (file_of version p) ≡ good (start_of p)
    unfolding load_of
    load_kept n =
        check-true _ no_version _ (between-test 1 newest reader (omega (arith, first)) n) ∙ then-good _ done _ head_passed ∙ body_kept

pub round_trip : (s : State) → Filled s.plan → RoundTrip s
unfolding buffer_of is_good
round_trip s filled =
    record {
      carried = λ version room v c n l. write-passes s version room (record { valid = v; newer = n; carried = c; roomy = l });
      stands = λ version room bytes buffer h. rw h (take-append_seam bytes (drop (length bytes) buffer));
      loads =
          λ version room reader bytes h l n.
          let p = good-passes s version room (ap is_good h) in
          let e : file_of version s.plan ≡ bytes = let w = write-passes s version room p in cc in
          ap (load_of reader) (sym e) ∙ load_kept s.plan filled (valid-stands s p.valid) reader version p.carried l n;
    }

pub every-reader : (s : State) → RoundTrip s → EveryReader s
every-reader s t = λ room bytes h. (
  t.loads 1 room 1 bytes h (omega arith) (omega arith),
  (t.loads 1 room 2 bytes h (omega arith) (omega arith), t.loads 1 room 3 bytes h (omega arith) (omega arith)),
)
