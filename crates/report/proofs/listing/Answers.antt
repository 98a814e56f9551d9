-- `listing` writes the text of a file where there is room for every listing. Assumes nothing.
use mathlib.Core.Path.{refl, sym, subst, ap}
use lib.ListN.{length}
use Prim.Native.Nat.{◌≤◌}
use native.Mathlib.Omega.{arith}
use Rattle.text.proofs.AddedLaws.{joined}
use Rattle.plan.specs.Limits.{most_points}
use Rattle.wpl.specs.declared.Loaded.{Loaded}
use Rattle.wpl.specs.Header.{version_of}
use Rattle.report.specs.Listing.{listing_of, listing_room}
use Rattle.report.proofs.HoldsLaws.{listing-holds}
use Rattle.report.proofs.ListingLaws.{loaded-few, text-loads, text-refused, too_short, whole}
use borrow.Author.Rules.{rules}
use Rattle.report.proofs.listing.Goals as goal

pub returns-then-buffer-lt-LISTING_ROOM : goal.returns-then-buffer-lt-LISTING_ROOM
returns-then-buffer-lt-LISTING_ROOM c =
    let told = too_short listing_room (listing_of c.args.file.now) c.args.buffer.now listing-holds c.if-buffer-lt-LISTING_ROOM.true in
    record { value = told.0; buffer_after = told.1.0; upper_bound = told.1.1.0; listing_holds = told.1.1.1 }

pub put_plan-requires : goal.put_plan-requires
put_plan-requires c = (
  subst (λ (x : Loaded). x.state.plan.head.count ≤ most_points) (sym c.load-loaded.ensures.value) (loaded-few _ _ _ refl),
  omega (arith, c.new-out.ensures.place, ap length c.new-out.ensures.bytes, c.if-buffer-lt-LISTING_ROOM.false),
)

pub returns-then-loaded-eq0 : goal.returns-then-loaded-eq0
unfolding listing_of version_of
returns-then-loaded-eq0 c =
    let n = c.new-out.ensures in
    let told =
    whole listing_room (listing_of c.args.file.now) c.args.buffer.now listing-holds c.new-out.result c.put_plan.new.out (omega (arith, c.if-buffer-lt-LISTING_ROOM.false)) n.place n.bytes
    (rw (← c.load-loaded.ensures.value, ← c.u16_at.ensures, text-loads c.u16_at.result c.load-loaded.result c.if-loaded-eq0.true) c.put_plan.ensures) in
    record { value = told.0; buffer_after = rw (← told.1.0) (search rules); upper_bound = told.1.1.0; listing_holds = told.1.1.1 }

pub returns : goal.returns
unfolding listing_of version_of
returns c =
    let n = c.new-out.ensures in
    let told =
    whole listing_room (listing_of c.args.file.now) c.args.buffer.now listing-holds c.new-out.result c.byte.new.self (omega (arith, c.if-buffer-lt-LISTING_ROOM.false)) n.place n.bytes
    (rw (← c.load-loaded.ensures.value, text-refused (version_of c.args.file.now) c.load-loaded.result c.if-loaded-eq0.false, ← c.from.ensures)
    (joined c.refusal.ensures.wrote.0 c.byte.ensures)) in
    record { value = told.0; buffer_after = rw (← told.1.0) (search rules); upper_bound = told.1.1.0; listing_holds = told.1.1.1 }
