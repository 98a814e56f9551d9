-- `strip_listing` writes the text of a file where there is room for every strip listing. Assumes nothing.
use native.Mathlib.Omega.{arith}
use Rattle.text.proofs.AddedLaws.{joined}
use Rattle.wpl.specs.Header.{version_of}
use Rattle.report.proofs.ListingLaws.{too_short, whole}
use Rattle.strip_report.specs.StripListing.{strip_listing_of, strip_listing_room}
use Rattle.strip_report.proofs.StripListingLaws.{strips-loaded, strips-refused, holds}
use borrow.Author.Rules.{rules}
use Rattle.strip_report.proofs.strip_listing.Goals as goal

pub returns-then-buffer-lt-STRIP_LISTING_ROOM : goal.returns-then-buffer-lt-STRIP_LISTING_ROOM
returns-then-buffer-lt-STRIP_LISTING_ROOM c =
    let told = too_short strip_listing_room (strip_listing_of c.args.file.now) c.args.buffer.now (holds c.args.file.now) c.if-buffer-lt-STRIP_LISTING_ROOM.true in
    record { value = told.0; buffer_after = told.1.0; upper_bound = told.1.1.0; strips_listed = told.1.1.1 }

pub returns-then-loaded-eq0 : goal.returns-then-loaded-eq0
unfolding strip_listing_of version_of
returns-then-loaded-eq0 c =
    let n = c.new-out.ensures in
    let told =
    whole strip_listing_room (strip_listing_of c.args.file.now) c.args.buffer.now (holds c.args.file.now) c.new-out.result c.put_checked.new.out (omega (arith, c.if-buffer-lt-STRIP_LISTING_ROOM.false)) n.place n.bytes
    (rw (← c.load-loaded.ensures.value, ← c.u16_at-version.ensures, strips-loaded c.u16_at-version.result c.load-loaded.result c.if-loaded-eq0.true)
    c.put_checked.ensures) in
    record { value = told.0; buffer_after = rw (← told.1.0) (search rules); upper_bound = told.1.1.0; strips_listed = told.1.1.1 }

pub returns : goal.returns
unfolding strip_listing_of
returns c =
    let n = c.new-out.ensures in
    let told =
    whole strip_listing_room (strip_listing_of c.args.file.now) c.args.buffer.now (holds c.args.file.now) c.new-out.result c.byte.new.self (omega (arith, c.if-buffer-lt-STRIP_LISTING_ROOM.false)) n.place n.bytes
    (rw (← c.load-loaded.ensures.value, strips-refused (version_of c.args.file.now) c.load-loaded.result c.if-loaded-eq0.false, ← c.from.ensures)
    (joined c.refusal.ensures.wrote.0 c.byte.ensures)) in
    record { value = told.0; buffer_after = rw (← told.1.0) (search rules); upper_bound = told.1.1.0; strips_listed = told.1.1.1 }
