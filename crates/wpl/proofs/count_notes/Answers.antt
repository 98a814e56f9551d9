-- `count_notes` counts the notes among the records. Assumes nothing.
use mathlib.Core.Path.{ap, ◌∙◌}
use mathlib.Core.Logic.{inl}
use native.Mathlib.Omega.{arith}
use lib.ListN.{length, drop, length-drop}
use Rattle.wpl.specs.Load.{records_of}
use Rattle.std.proofs.Common.{rules, tests}
use Rattle.std.proofs.lemmas.Iterator.Consumers.{count_from_yields_List, YieldsList-from_filter, YieldsList-from_first, YieldsList-at}
use Rattle.records.specs.Walk.{walk}
use Rattle.wpl.specs.Note.{record_seen, records_seen}
use Rattle.wpl.proofs.ListedLaws.{is_note, listed-most, notes-listed}
use Rattle.wpl.proofs.count_notes.Goals as goal

pub count-requires-clause-fits : goal.count-requires-clause-fits
unfolding records_of
count-requires-clause-fits c =
    let f = c.args.file.now in
    inl (omega (
      arith,
      ap (λ r. length (records_seen (walk r.0.now))) c.filter.ensures.source,
      ap (λ w. length (records_seen w)) c.records_in.ensures,
      listed-most (drop 11 f),
      length-drop 11 f,
    ))

pub returns : goal.returns
returns c =
    count_from_yields_List c.filter.result _ c.count.ensures.ran
    (YieldsList-from_filter _ is_note (YieldsList-at c.filter.ensures.source (YieldsList-from_first record_seen (λ s. records_seen (walk s.0.now)) _ (ap records_seen c.records_in.ensures))) c.filter.ensures.closure (λ x r q k. search (rules, tests)))
    ∙ notes-listed _
