-- `find_note` passes over the notes before the one that is asked for. Assumes nothing.
use mathlib.Core.Path.{◌≡◌, sym, ap, ◌∙◌}
use mathlib.Core.List.{[]}
use Prim.Native.Nat.{ℕ, ◌+◌}
use native.Mathlib.Omega.{arith}
use Rattle.std.proofs.Common.{rules, tests, unwrap_or, option_map}
use Rattle.std.proofs.lemmas.Iterator.Consumers.{nth_from_yields_List, YieldsList-from_filter, YieldsList-from_first, YieldsList-at}
use Rattle.records.specs.Walk.{walk}
use Rattle.wpl.specs.Load.{records_of}
use Rattle.wpl.specs.Note.{record_seen, records_seen, note_in}
use Rattle.wpl.proofs.ListedLaws.{is_note, note-none, note-listed}
use Rattle.wpl.proofs.find_note.Goals as goal
use Rattle.wpl.proofs.find_note.Goals.{After-nth}

-- the note that is asked for, by what was found
found : (c : After-nth) → note_in c.args.number (records_of c.args.file.now) ≡ unwrap_or (option_map (λ r. r.1) (option_map record_seen c.nth.result)) []
found c =
    let w = records_of c.args.file.now in
    let n : c.args.number ≡ c.in_ok-checked_sub.field-0 + 1 = omega (arith, c.in_ok-checked_sub.ensures {u = tt}) in
    ap (λ (k : ℕ). note_in k w) n ∙ note-listed w _
    ∙ ap (λ o. unwrap_or (option_map (λ r. r.1) o) []) (sym (nth_from_yields_List c.nth.result c.nth.new.self _ c.nth.ensures.ran
    (YieldsList-from_filter _ is_note (YieldsList-at c.filter.ensures.source (YieldsList-from_first record_seen (λ s. records_seen (walk s.0.now)) _ (ap records_seen c.records_in.ensures))) c.filter.ensures.closure (λ x r q k. search (rules, tests)))))

pub returns-in_err-checked_sub : goal.returns-in_err-checked_sub
returns-in_err-checked_sub c =
    let z : c.args.number ≡ 0 = omega (arith, c.in_err-checked_sub.ensures {u = tt}) in
    rw c.from_residual.ensures (sym (ap (λ (k : ℕ). note_in k (records_of c.args.file.now)) z ∙ note-none _))

pub returns-in_err-note : goal.returns-in_err-note
returns-in_err-note c =
    let a = (goal.at.returns-in_err-note c).After-nth in
    rw c.from_residual-in_err-note.ensures
    (sym (found a ∙ ap (λ o. unwrap_or (option_map (λ r. r.1) (option_map record_seen o)) []) (c.in_err-note.was {u = tt})))

pub returns : goal.returns
returns c =
    let a = (goal.at.returns c).After-nth in
    sym (found a ∙ ap (λ o. unwrap_or (option_map (λ r. r.1) (option_map record_seen o)) []) (c.in_ok-note.was {u = tt}))
