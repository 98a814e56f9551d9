-- `distances` lends the numbers of a state to `distances_from`. Assumes nothing.
use mathlib.Core.Path.{◌≡◌, sym, subst}
use mathlib.Core.List.{List}
use Prim.Native.Nat.{ℕ}
use lib.ListN.{length}
use Rattle.manager.specs.declared.State.{State}
use Rattle.distance.specs.Table.{distances_of, table_of, Summary, OneTable}
use Rattle.distance.specs.Kept.{TableKept}
use Rattle.distance.specs.Holds.{DistancesHold}
use Rattle.distance.proofs.Anchors.{distances-hold}
use Rattle.distance.proofs.SummaryLaws.{summary, one_table}
use Rattle.distance.proofs.KeptLaws.{table_kept}
use Rattle.distance.proofs.distances.Goals as goal

-- an equation, and with it what a table owes
owed : (s : State) (before : List ℕ) {after : List ℕ} → after ≡ table_of (distances_of s (length before)) before
    → (Summary s before after × OneTable) × (TableKept × DistancesHold)
owed s before e = ((subst (Summary s before) (sym e) (summary s before), one_table), (table_kept, distances-hold))

pub returns : goal.returns
returns c =
    let e = rw c.lent.ensures at c.distances_from.ensures.table_after in
    let o = owed _ _ e in
    record {
      value = rw c.lent.ensures at c.distances_from.ensures.value;
      table_after = e;
      summary = o.0;
      table_kept = o.1;
    }
