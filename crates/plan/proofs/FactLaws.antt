-- The limits and rules of a plan come to what docs/RULES.md says. Assumes nothing.
use mathlib.Core.Path.{refl}
use borrow.Author.Tests.{lt-ltb, le-ltb}
use Rattle.conditions.specs.Choose.{choose}
use Rattle.fillets.specs.Corners.{corner_turn}
use Rattle.plan.specs.Rules.{corner_number, ends_number}
use Rattle.plan.specs.Facts.{PlanFacts}
use Rattle.plan.proofs.LoadedLaws.{loaded-stands}
use Rattle.plan.proofs.Anchors.{each}

pub plan-facts : PlanFacts
unfolding choose corner_number ends_number
plan-facts =
    record {
      sharp = λ a b c h. rw (lt-ltb 1792 (corner_turn a b c) h) refl;
      blunt = λ a b c h. rw (le-ltb 1792 (corner_turn a b c) h) refl;
      close = λ ends f. rw f refl;
      caseless = λ ends f h. rw (f, h) refl;
      loaded = λ serial R ps cs l. loaded-stands serial R ps cs l;
      each = each;
    }
