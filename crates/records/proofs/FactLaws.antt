-- The definitions of this crate come to what docs/RULES.md says. Assumes nothing.
use mathlib.Core.Path.{refl}
use Rattle.records.specs.Kinds.{table}
use Rattle.records.specs.Facts.{RecordFacts}
use Rattle.records.proofs.WalkLaws.{walk-flat, flat_walk}
use Rattle.records.proofs.VersionLaws.{older-refuses, older-takes, older-only, agree}
use Rattle.records.proofs.Anchors.{each}

pub record-facts : RecordFacts
unfolding table
record-facts =
    record {
      kinds = refl;
      header = refl;
      versions = refl;
      each = each;
      walked = walk-flat;
      written = flat_walk;
      older = λ r v one most w at a b h. record {
        refuses = (older-refuses r v one most w at a b h, (λ e. older-only r v one most w at a b h e.0 e.1));
        takes = older-takes r v one most w at a b h;
      };
      agree = agree;
    }
