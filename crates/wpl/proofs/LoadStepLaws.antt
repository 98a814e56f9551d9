-- A load that succeeds, step by step, and back. Assumes nothing.
use mathlib.Core.Path.{◌≡◌, refl, ap, ◌∙◌}
use mathlib.Core.Bool.{true}
use mathlib.Core.List.{List}
use Prim.Native.Nat.{ℕ}
use Rattle.conditions.specs.Between.{between}
use Rattle.refusals.specs.Numbers.{no_version}
use Rattle.refusals.specs.Outcome.{good, and_then}
use Rattle.refusals.specs.Sweep.{Done, done}
use Rattle.refusals.proofs.OutcomeLaws.{check-true, check-means, then-good, then-means}
use Rattle.manager.specs.declared.State.{State}
use Rattle.records.specs.Versions.{newest}
use Rattle.records.specs.Kinds.{Parts}
use Rattle.wpl.specs.Header.{serial_of, header_of}
use Rattle.wpl.specs.Load.{records_of, parts_of, settle_of, finish_of, body_of, load_of}

only-done : (d : Done) → d ≡ done
only-done done = refl

-- ---- a load
pub record Steps (r : ℕ) (f : List ℕ) (s : State) : Type 0 where
  pub served : between 1 newest r ≡ true
  pub header : header_of f ≡ good done
  pub taken : Parts
  pub gathered : parts_of r f ≡ good taken
  pub settled : Parts
  pub settles : settle_of (records_of f) taken ≡ good settled
  pub finishes : finish_of (serial_of f) settled ≡ good s

-- past the reader's version and the header
pub load-body : (r : ℕ) (f : List ℕ) → between 1 newest r ≡ true → header_of f ≡ good done → load_of r f ≡ body_of r f
unfolding load_of
load-body r f served header = check-true _ no_version _ served ∙ then-good (header_of f) done (λ (_ : Done). body_of r f) header

pub load-steps : (r : ℕ) (f : List ℕ) (s : State) → load_of r f ≡ good s → Steps r f s
unfolding load_of body_of
load-steps r f s h =
    let c = check-means _ no_version _ s h in
    let d = then-means (header_of f) (λ (_ : Done). body_of r f) s c.1 in
    let p = then-means (parts_of r f) (λ (a : Parts). and_then (settle_of (records_of f) a) (finish_of (serial_of f))) s d.1.1 in
    let q = then-means (settle_of (records_of f) p.0) (finish_of (serial_of f)) s p.1.1 in
    record {
      served = c.0;
      header = d.1.0 ∙ ap good (only-done d.0);
      taken = p.0;
      gathered = p.1.0;
      settled = q.0;
      settles = q.1.0;
      finishes = q.1.1;
    }

pub steps-load : (r : ℕ) (f : List ℕ) (s : State) → Steps r f s → load_of r f ≡ good s
unfolding body_of and_then
steps-load r f s x = load-body r f x.served x.header ∙ rw (x.gathered, x.settles) x.finishes
