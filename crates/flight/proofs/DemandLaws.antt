-- 15.8 to 15.16, all of them. Assumes nothing.
use mathlib.Core.Path.{◌≡◌}
use mathlib.Core.List.{List}
use Prim.Native.Nat.{ℕ}
use Rattle.manager.specs.declared.State.{State}
use Rattle.wpl.specs.Header.{serial_of}
use Rattle.wpl.proofs.StartLaws.{starts}
use Rattle.flight.specs.Demand.{Loads, cut_out, Demand}
use Rattle.flight.proofs.RunLaws.{only-chain, alike_runs, answered-run, plain-run}
use Rattle.flight.proofs.OlderLaws.{too-new, otherwise-loads, only-newer, same-state}
use Rattle.flight.proofs.LaterLaws.{is_cut, cut-loads, uncut-loads}

-- two states that one file loads to
one_state : (f : List ℕ) (s t : State) → Loads 3 f s → Loads 3 f t → s ≡ t
one_state f s t h g = cc

pub demand : Demand
demand =
    record {
      refuses = λ f s h r o. (only-newer f s h r o, too-new f s h r o);
      otherwise = λ f s h r o. otherwise-loads f s h r o;
      alike = λ f s₁ s₃ r o h₁ h₃ fixes. alike_runs s₁ s₃ (same-state f s₃ h₃ r o s₁ h₁) fixes;
      chained = λ s fixes os. only-chain s fixes os;
      cutting = λ f later. is_cut f later;
      cut =
          λ f later.
          (λ x. (x.0, cut-loads f (cut_out f) later (is_cut f later) x.0 x.1), λ x. (x.0, uncut-loads f (cut_out f) later (is_cut f later) x.0 x.1));
      same = λ f later s t h g. one_state f s t h (uncut-loads f (cut_out f) later (is_cut f later) t g);
      valid = λ r f s h. (starts r f).valid s h;
      flies = λ r f s h fixes. answered-run s (serial_of f) ((starts r f).valid s h) ((starts r f).serial s h) fixes;
      plain = plain-run;
    }
