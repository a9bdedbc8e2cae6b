-- The faults of a tree imply the definition of a run that lists them.
use Rattle.std.proofs.Common.{◌≡◌, ℕ, Bool, true, false, List, [], ◌∷◌, Option, Ok, Err, codes, refl, sym, subst, inr}
use Rattle.std.proofs.lemmas.Bool.{false≢true}
use Rattle.byte_sink.specs.declared.sink.SinkFault.{SinkFault}
use Rattle.byte_sink.specs.declared.sink.SinkFault.TheVariants as sink
use Rattle.byte_sink.specs.Sinks.{AppendsPrefix}
use Rattle.oscip_run.specs.FaultRuns.{fault_lines, IsFaultsRun, IsFaultsText}
use Rattle.oscip_run.specs.Faults.{of_sink}
use Rattle.texts.specs.Places.{Style}
use Rattle.source_tree.specs.FileFaults.{AreTreeFaults}
use Rattle.source_tree.specs.declared.source.Source.{Source}
use Rattle.source_tree.specs.declared.tree_fault.TreeFault.{TreeFault}
use Rattle.source_tree.proofs.OneParting.{nothing_told}

-- an accepted tree
pub accepted : (style : Style) (sources : List Source) (faults : List TreeFault) → faults ≡ [] → AreTreeFaults sources faults → IsFaultsText style sources (codes "yes\n") true
accepted style sources [] e are = record { faults = []; are_faults = are; text_is = refl; agrees_is = (λ _. (nothing_told sources [] are).0 refl, λ _. refl) }
accepted style sources (fault ∷ faults) e are = absurd cc

-- a tree that is refused
pub refused : (style : Style) (sources : List Source) (faults : List TreeFault) → (faults ≡ [] → ⊥) → AreTreeFaults sources faults → IsFaultsText style sources (fault_lines style faults) false
refused style sources [] some are = absurd (some refl)
refused style sources (fault ∷ faults) some are = record {
  faults = fault ∷ faults;
  are_faults = are;
  text_is = refl;
  agrees_is = (λ e. absurd (false≢true e), λ tree. absurd (some ((nothing_told sources (fault ∷ faults) are).1 tree)));
}

-- a sink that failed
pub error_prefix : (style : Style) (sources : List Source) (text : List ℕ) (agrees : Bool) (old new : Option (List ℕ)) (fault : SinkFault) → IsFaultsText style sources text agrees → AppendsPrefix old new text →
    IsFaultsRun style sources old new (Err (of_sink fault))
error_prefix style sources text agrees old new sink.Memory is front = inr (text, agrees, is, front)
error_prefix style sources text agrees old new sink.Device is front = (text, agrees, is, front)
