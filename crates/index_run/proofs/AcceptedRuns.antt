-- Runs that leave out the files with faults of their own.
use Rattle.std.proofs.Common.{◌≡◌, ℕ, List, Option, Some, Ok, subst}
use Rattle.std.specs.String.{string_bytes}
use Rattle.index_run.proofs.SameBytes.{hex_once, index_once, puts_same}
use Rattle.index_run.specs.IndexRuns.{IsHexText, IsIndexingRun, IsIndexText, IsRunTo}
use Rattle.oscip_job.specs.declared.job.IndexRequest.{IndexRequest}
use Rattle.oscip_job.specs.declared.job.Output.{Output}
use Rattle.oscip_job.specs.declared.job.Output.TheVariants as outputs
use Rattle.source_tree.proofs.OneParting.{one_accepted}
use Rattle.source_tree.specs.FileFaults.{ArePartitionedFiles}
use Rattle.source_tree.specs.declared.source.Source.{Source}
use Rattle.source_tree.specs.declared.tree_fault.TreeFault.{TreeFault}

-- two runs on the same files that end well put the same bytes
runs_same : (output : Output) (sources : List Source) (package_name root before : List ℕ) (new other : Option (List ℕ))
    → IsRunTo output sources package_name root (Some before) new (Ok tt) → IsRunTo output sources package_name root (Some before) other (Ok tt) → new ≡ other
runs_same (outputs.File path) sources package_name root before new other = puts_same (IsIndexText sources package_name root) (index_once sources package_name root) before new other
runs_same outputs.Hex sources package_name root before new other = puts_same (IsHexText sources package_name root) (hex_once sources package_name root) before new other

-- and so do two that leave files out, which leave out the same ones
pub accepted_same : (sources accepted others : List Source) (faults more : List TreeFault) (it : IndexRequest) (workers : ℕ) (before : List ℕ) (new other : Option (List ℕ))
    → ArePartitionedFiles sources accepted faults → ArePartitionedFiles sources others more
    → IsIndexingRun accepted it (Some before) new (Ok tt) → IsIndexingRun others (record it { workers = workers }) (Some before) other (Ok tt) → new ≡ other
accepted_same sources accepted others faults more it workers before new other a b run again =
    runs_same it.output others (string_bytes it.package) (string_bytes it.root) before new other
    (subst (λ (files : List Source). IsIndexingRun files it (Some before) new (Ok tt)) (one_accepted sources accepted others faults more a b) run) again
