use Rattle.std.proofs.Common.{◌≡◌, ◌∙◌, List, Err, ap, sym, subst}
use Rattle.std.proofs.lemmas.Result.{IfOk-weaker}
use Rattle.digraph.specs.Chains.{IsAcyclic}
use Rattle.ob_imports.specs.Files.{files_of as parsed_files, File, Imports}
use Rattle.ob_imports.specs.Outcomes.{AreFilesOfGraph, IsGraphOutcome, UnlessMemory}
use Rattle.source_tree.specs.FileFaults.{AreTreeFaults, of_imports, of_nothing}
use Rattle.source_tree.specs.Trees.{files_of}
use Rattle.source_tree.specs.declared.tree_fault.TreeFault.{TreeFault}
use Rattle.source_tree.proofs.FileFaults.{graph_fault_of}
use Rattle.source_tree.proofs.file_faults.import_faults.Goals as goal

pub returns-in-Ok : goal.returns-in-Ok
returns-in-Ok c =
    let (files, read) = c.requires in
    let whole : parsed_files c.as_slice.result.now ≡ files_of files = ap parsed_files c.as_slice.ensures.value ∙ c.in_ok-parsed.ensures files read in
    let (kept, acyclic) = c.in-Ok.ensures.exact in
    subst (λ (faults : List TreeFault). AreTreeFaults c.args.sources.now faults) (sym c.new.ensures.items) (of_nothing (record {
      accepted = read.accepted;
      graph = c.in-Ok.field-0;
      kept = subst (λ (fs : List File). AreFilesOfGraph fs c.in-Ok.field-0) whole kept;
      acyclic = subst (λ (fs : List File). IsAcyclic (Imports fs)) whole acyclic;
    }))

pub returns : goal.returns
returns c =
    let (files, read) = c.requires in
    let whole : parsed_files c.as_slice.result.now ≡ files_of files = ap parsed_files c.as_slice.ensures.value ∙ c.in_ok-parsed.ensures files read in
    let refused = subst (λ (fs : List File). UnlessMemory c.in-Err.fault (λ refusal. IsGraphOutcome fs (Err refusal))) whole c.in-Err.ensures.exact in
    IfOk-weaker c.single_fault.result _ _
    (λ v (is, known). subst (λ (faults : List TreeFault). AreTreeFaults c.args.sources.now faults) (sym is) (of_imports (graph_fault_of c.args.sources.now files c.in-Err.fault read.accepted known refused)))
    c.single_fault.ensures
