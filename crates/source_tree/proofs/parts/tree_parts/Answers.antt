use Rattle.std.proofs.Common.{◌≡◌, ◌∙◌, List, ap, subst, sym}
use Rattle.digraph.specs.Chains.{IsAcyclic}
use Rattle.ob_imports.specs.Files.{files_of as parsed_files, File, Imports}
use Rattle.ob_imports.specs.Outcomes.{AreFilesOfGraph}
use Rattle.source_tree.specs.Trees.{files_of}
use Rattle.source_tree.specs.Parts.{AreAllParts}
use Rattle.source_tree.proofs.parts.tree_parts.Goals as goal

pub returns-clause-parts : goal.returns-clause-parts
returns-clause-parts g c =
    let (files, are) = c.in_ok-modules.ensures.kept in
    let graph_inputs = c.in_ok-graph_inputs.ensures files (subst (AreAllParts c.args.sources.now files) (sym c.as_slice.ensures.value) are) in
    let whole : parsed_files c.as_slice-2.result.now ≡ files_of files = ap parsed_files c.as_slice-2.ensures.value ∙ graph_inputs in
    let (kept, acyclic) = c.in_ok-graph.ensures.exact in (
      files,
      record {
        all = are;
        kept = subst (λ (fs : List File). AreFilesOfGraph fs c.in_ok-graph.graph) whole kept;
        acyclic = subst (λ (fs : List File). IsAcyclic (Imports fs)) whole acyclic;
      },
    )
