use Rattle.std.proofs.Common.{◌≡◌, ◌∙◌, List, ap, subst, sym}
use Rattle.digraph.specs.Chains.{IsAcyclic}
use Rattle.ob_imports.specs.Files.{files_of as parsed_files, File, Imports}
use Rattle.ob_imports.specs.Outcomes.{AreFilesOfGraph}
use Rattle.source_tree.specs.Trees.{files_of}
use Rattle.source_tree.specs.TreeReading.{AreFilesRead, IsTreeOf}
use Rattle.source_tree.specs.declared.tree_reading.ScopedTree.{ScopedTree}
use Rattle.source_tree.proofs.tree_reading.build_tree.Goals as goal

pub returns-clause-tree : goal.returns-clause-tree
returns-clause-tree c =
    let (files, read) = c.requires in
    let message = c.in_ok-parsed.ensures files (subst (AreFilesRead c.args.sources.now files) (sym c.as_slice.ensures.value) read) in
    let whole : parsed_files c.as_slice-2.result.now ≡ files_of files = ap parsed_files c.as_slice-2.ensures.value ∙ message in
    let (kept, acyclic) = c.in_ok-graph.ensures.exact in
    subst (IsTreeOf c.args.sources.now) (sym c.in_ok-new.ensures.ok) (record {
      files = files;
      read = read;
      kept = subst (λ (fs : List File). AreFilesOfGraph fs c.in_ok-graph.graph) whole kept;
      acyclic = subst (λ (fs : List File). IsAcyclic (Imports fs)) whole acyclic;
    })

pub returns-clause-scopes : goal.returns-clause-scopes
returns-clause-scopes c = ap (λ (t : ScopedTree). t.scopes) c.in_ok-new.ensures.ok
