use Rattle.std.proofs.Common.{◌≡◌, List, subst}
use Rattle.digraph.specs.Chains.{IsAcyclic}
use Rattle.ob_imports.specs.Files.{File, Imports}
use Rattle.ob_imports.specs.Outcomes.{AreFilesOfGraph}
use Rattle.source_tree.specs.Trees.{files_of}
use Rattle.source_tree.proofs.SameFiles.{same_files}
use Rattle.ob_parse.proofs.reading.read_tree.Goals as goal

pub returns-clause-read : goal.returns-clause-read
returns-clause-read g c =
    let (files, of) = c.in_ok-graph.ensures.parts in
    let (read, are) = c.in_ok-modules.ensures.read in
    let same : files_of files ≡ files_of read = same_files c.args.sources.now files read of.all.accepted are.accepted in (
      read,
      record {
        all = are;
        kept = subst (λ (fs : List File). AreFilesOfGraph fs c.in_ok-graph.field-0.graph) same of.kept;
        acyclic = subst (λ (fs : List File). IsAcyclic (Imports fs)) same of.acyclic;
      },
    )
