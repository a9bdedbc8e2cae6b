-- The edges are exactly the imports.
use Rattle.std.proofs.Common.{List, sym, subst}
use Rattle.std.specs.Prelude.{Contains}
use Rattle.digraph.specs.declared.edge.Edge.{Edge}
use Rattle.ob_imports.specs.Files.{files_of}
use Rattle.ob_imports.specs.Names.{texts}
use Rattle.ob_imports.proofs.Nodes.{pairs_lead}
use Rattle.ob_imports.proofs.edges.import_edges.Goals as goal

pub returns-clause-leads : goal.returns-clause-leads
returns-clause-leads c v w =
    let pair : Edge = record { from = v; to = w } in
    let same = c.sort_and_dedup.ensures.same pair in
    let lead = pairs_lead (texts c.args.table.now.keys) (files_of c.args.parsed.now) c.requires.once c.requires.known v w in
    let are = c.in_ok-pairs.ensures in (
      λ h. lead.0 (subst (λ (ps : List Edge). Contains ps pair) are (same.0 h)),
      λ h. same.1 (subst (λ (ps : List Edge). Contains ps pair) (sym are) (lead.1 h)),
    )
