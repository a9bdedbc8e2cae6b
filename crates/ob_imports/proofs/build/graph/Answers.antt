use Rattle.ob_imports.specs.Files.{files_of}
use Rattle.ob_imports.proofs.OneOutcome.{only_said}
use Rattle.ob_imports.proofs.build.graph.Goals as goal

pub returns-clause-only : goal.returns-clause-only
returns-clause-only c = only_said (files_of c.args.parsed.now) c.build_graph.result c.build_graph.ensures
