use Rattle.std.proofs.Common.{◌∙◌}
use Rattle.source_tree.proofs.TreeFiles.{same_file}
use Rattle.source_tree.proofs.tree_reading.graph_input.Goals as goal

pub returns : goal.returns
returns c file accepted scoped = same_file c.args.source.now file c.args.scopes.now (record { path = c.in_ok-path.path; name = c.in_ok-name.name; imports = c.in_ok-imports.imports }) (c.in_ok-path.ensures.ok ∙ c.as_str.ensures.value) (c.in_ok-name.ensures.ok ∙ c.name.ensures) c.in_ok-imports.ensures accepted scoped
