use Rattle.ob_tree.specs.Constructs as constructs
use Rattle.ob_grammar.specs.ReadNames.{qualident_after}
use Rattle.table_reader.proofs.Combine.{failed_node}
use Rattle.table_reader.proofs.TypeTrees.{named_told}
use Rattle.table_reader.proofs.types.named_type.Goals as goal

pub returns-in-Ok-clause-effect : goal.returns-in-Ok-clause-effect
returns-in-Ok-clause-effect c = named_told c.args.tokens.now c.args.context c.in-Ok.name (qualident_after c.args.head) _ _ _ c.in-Ok.rest c.in-Ok.ensures.read c.append_type_name.ensures.stage

pub returns-in-Err-clause-effect : goal.returns-in-Err-clause-effect
returns-in-Err-clause-effect c = failed_node c.args.tokens.now constructs.NamedType (qualident_after c.args.head) _ _ c.in-Err.ensures.read
