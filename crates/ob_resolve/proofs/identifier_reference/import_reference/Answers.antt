use Rattle.ob_targets.specs.declared.syntax_position.SyntaxPosition.TheVariants as syntax_positions
use Rattle.ob_resolve.proofs.Referring.{item_refers, stands_placed}
use Rattle.ob_resolve.proofs.identifier_reference.import_reference.Goals as goal

pub module_target-requires : goal.module_target-requires
module_target-requires c = stands_placed c.args.view.now c.args.number (syntax_positions.Item c.args.item) c.requires

pub returns : goal.returns
returns c = item_refers c.args.view.now c.args.number c.args.item _ c.requires c.module_target.ensures
