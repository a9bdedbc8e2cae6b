use Rattle.ob_tree.proofs.DeclarationLayers.{declaring_made}
use Rattle.ob_grammar.specs.ReadModules.{module_at, module_after_name}
use Rattle.std.proofs.Common.{arith}
use Rattle.ob_tree.specs.Declaring.{module_events}
use Rattle.ob_parse.proofs.Boxes.{gives_boxed}
use Rattle.ob_parse.proofs.modules.module.Goals as goal

pub returns : goal.returns
unfolding module_at module_after_name
returns c = gives_boxed c.args.tokens.now module_events _ _ c.box_value.result _ c.box_value.ensures.of c.box_value.ensures.refused (grind (arith, declaring_made))
