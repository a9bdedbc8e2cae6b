use Rattle.ob_resolve.proofs.Referring.{selected_refers}
use Rattle.ob_resolve.proofs.identifier_reference.selector_reference.Goals as goal

pub returns : goal.returns
returns c = selected_refers c.args.view.now c.args.found.now c.args.number c.args.selector _ _ c.args.written _ c.requires.found c.requires.written c.requires.position_is c.index-target.ensures c.use_role.ensures
