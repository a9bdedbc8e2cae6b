use Rattle.ob_resolve.proofs.Referring.{use_refers}
use Rattle.ob_resolve.proofs.identifier_reference.use_reference.Goals as goal

pub returns : goal.returns
returns c = λ at is. use_refers c.args.view.now c.args.number at _ c.args.written _ c.requires.written c.use_target_at-target.ensures c.use_role.ensures is
