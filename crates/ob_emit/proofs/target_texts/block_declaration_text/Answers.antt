-- The name of the module, and the names of its declarations.
use Rattle.std.proofs.Common.{sym, ap, ◌∙◌, subst}
use Rattle.ob_view.specs.World.{text}
use Rattle.ob_emit.specs.Named.{IsName}
use Rattle.ob_emit.proofs.Naming.{own_named, own_step_names}
use Rattle.ob_emit.proofs.OwnersBefore.{own_before}
use Rattle.ob_emit.proofs.target_texts.block_declaration_text.Goals as goal

pub path_text-requires-clause-module_named : goal.path_text-requires-clause-module_named
path_text-requires-clause-module_named c = subst IsName (sym (c.text.ensures ∙ ap (text c.args.view.now) c.module_name_token.ensures)) (own_named c.args.view.now c.requires)

pub path_text-requires-clause-named : goal.path_text-requires-clause-named
path_text-requires-clause-named c = own_step_names c.args.view.now c.requires

pub path_text-requires-clause-before : goal.path_text-requires-clause-before
path_text-requires-clause-before c = own_before c.args.view.now
