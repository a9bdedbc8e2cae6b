use Rattle.std.proofs.Common.{sym, ap, ◌∙◌}
use Rattle.std.specs.Option.{option_copied}
use Rattle.module_table.specs.declared.rows.Import.{Import}
use Rattle.ob_view.proofs.Firsts.{placed_before, placed_none}
use Rattle.ob_view.proofs.indexes.follows_all_aliases.Goals as goal

pub returns-in-Some : goal.returns-in-Some
returns-in-Some c = λ e.
    placed_before (λ (x : Import). x.alias) c.args.imports.now c.args.alias c.requires c.in-Some.item.now (sym c.last.ensures.value ∙ ap option_copied c.in-Some.is) e

pub returns-in-None : goal.returns-in-None
returns-in-None c = λ e. placed_none (λ (x : Import). x.alias) c.args.imports.now c.args.alias (sym c.last.ensures.value ∙ ap option_copied c.in-None.is)
