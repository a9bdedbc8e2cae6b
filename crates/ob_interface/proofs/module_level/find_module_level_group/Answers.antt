-- The declaration group with the found index, if it is in the module's block.
use Rattle.std.proofs.Common.{sym, ◌∙◌}
use Rattle.module_table.specs.declared.rows.DeclGroup.{DeclGroup}
use Rattle.module_table.proofs.SearchResult.{placed_within}
use Rattle.ob_interface.proofs.FoundRows.{inner_read, none_begins, outer_read}
use Rattle.ob_interface.proofs.module_level.find_module_level_group.Goals as goal

pub bounds-decl_groups-at : goal.bounds-decl_groups-at
bounds-decl_groups-at c = placed_within (λ (d : DeclGroup). d.first) c.args.decl_groups.now c.args.first c.in_ok-at.at c.in_ok-at.ensures.found

pub returns-in_err-at : goal.returns-in_err-at
returns-in_err-at c = c.from_residual.ensures ∙ sym (none_begins c.args.decl_groups.now c.requires c.args.first c.in_err-at.ensures.none)

pub returns-then-is_module_level : goal.returns-then-is_module_level
returns-then-is_module_level c = outer_read c.args.decl_groups.now c.requires c.args.first c.in_ok-at.at _ c.in_ok-at.ensures.found c.if-is_module_level.true

pub returns-else-is_module_level : goal.returns-else-is_module_level
returns-else-is_module_level c = inner_read c.args.decl_groups.now c.requires c.args.first c.in_ok-at.at _ c.in_ok-at.ensures.found c.if-is_module_level.false
