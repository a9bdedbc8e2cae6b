use Rattle.std.proofs.Common.{sym, ◌∙◌}
use Rattle.scip_symbol.proofs.Rows.{nameless_empty, nameless_some}
use Rattle.scip_symbol.proofs.writable.lacks_descriptor_or_name.Goals as goal

pub returns-then-is_empty : goal.returns-then-is_empty
returns-then-is_empty c = c.if-is_empty.true ∙ nameless_empty c.args.descriptors.now (sym c.if-is_empty.ensures)

pub returns-else-is_empty : goal.returns-else-is_empty
returns-else-is_empty c = c.has_unnamed_descriptor.ensures ∙ nameless_some c.args.descriptors.now (sym c.if-is_empty.ensures)
