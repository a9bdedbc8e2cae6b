-- The entry that the table's look-up finds.
use Rattle.std.proofs.Common.{◌∙◌}
use Rattle.module_table.specs.declared.rows.Declared.{Declared}
use Rattle.ob_emit.proofs.Numbered.{find_answer}
use Rattle.ob_emit.proofs.own_declarations.declared_at.Goals as goal

pub returns : goal.returns
returns c =
    c.copied.ensures ∙ find_answer (λ (d : Declared). d.number) c.args.table.now.declared.items c.args.number c.declaration.result c.invariants.ensures.declared
    c.declaration.ensures.found c.declaration.ensures.number c.declaration.ensures.none
