-- The hint is the first index.
use Rattle.std.proofs.Common.{sym}
use Rattle.module_table.specs.declared.rows.Declared.{Declared}
use Rattle.ob_emit.proofs.Numbered.{position_there}
use Rattle.ob_emit.proofs.declaration_index.DeclarationIndex.index_by_hint.Goals as goal

pub returns-then-is_declaration_at : goal.returns-then-is_declaration_at
returns-then-is_declaration_at c =
    let here = rw c.if-is_declaration_at.true at c.is_declaration_at.ensures in
    sym (position_there (λ (d : Declared). d.number) c.args.self.now.declared.now c.args.hint c.args.number c.args.self.now.ascend here)
