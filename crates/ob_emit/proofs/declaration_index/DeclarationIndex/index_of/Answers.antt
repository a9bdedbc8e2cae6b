-- The index that is found is the first.
use Rattle.module_table.specs.declared.rows.Declared.{Declared}
use Rattle.ob_emit.proofs.Numbered.{position_answer}
use Rattle.ob_emit.proofs.declaration_index.DeclarationIndex.index_of.Goals as goal

pub returns : goal.returns
returns c = position_answer (λ (d : Declared). d.number) c.args.self.now.declared.now c.args.number c.lookup.result c.args.self.now.ascend c.lookup.ensures.found c.lookup.ensures.none
