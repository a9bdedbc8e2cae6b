use Rattle.std.proofs.Common.{◌∙◌}
use Rattle.ob_types.proofs.indexed_module.IndexedModule.field_at.Goals as goal

pub returns : goal.returns
returns c = c.copied.ensures ∙ c.get.ensures.value ∙ rw c.deref.ensures (c.args.self.now.fields_exact (c.args.«record», record { bytes = c.args.name }))
