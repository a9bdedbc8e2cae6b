use Rattle.ob_interface.proofs.interface.Interface.module_of.Goals as goal

pub module_name_by_alias-requires-clause-by_name : goal.module_name_by_alias-requires-clause-by_name
module_name_by_alias-requires-clause-by_name c = rw c.as_slice.ensures.value c.self.invariant.by_alias

pub module_name_by_alias-requires-clause-indexes : goal.module_name_by_alias-requires-clause-indexes
module_name_by_alias-requires-clause-indexes c = rw c.as_slice.ensures.value c.self.invariant.imported

pub returns : goal.returns
returns c = rw (← c.self.view_is) c.module_name_by_alias.ensures
