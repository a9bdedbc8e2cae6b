use Rattle.source_tree.proofs.OneParting.{first_is_fault, nothing_told, fault_list_is_unique}
use Rattle.source_tree.proofs.laws.fault_list_is_unique.Goals as goal

pub returns-clause-message : goal.returns-clause-message
returns-clause-message c = fault_list_is_unique

pub returns-clause-nothing : goal.returns-clause-nothing
returns-clause-nothing c = nothing_told

pub returns-clause-first : goal.returns-clause-first
returns-clause-first c = first_is_fault
