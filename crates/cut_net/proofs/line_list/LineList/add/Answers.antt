use Rattle.cut_net.proofs.line_list.LineList.add.Goals as goal

pub returns-in-Module-clause-twice : goal.returns-in-Module-clause-twice
returns-in-Module-clause-twice c = rw c.in-Module.is c.add_module.ensures.twice

pub returns-in-Import-clause-twice : goal.returns-in-Import-clause-twice
returns-in-Import-clause-twice c = rw c.in-Import.is c.add_import.ensures.twice
