use Rattle.std.proofs.Common.{◌≡◌, take}
use Rattle.cut_rules.specs.Names.{names_in}
use Rattle.cut_rules.proofs.names.module_names.Given as goal

abbrev pub invariant-loop-node : goal.invariant-loop-node
invariant-loop-node l = names_in l.names.keys ≡ take l.node l.net.names
