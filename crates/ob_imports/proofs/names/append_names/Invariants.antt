use Rattle.std.proofs.Common.{◌≡◌, ◌++◌, take}
use Rattle.ob_imports.specs.Names.{texts}
use Rattle.ob_imports.proofs.names.append_names.Given as goal

abbrev pub invariant-loop-name : goal.invariant-loop-name
invariant-loop-name l = texts l.table.keys ≡ texts l.fn.table.keys ++ texts (take l.name-index l.names)
