use Rattle.std.proofs.Common.{◌≡◌, ◌++◌, take}
use Rattle.ob_imports.specs.Names.{texts}
use Rattle.ob_imports.specs.Numbering.{lacked}
use Rattle.ob_imports.proofs.names.append_missing_names.Given as goal

abbrev pub invariant-loop-name : goal.invariant-loop-name
invariant-loop-name l = texts l.others.items ≡ texts l.fn.others.items ++ lacked (texts l.table.keys) (texts (take l.name-index l.names))
