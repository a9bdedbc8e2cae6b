use Rattle.std.proofs.Common.{◌≡◌, ◌++◌, take}
use Rattle.std.specs.String.{string_bytes}
use Rattle.ob_imports.specs.Names.{texts}
use Rattle.ob_imports.specs.Numbering.{pairs_from}
use Rattle.ob_imports.proofs.edges.append_edges.Given as goal

abbrev pub invariant-loop-import : goal.invariant-loop-import
invariant-loop-import l = l.pairs.items ≡ l.fn.pairs.items ++ pairs_from (texts l.table.keys) (string_bytes l.file.name) (texts (take l.import-index l.import-items))
