use Rattle.std.proofs.Common.{map, take}
use Rattle.std.specs.List.{All}
use Rattle.module_table.specs.Tables.{rows_in}
use Rattle.ob_grammar.specs.Parsed.{IsRightEnd}
use Rattle.table_rules.specs.Naming.{ending_of}
use Rattle.table_reader.proofs.ends.first_wrong_end.Given as goal

abbrev pub invariant-names : goal.invariant-names
invariant-names l = All (IsRightEnd l.bytes l.tokens) (take l.end-index (map ending_of (rows_in l.table).ends))
