use Rattle.std.proofs.Common.{ℕ, List, take}
use Rattle.ob_scan.specs.declared.token.Token.{Token}
use Rattle.ob_scan.specs.Texts.{text_at}
use Rattle.module_table.specs.Tables.{rows_in}
use Rattle.ob_scope.specs.Crossings.{AreCrossings, AreScopesOf}
use Rattle.ob_scope.proofs.crossing_uses.crossings.Given as goal

abbrev pub invariant-loop-used : goal.invariant-loop-used
invariant-loop-used l = (bytes : List ℕ) (ts : List Token) → AreScopesOf bytes ts (rows_in l.table) l.members l.scopes → AreCrossings (text_at bytes ts) (rows_in l.table) l.imported (take l.used-index l.used-items) l.found.items
