use Rattle.std.proofs.Common.{sym}
use Rattle.ob_scan.specs.Tokens.{number}
use Rattle.ob_scan.proofs.lexeme.number_lexeme.Goals as goal

pub returns-in-Some : goal.returns-in-Some
returns-in-Some c = (number c.requires (sym c.in-Some.ensures.value), c.in-Some.ensures.some, c.in-Some.ensures.within)
