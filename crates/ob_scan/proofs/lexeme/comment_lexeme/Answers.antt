use Rattle.std.proofs.Common.{arith}
use Rattle.ob_scan.specs.Spelling.{comment}
use Rattle.ob_scan.proofs.Closings.{closes_from, closes_none}
use Rattle.ob_scan.proofs.lexeme.comment_lexeme.Goals as goal

pub returns-in-Some : goal.returns-in-Some
returns-in-Some c =
    let e = c.in-Some.ensures in
    (comment c.requires e.1 (closes_from _ _ e.2), omega (arith, e.0), e.1)

pub returns-in-None : goal.returns-in-None
returns-in-None c = record { opens = c.requires; no_end = closes_none _ c.in-None.ensures }
