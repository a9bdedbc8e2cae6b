use Rattle.std.proofs.Common.{sym}
use Rattle.ob_scan.proofs.Strings.{string_token, string_open}
use Rattle.ob_scan.proofs.lexeme.string_lexeme.Goals as goal

pub returns-in-Some : goal.returns-in-Some
returns-in-Some c =
    let t = string_token c.args.rest.now c.in-Some.n c.requires (sym c.in-Some.ensures.value) in
    (t.0, t.1, c.in-Some.ensures.within)

pub returns-in-None : goal.returns-in-None
returns-in-None c = record { quote = c.requires; no_other = string_open c.args.rest.now c.requires (sym c.in-None.ensures.value) }
