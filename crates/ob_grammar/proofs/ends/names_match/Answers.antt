use Rattle.std.proofs.Common.{◌≡◌, ◌∙◌, refl, get_or}
use Rattle.std.specs.Str.{bytes_eq}
use Rattle.ob_scan.specs.Texts.{bytes_of}
use Rattle.ob_grammar.proofs.RightEnds.{end_is, any_token}
use Rattle.ob_grammar.proofs.ends.names_match.Goals as goal

pub returns : goal.returns
returns c =
    let same : c.eq.result ≡ bytes_eq (bytes_of c.args.bytes.now (get_or c.args.tokens.now c.args.name any_token)) (bytes_of c.args.bytes.now (get_or c.args.tokens.now c.args.end any_token)) = c.eq.ensures ∙ rw (c.token_bytes.ensures, c.token_bytes-2.ensures) refl in
    end_is c.args.bytes.now c.args.tokens.now c.args.name c.args.end any_token c.eq.result c.requires.in_range.0 c.requires.in_range.1 same
