use Rattle.std.proofs.Common.{sym}
use Rattle.ob_scan.proofs.Signs.{IsPlain, delimiter_token, delimiter_none}
use Rattle.ob_scan.proofs.lexeme.delimiter_lexeme.Goals as goal

pub returns-in-Some : goal.returns-in-Some
returns-in-Some c =
    let r = c.requires in
    let plain : IsPlain c.args.rest.now = record { digit = r.no_digit; letter = r.no_letter; quote = r.no_quote; comment = r.no_comment } in
    let s = delimiter_token c.args.rest.now _ _ plain (sym c.in-Some.ensures) in
    (s.token, s.some, s.within)

pub returns-in-None : goal.returns-in-None
returns-in-None c =
    let r = c.requires in
    let plain : IsPlain c.args.rest.now = record { digit = r.no_digit; letter = r.no_letter; quote = r.no_quote; comment = r.no_comment } in
    record {
      some = r.some;
      no_blank = r.no_blank;
      no_comment = r.no_comment;
      no_digit = r.no_digit;
      no_quote = r.no_quote;
      no_text = delimiter_none c.args.rest.now r.some plain (sym c.in-None.ensures);
    }
