use Rattle.std.proofs.Common.{sym, ◌∙◌, rules}
use Rattle.texts.proofs.EscapeLemmas.{char_stays}
use Rattle.texts.proofs.escape.append_char.Goals as goal

pub returns-else-is_ascii_control : goal.returns-else-is_ascii_control
returns-else-is_ascii_control c = rw (char_stays c.args.character (sym c.is_ascii_control.ensures.value ∙ c.if-is_ascii_control.false)) (search rules)
