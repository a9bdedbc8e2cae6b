use Rattle.std.proofs.Common.{sym}
use Rattle.texts.proofs.FieldNames.{name_is_text}
use Rattle.texts.proofs.fields.parse_field_name.Goals as goal

pub from_utf8_unchecked-requires : goal.from_utf8_unchecked-requires
from_utf8_unchecked-requires c = name_is_text c.args.bytes.now (sym c.if-not-is_identifier.ensures)
