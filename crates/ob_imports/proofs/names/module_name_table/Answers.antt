-- A new table has exactly the names of the files' modules.
use Rattle.std.proofs.Common.{◌∙◌, refl}
use Rattle.std.proofs.lemmas.List.{nil_from_length}
use Rattle.ob_imports.proofs.names.module_name_table.Goals as goal

pub returns : goal.returns
returns c = c.in_ok-append_names.ensures ∙ rw (nil_from_length _ c.with_hasher-table.ensures.len, c.as_slice.ensures.value, c.in_ok-names.ensures) refl
