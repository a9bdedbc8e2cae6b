use Rattle.std.proofs.Common.{ℕ, List, map, subst, ◌∙◌}
use Rattle.std.specs.Arc.{arc_value}
use Rattle.std.specs.String.{string_bytes}
use Rattle.scip_index.specs.Plain.{symbol_model}
use Rattle.ob_board.specs.Records.{IsEncoded}
use Rattle.ob_board.proofs.RecordHanding.{made_recorded}
use Rattle.ob_board.proofs.encoded.encode_entry.Goals as goal

pub invariant_of-result : goal.invariant_of-result
invariant_of-result g c =
    let s = c.args.source.now in
    let parts = c.args.parts.now in
    let reached = map arc_value c.args.reached.now in
    let bytes = c.in_ok-bytes.field-0.bytes.items in
    let rows = map symbol_model c.in_ok-bytes.field-0.externals.items in
    made_recorded g.F.NamedIndex.files g.F.NamedIndex.package_name s parts reached
    (record { name = string_bytes c.in_ok-name.name; bytes = bytes; interface = arc_value c.in_ok-interface.interface; externals = rows })
    c.requires.input (subst (λ (p : List ℕ). IsEncoded s parts reached p bytes rows) c.requires.package c.in_ok-bytes.ensures)
    (c.in_ok-name.ensures.ok ∙ c.name.ensures ∙ c.requires.input.is_read.scopes.name) c.in_ok-interface.ensures
