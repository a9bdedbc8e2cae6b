use Rattle.std.proofs.Common.{ℕ, List, map, subst, ◌∙◌}
use Rattle.std.specs.Arc.{arc_value}
use Rattle.scip_index.specs.Plain.{document_model, symbol_model}
use Rattle.ob_board.specs.Entries.{entry_model, IsWritten}
use Rattle.ob_board.proofs.EntryHanding.{made_entry}
use Rattle.ob_board.proofs.built.build_entry.Goals as goal

pub invariant_of-result : goal.invariant_of-result
invariant_of-result g c =
    let s = c.args.source.now in
    let parts = c.args.parts.now in
    let reached = map arc_value c.args.reached.now in
    let document = document_model c.in_ok-document.field-0.document in
    let rows = map symbol_model c.in_ok-document.field-0.externals.items in
    made_entry g.F.NamedIndex.files g.F.NamedIndex.package_name s parts reached
    (entry_model (record { name = c.in_ok-name.name; document = c.in_ok-document.field-0.document; interface = c.in_ok-interface.interface; externals = c.in_ok-document.field-0.externals }))
    c.requires.input (subst (λ (p : List ℕ). IsWritten s parts reached p document rows) c.requires.package c.in_ok-document.ensures)
    (c.in_ok-name.ensures.ok ∙ c.name.ensures ∙ c.requires.input.is_read.scopes.name) c.in_ok-interface.ensures
