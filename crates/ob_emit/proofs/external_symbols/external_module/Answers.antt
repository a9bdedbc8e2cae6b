-- The module's name.
use Rattle.std.proofs.Common.{◌≡◌, Some, sym, ap, ◌∙◌, subst}
use Rattle.std.specs.Borrow.{Bor}
use Rattle.std.specs.Prelude.{slice_get}
use Rattle.std.specs.Option.{option_map}
use Rattle.module_table.specs.declared.rows.Import.{Import}
use Rattle.ob_emit.specs.Named.{IsName}
use Rattle.ob_emit.proofs.Naming.{import_named}
use Rattle.ob_emit.proofs.external_symbols.external_module.Goals as goal

pub module_text-requires : goal.module_text-requires
module_text-requires c =
    let there : slice_get c.args.view.now.rows.imports c.args.item ≡ Some c.in-Some.import.now = sym c.import_at.ensures ∙ ap (option_map (λ (i : Bor Import). i.now)) c.in-Some.is in
    subst IsName (sym c.text-name.ensures) (import_named c.args.view.now c.requires.named c.in-Some.import.now c.args.item there)

pub symbol_info-requires : goal.symbol_info-requires
symbol_info-requires c =
    let there : slice_get c.args.view.now.rows.imports c.args.item ≡ Some c.in-Some.import.now = sym c.import_at.ensures ∙ ap (option_map (λ (i : Bor Import). i.now)) c.in-Some.is in
    subst IsName (sym c.text-name.ensures) (import_named c.args.view.now c.requires.named c.in-Some.import.now c.args.item there)
