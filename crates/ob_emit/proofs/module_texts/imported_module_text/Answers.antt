-- The module's symbol string.
use Rattle.std.proofs.Common.{◌≡◌, ◌++◌, ℕ, List, Some, sym, ap, ◌∙◌, subst}
use Rattle.std.specs.Borrow.{Bor}
use Rattle.std.specs.Prelude.{slice_get}
use Rattle.std.specs.Option.{option_map}
use Rattle.std.specs.String.{string_bytes}
use Rattle.module_table.specs.declared.rows.Import.{Import}
use Rattle.ob_emit.specs.Named.{IsName}
use Rattle.ob_emit.proofs.Naming.{import_named}
use Rattle.ob_emit.specs.Symbols.{module_path}
use Rattle.ob_emit.specs.StoredTexts.{path_text}
use Rattle.ob_emit.proofs.Texting.{module_text_is}
use Rattle.ob_emit.proofs.module_texts.imported_module_text.Goals as goal

pub module_text-requires : goal.module_text-requires
module_text-requires c =
    let there : slice_get c.args.view.now.rows.imports c.args.item ≡ Some c.in-Some.import.now = sym c.import_at.ensures ∙ ap (option_map (λ (i : Bor Import). i.now)) c.in-Some.is in
    subst IsName (sym c.text.ensures) (import_named c.args.view.now c.requires c.in-Some.import.now c.args.item there)

pub returns : goal.returns
returns c = λ p made.
    let w = c.args.view.now in
    let there : slice_get w.rows.imports c.args.item ≡ Some c.in-Some.import.now = sym c.import_at.ensures ∙ ap (option_map (λ (i : Bor Import). i.now)) c.in-Some.is in
    module_text_is w p c.args.item c.in-Some.import.now c.prefix_of.result.now (string_bytes c.in_ok-text.text) there (c.prefix_of.ensures p made)
    (c.in_ok-text.ensures ∙ ap (λ (x : List ℕ). c.prefix_of.result.now ++ path_text (module_path x)) c.text.ensures)
