-- The module's symbol string, and the name after it.
use Rattle.std.proofs.Common.{◌≡◌, ◌++◌, ℕ, List, Some, sym, ap, ◌∙◌, subst}
use Rattle.std.specs.Borrow.{Bor}
use Rattle.std.specs.Prelude.{slice_get}
use Rattle.std.specs.Option.{option_map}
use Rattle.std.specs.String.{string_bytes}
use Rattle.module_table.specs.declared.rows.Import.{Import}
use Rattle.ob_emit.specs.Named.{IsName}
use Rattle.ob_emit.proofs.Naming.{import_named}
use Rattle.ob_emit.specs.Symbols.{descriptor, module_path}
use Rattle.ob_emit.specs.StoredTexts.{path_text}
use Rattle.scip_symbol.specs.SymbolTexts.{canonical_descriptor_text}
use Rattle.scip_symbol.specs.declared.kind.DescriptorKind.TheVariants.{Term}
use Rattle.ob_emit.proofs.Texting.{external_text_is}
use Rattle.ob_emit.proofs.module_texts.external_text.Goals as goal

pub module_text-requires : goal.module_text-requires
module_text-requires c =
    let there : slice_get c.args.view.now.rows.imports c.args.item ≡ Some c.in-Some.import.now = sym c.import_at.ensures ∙ ap (option_map (λ (i : Bor Import). i.now)) c.in-Some.is in
    subst IsName (sym c.text.ensures) (import_named c.args.view.now c.requires.named c.in-Some.import.now c.args.item there)

pub returns : goal.returns
returns c = λ prefix.
    let w = c.args.view.now in
    let there : slice_get w.rows.imports c.args.item ≡ Some c.in-Some.import.now = sym c.import_at.ensures ∙ ap (option_map (λ (i : Bor Import). i.now)) c.in-Some.is in
    external_text_is w c.args.item c.args.name.now c.in-Some.import.now c.args.outside.now (string_bytes c.in_ok-out.out) (string_bytes c.append_simple_descriptor.new.out) there
    prefix
    (c.in_ok-out.ensures ∙ ap (λ (x : List ℕ). c.args.outside.now ++ path_text (module_path x)) c.text.ensures)
    (c.in_ok-append_simple_descriptor.ensures ∙ ap (λ (x : List ℕ). string_bytes c.in_ok-out.out ++ canonical_descriptor_text (descriptor Term x)) c.name_str.ensures)
