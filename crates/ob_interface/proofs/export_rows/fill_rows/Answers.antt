-- Each call decodes to its list, in a buffer that keeps growing.
use Rattle.std.proofs.Common.{List, ap, ◌∙◌}
use Rattle.std.specs.List.{filter_map}
use Rattle.std.specs.Prelude.{map}
use Rattle.module_table.specs.Tables.{rows_in}
use Rattle.module_table.specs.declared.rows.DeclGroup.{DeclGroup}
use Rattle.module_table.specs.declared.rows.Declared.{Declared}
use Rattle.module_table.specs.declared.rows.Record.{Record}
use Rattle.module_table.specs.declared.rows.Import.{Import}
use Rattle.ob_interface.specs.declared.rows.Rows.{Rows}
use Rattle.ob_interface.specs.Interfaces.{declaration_by, base_of, imported_of, module_level_by}
use Rattle.ob_interface.proofs.Assembled.{assembled}
use Rattle.ob_interface.proofs.export_rows.fill_rows.Goals as goal

pub returns : goal.returns
returns c =
    let bytes = c.args.source.now.bytes.now in
    let ts = c.args.source.now.tokens.now in
    let ps = c.args.own.now in
    let rows : Rows = record {
      text = c.collect_components.new.text;
      name = c.in_ok-rows.field-0;
      declarations = c.in_ok-rows-2.field-0;
      parts = c.in_ok-rows-5.field-0;
      bases = c.in_ok-rows-3.field-0;
      imports = c.in_ok-rows-4.field-0;
    } in
    assembled bytes ts (rows_in c.args.table.now) ps rows c.append_text.new.text.items c.collect_declarations.new.text.items c.collect_bases.new.text.items c.collect_imports.new.text.items c.requires.same (λ more. c.in_ok-rows.ensures.decoded more ∙ c.token_text.ensures) c.in_ok-rows-2.ensures.grown
    (λ more. c.in_ok-rows-2.ensures.decode more ∙ ap (λ (xs : List Declared). filter_map (λ r. declaration_by bytes ts ps r (module_level_by c.decl_groups-decl_groups.result.now r.declared_by)) xs) c.declared-declared.ensures
    ∙ ap (λ (ds : List DeclGroup). filter_map (λ r. declaration_by bytes ts ps r (module_level_by ds r.declared_by)) (rows_in c.args.table.now).declared) c.decl_groups-decl_groups.ensures) c.in_ok-rows-3.ensures.grown
    (λ more. c.in_ok-rows-3.ensures.decode more ∙ ap (λ (xs : List Record). filter_map (base_of bytes ts c.decl_groups-decl_groups.result.now) xs) c.records.ensures
    ∙ ap (λ (ds : List DeclGroup). filter_map (base_of bytes ts ds) (rows_in c.args.table.now).records) c.decl_groups-decl_groups.ensures) c.in_ok-rows-4.ensures.grown
    (λ more. c.in_ok-rows-4.ensures.decode more ∙ ap (λ (xs : List Import). map (imported_of bytes ts) xs) c.imports.ensures) c.in_ok-rows-5.ensures.grown c.in_ok-rows-5.ensures.decode
