-- The entries with all names represent the interface.
use Rattle.std.proofs.Common.{◌≡◌, ℕ, ◌-◌, List, [], map, take, drop, Option, Some, None, refl, sym, ap, ◌∙◌, append-nil}
use Rattle.std.specs.Prelude.{IsSome, if◌then◌else◌}
use Rattle.std.specs.List.{filter, filter_map}
use Rattle.std.proofs.lemmas.List.{take-map, drop-map}
use Rattle.ob_scan.specs.declared.token.Token.{Token}
use Rattle.ob_scan.specs.Texts.{text_at}
use Rattle.module_table.specs.declared.rows.TypePart.{TypePart}
use Rattle.module_table.specs.declared.rows.DeclGroup.{DeclGroup}
use Rattle.module_table.specs.declared.rows.Declared.{Declared}
use Rattle.module_table.specs.Parts.{Rows as TableRows}
use Rattle.ob_interface.specs.declared.rows.Rows.{Rows}
use Rattle.ob_interface.specs.declared.rows.PartRow.{PartRow}
use Rattle.ob_interface.specs.Interfaces.{Part, Declaration, part_of, is_part_by, is_exportable, declaration_by, declaration_of, base_of, module_level_by, imported_of, start_at, interface_of}
use Rattle.ob_interface.specs.Texts.{text_in, part_row_in, declaration_in, type_expr_at, base_in, import_in, IsGrown, DecodesTo, AllDecodeTo}
use Rattle.ob_interface.specs.RowValues.{type_expr_in, interface_in}
use Rattle.ob_interface.proofs.Growing.{tells_grown, all_tell_grown, all_tell_now, grown_twice}

forms_same : (bytes : List ℕ) (ts : List Token) (text : List ℕ) (rows : List PartRow) (ps : List TypePart) → map (part_row_in text) rows ≡ map (part_of bytes ts) ps → type_expr_in text rows ≡ type_expr_at bytes ts ps
forms_same bytes ts text rows ps e = λ i a b. same a b i
  where
    same : (a b : ℕ) → type_expr_in text rows a b ≡ type_expr_at bytes ts ps a b
    same a b =
        sym (take-map (part_row_in text) (b - a) (drop a rows)) ∙ ap (λ (x : List Part). take (b - a) x) (sym (drop-map (part_row_in text) a rows) ∙ ap (λ (x : List Part). drop a x) e ∙ drop-map (part_of bytes ts) a ps)
        ∙ take-map (part_of bytes ts) (b - a) (drop a ps)

declared_same : (bytes : List ℕ) (ts : List Token) (ps all : List TypePart) (r : Declared) (o : Option DeclGroup) → (IsSome o → filter (is_part_by r.declared_by) ps ≡ filter (is_part_by r.declared_by) all)
    → declaration_by bytes ts ps r o ≡ declaration_by bytes ts all r o
declared_same bytes ts ps all r None h = refl
declared_same bytes ts ps all r (Some d) h =
    ap (λ (x : List TypePart). if is_exportable d.decl_kind then Some (record {
      name = text_at bytes ts r.number;
      start = start_at ts r.number;
      decl_kind = d.decl_kind;
      exported = r.exported;
      of_record = d.of_record;
      declared_by = r.declared_by;
      type_expr = map (part_of bytes ts) x;
    }) else None) (h refl)

-- the selected components of each declaration group in the module's block are those of the table
abbrev pub HasParts : List DeclGroup → List TypePart → List TypePart → Type 0
HasParts ds all ps = (k : ℕ) → IsSome (module_level_by ds k) → filter (is_part_by k) ps ≡ filter (is_part_by k) all

pub declarations_same : (bytes : List ℕ) (ts : List Token) (rows : TableRows) (ps : List TypePart) → HasParts rows.decl_groups rows.parts ps
    → filter_map (λ r. declaration_by bytes ts ps r (module_level_by rows.decl_groups r.declared_by)) rows.declared ≡ filter_map (declaration_of bytes ts rows) rows.declared
declarations_same bytes ts rows ps same =
    let e : (r : Declared) → declaration_by bytes ts ps r (module_level_by rows.decl_groups r.declared_by) ≡ declaration_of bytes ts rows r =
    λ r. declared_same bytes ts ps rows.parts r (module_level_by rows.decl_groups r.declared_by) (same r.declared_by) in
    ap (λ (h : Declared → Option Declaration). filter_map h rows.declared) (λ i r. e r i)

pub assembled : (bytes : List ℕ) (ts : List Token) (table : TableRows) (ps : List TypePart) (rows : Rows) (a b c d : List ℕ) → HasParts table.decl_groups table.parts ps
    → DecodesTo text_in a rows.name (text_at bytes ts 1) → IsGrown a b
    → AllDecodeTo (declaration_in (type_expr_at bytes ts ps)) b rows.declarations.items (filter_map (λ r. declaration_by bytes ts ps r (module_level_by table.decl_groups r.declared_by)) table.declared) → IsGrown b c
    → AllDecodeTo base_in c rows.bases.items (filter_map (base_of bytes ts table.decl_groups) table.records) → IsGrown c d → AllDecodeTo import_in d rows.imports.items (map (imported_of bytes ts) table.imports)
    → IsGrown d rows.text.items → AllDecodeTo part_row_in rows.text.items rows.parts.items (map (part_of bytes ts) ps) → interface_in rows ≡ interface_of bytes ts table
assembled bytes ts table ps rows a b c d same name ab declarations bc bases cd imports de parts =
    let text = rows.text.items in
    let ce = grown_twice cd de in
    let be = grown_twice bc ce in
    let named : text_in text rows.name ≡ text_at bytes ts 1 = ap (λ (t : List ℕ). text_in t rows.name) (sym (append-nil text)) ∙ tells_grown text_in a text rows.name (text_at bytes ts 1) name (grown_twice ab be) [] in
    let type_exprs : type_expr_in text rows.parts.items ≡ type_expr_at bytes ts ps = forms_same bytes ts text rows.parts.items ps (all_tell_now part_row_in text rows.parts.items _ parts) in
    let declared : map (declaration_in (type_expr_in text rows.parts.items) text) rows.declarations.items ≡ filter_map (declaration_of bytes ts table) table.declared =
    ap (λ (f : ℕ → ℕ → List Part). map (declaration_in f text) rows.declarations.items) type_exprs ∙ all_tell_now (declaration_in (type_expr_at bytes ts ps)) text rows.declarations.items _ (all_tell_grown (declaration_in (type_expr_at bytes ts ps)) b text rows.declarations.items _ declarations be)
    ∙ declarations_same bytes ts table ps same in
    let based : map (base_in text) rows.bases.items ≡ filter_map (base_of bytes ts table.decl_groups) table.records =
    all_tell_now base_in text rows.bases.items _ (all_tell_grown base_in c text rows.bases.items _ bases ce) in
    let imported : map (import_in text) rows.imports.items ≡ map (imported_of bytes ts) table.imports = all_tell_now import_in text rows.imports.items _ (all_tell_grown import_in d text rows.imports.items _ imports de) in
    λ i. record { name = named i; declarations = declared i; bases = based i; imports = imported i }
