-- The symbols of names outside of a tree: their symbol strings distinguish them.
use Rattle.std.proofs.Common.{◌≡◌, ℕ, List, [], ◌∷◌, ◌++◌, Option, Some, None, refl, sym, ap, ◌∙◌, subst, inl, inr}
use Rattle.std.specs.Prelude.{slice_get}
use Rattle.std.specs.Option.{option_map, option_and_then, is_none}
use Rattle.std.proofs.lemmas.Bool.{cases_Bool}
use Rattle.scip_symbol.specs.declared.kind.DescriptorKind.TheVariants.{Term}
use Rattle.scip_symbol.specs.SymbolTexts.{DescriptorModel, SymbolModel, Local, Global, SymbolText, canonical_text}
use Rattle.scip_symbol.proofs.PlainTexts.{texts_apart}
use Rattle.scip_index.specs.Plain.{SymbolModel as SymbolRow}
use Rattle.module_table.specs.declared.rows.Import.{Import}
use Rattle.ob_view.specs.declared.target.Reference.{Reference}
use Rattle.ob_view.specs.declared.target.Target.{Target}
use Rattle.ob_view.specs.declared.target.Target.TheVariants as targets
use Rattle.ob_view.specs.World.{World, module_of_item, text}
use Rattle.module_table.proofs.Elements.{contains_slice, slice_contains, some_one}
use Rattle.ob_emit.specs.Externals.{AreExternalRows, IsExternalRow, external_module, external_symbol_info, externals_in, of_module, of_name, symbol_info}
use Rattle.ob_emit.specs.Named.{NamesAreIdentifiers, ReferencesAreIdentifiers, IsName}
use Rattle.ob_emit.specs.Symbols.{descriptor, global, module_path, package_of}
use Rattle.ob_emit.proofs.Naming.{import_named}
use Rattle.ob_emit.proofs.NamesGiven.{row_of}
use Rattle.ob_emit.proofs.SymbolsTexted.{external_named, global_text, module_named}

-- the name of the last descriptor
last_of : List ℕ → List DescriptorModel → List ℕ
last_of name [] = name
last_of name (d ∷ ds) = last_of d.name ds

last_name : SymbolModel → List ℕ
last_name (Local id) = []
last_name (Global s m p v ds) = last_of [] ds

-- the symbol information has a symbol with a symbol string, and the last name of the symbol
record HasSymbol (x : SymbolRow) : Type 0 where
  of_symbol : SymbolModel
  is : x ≡ symbol_info (last_name of_symbol) of_symbol
  written : SymbolText of_symbol (canonical_text of_symbol)

has_symbol : {x : SymbolRow} → IsExternalRow x → HasSymbol x
unfolding last_name last_of
has_symbol (of_module n e) = record { of_symbol = global [] (module_path n); is = refl; written = global_text [] (module_path n) refl (λ none. absurd cc) (module_named n e) }
has_symbol (of_name n name e f) =
    let ds = module_path n ++ descriptor Term name ∷ [] in
    record { of_symbol = global [] ds; is = refl; written = global_text [] ds refl (λ none. absurd cc) (external_named n name e f) }

-- symbol information with one symbol is equal
pub one_row : (x y : SymbolRow) → IsExternalRow x → IsExternalRow y → x.symbol ≡ y.symbol → x ≡ y
one_row x y i j e =
    let s = has_symbol i in
    let t = has_symbol j in
    let f : canonical_text s.of_symbol ≡ canonical_text t.of_symbol = sym (ap (λ (r : SymbolRow). r.symbol) s.is) ∙ (e ∙ ap (λ (r : SymbolRow). r.symbol) t.is) in
    let same : s.of_symbol ≡ t.of_symbol = texts_apart s.of_symbol t.of_symbol s.written t.written f in
    s.is ∙ (ap (λ (u : SymbolModel). symbol_info (last_name u) u) same ∙ sym t.is)

---- the external symbols of a module

module _ (w : World) (named : NamesAreIdentifiers w) where
  name_row : (item name : ℕ) (x : SymbolRow) (o : Option Import) → IsName (text w name) → slice_get w.rows.imports item ≡ o
      → option_map (symbol_info (text w name)) (option_map (λ (i : Import). global [] (module_path (text w i.imported) ++ descriptor Term (text w name) ∷ [])) o) ≡ Some x → IsExternalRow x
  name_row item name x None is e f = absurd (let none : None ≡ Some x = f in cc)
  name_row item name x (Some i) is e f = subst IsExternalRow (some_one _ x f) (of_name (text w i.imported) (text w name) (import_named w named i item e) is)

  package_none : (item : ℕ) (o : Option ℕ) → module_of_item w item ≡ o → package_of w [] item ≡ []
  package_none item None e = rw e refl
  package_none item (Some module_number) e = rw e refl

  module_row : (item : ℕ) (x : SymbolRow) (o : Option Import) → slice_get w.rows.imports item ≡ o
      → option_and_then (λ (i : Import). option_map (symbol_info (text w i.imported)) (option_map (λ (j : Import). global [] (module_path (text w j.imported))) o)) o ≡ Some x → IsExternalRow x
  module_row item x None e f = absurd (let none : None ≡ Some x = f in cc)
  module_row item x (Some i) e f = subst IsExternalRow (some_one _ x f) (of_module (text w i.imported) (import_named w named i item e))

  module_told : (item : ℕ) (x : SymbolRow) → external_module w item ≡ Some x → IsExternalRow x
  module_told item x e = elim (cases_Bool (is_none (module_of_item w item))) [
    | inl a ↦ (
        let f = rw a at e in
        module_row item x (slice_get w.rows.imports item) refl
        (sym (ap (λ (p : List ℕ). option_and_then (λ (i : Import). option_map (symbol_info (text w i.imported)) (option_map (λ (j : Import). global p (module_path (text w j.imported))) (slice_get w.rows.imports item))) (slice_get w.rows.imports item))
        (package_none item (module_of_item w item) refl)) ∙ f))
    | inr b ↦ absurd (let none : None ≡ Some x = rw b at e in cc)
  ]

  row_told : (t : Target) (x : SymbolRow) → ((item name : ℕ) → t ≡ targets.External item name → IsName (text w name)) → external_symbol_info w t ≡ Some x → IsExternalRow x
  row_told (targets.Declared k) x names e = absurd (let none : None ≡ Some x = e in cc)
  row_told (targets.Imported i d) x names e = absurd (let none : None ≡ Some x = e in cc)
  row_told (targets.External item name) x names e = name_row item name x (slice_get w.rows.imports item) (names item name refl) refl e
  row_told targets.Own x names e = absurd (let none : None ≡ Some x = e in cc)
  row_told (targets.«Module» item) x names e = module_told item x e
  row_told targets.Predeclared x names e = absurd (let none : None ≡ Some x = e in cc)
  row_told targets.Unresolved x names e = absurd (let none : None ≡ Some x = e in cc)

  pub rows_told : (refs : List Reference) → ReferencesAreIdentifiers w refs → AreExternalRows (externals_in w refs)
  rows_told refs names x h =
      let at = slice_contains (externals_in w refs) x h in
      let r = row_of (λ (r : Reference). external_symbol_info w r.target) refs x at.0 at.1 in
      row_told r.row.target x (names.external r.row (contains_slice refs r.place r.row r.at)) r.tells
