-- The external symbols of a tree (scip.proto, `Index.external_symbols`).
use Rattle.std.specs.Prelude.{◌↔◌, ℕ, List, [], ◌∷◌, ◌++◌, map, Option, None, Contains, slice_get, if◌then◌else◌}
use Rattle.std.specs.Option.{option_map, option_and_then, is_none}
use Rattle.std.specs.List.{filter_map}
use Rattle.std.specs.List.Sorted.{IsStrictlySortedBy}
use Rattle.std.specs.Ordering.{nat_cmp}
use Rattle.std.specs.Cmp.Lexicographic.{slice_cmp}
use Rattle.module_table.specs.declared.rows.Import.{Import}
use Rattle.ob_view.specs.World.{World, text, module_of_item}
use Rattle.ob_view.specs.declared.target.Reference.{Reference}
use Rattle.ob_view.specs.declared.target.Target.{Target}
use Rattle.ob_view.specs.declared.target.Target.TheVariants as targets
use Rattle.scip_symbol.specs.SymbolTexts.{SymbolModel, canonical_text}
use Rattle.scip_index.specs.Plain.{SymbolModel as SymbolRow}
use Rattle.scip_symbol.specs.declared.kind.DescriptorKind.TheVariants.{Term}
use Rattle.ob_emit.specs.Named.{IsName}
use Rattle.ob_emit.specs.Symbols.{descriptor, external_symbol, global, module_path, module_symbol}

-- the symbol information with the canonical string of this symbol and with this display name
abbrev pub symbol_info : List ℕ → SymbolModel → SymbolRow
symbol_info name s = record { symbol = canonical_text s; display_name = name }

-- the symbol information of the module that the import item at this index names; None if the module is in the tree, or if there is no such
-- item
abbrev pub external_module : World → ℕ → Option SymbolRow
external_module w item =
    if is_none (module_of_item w item) then option_and_then (λ (i : Import). option_map (symbol_info (text w i.imported)) (module_symbol w [] item)) (slice_get w.rows.imports item)
    else None

-- the symbol information of a target that isn't in the tree: a module, or a name of a module. The display name is the name of the target.
-- None for any other target
abbrev pub external_symbol_info : World → Target → Option SymbolRow
external_symbol_info w (targets.Declared k) = None
external_symbol_info w (targets.Imported i d) = None
external_symbol_info w (targets.External item name) = option_map (symbol_info (text w name)) (external_symbol w item name)
external_symbol_info w targets.Own = None
external_symbol_info w (targets.«Module» item) = external_module w item
external_symbol_info w targets.Predeclared = None
external_symbol_info w targets.Unresolved = None

-- the symbol information of the targets of a module's references that aren't in the tree, in the order of the references
abbrev pub externals_in : World → List Reference → List SymbolRow
externals_in w refs = filter_map (λ (r : Reference). external_symbol_info w r.target) refs

-- the second list has exactly the elements of the first one, sorted by symbol string, each once
pub record AreExternals (of rows : List SymbolRow) : Type 0 where
  pub ordered : IsStrictlySortedBy (slice_cmp nat_cmp) (map (λ (x : SymbolRow). x.symbol) rows)
  pub each : (x : SymbolRow) → Contains rows x ↔ Contains of x

-- ---- external symbols of any modules

-- the element is the symbol information of a module or of a name of a module, outside of the tree, with this name as the display name
pub data IsExternalRow : SymbolRow → Type 0 where
  of_module : (n : List ℕ) → IsName n → IsExternalRow (symbol_info n (global [] (module_path n)))
  of_name : (n name : List ℕ) → IsName n → IsName name → IsExternalRow (symbol_info name (global [] (module_path n ++ descriptor Term name ∷ [])))

-- each element is the symbol information of a module, or of a name of a module
abbrev pub AreExternalRows : List SymbolRow → Type 0
AreExternalRows rows = (x : SymbolRow) → Contains rows x → IsExternalRow x
