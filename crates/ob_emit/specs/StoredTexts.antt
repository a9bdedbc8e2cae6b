-- The symbol strings that `Texts` and `ForeignTexts` store, and the data from which they are made.
use Rattle.std.specs.Prelude.{◌≡◌, ◌<◌, ℕ, List, [], ◌∷◌, ◌++◌, length, map, Option, Some, None, Bool, true, false, slice_get, nat_eq, ◌&&◌, String, Contains}
use Rattle.std.specs.List.{flat_map}
use Rattle.std.specs.Option.{option_map, option_eq}
use Rattle.std.specs.String.{string_bytes}
use Rattle.std.specs.Str.{bytes_eq}
use Rattle.std.specs.Borrow.{Bor}
use Rattle.std.specs.declared.alloc.Global.{Global}
use Rattle.indexmap.specs.IndexMap.{get, IndexMap}
use Rattle.module_table.specs.declared.rows.Declared.{Declared}
use Rattle.module_table.specs.declared.rows.Import.{Import}
use Rattle.module_table.specs.Tables.{module_name_token}
use Rattle.ob_view.specs.World.{World, text}
use Rattle.ob_view.specs.declared.target.Reference.{Reference}
use Rattle.scip_index.specs.Plain.{SymbolModel as SymbolRow}
use Rattle.scip_symbol.specs.SymbolTexts.{DescriptorModel, SymbolModel, parts_text, canonical_descriptor_text, canonical_text}
use Rattle.scip_symbol.specs.declared.kind.DescriptorKind.TheVariants.{Term}
use Rattle.ob_emit.specs.declared.steps.LastStep.{LastStep}
use Rattle.ob_emit.specs.declared.prefixes.Prefixes.{Prefixes}
use Rattle.ob_emit.specs.declared.imported_cache.ImportedText.{ImportedText}
use Rattle.ob_emit.specs.declared.foreign_texts.ForeignTexts.{ForeignTexts}
use Rattle.ob_emit.specs.declared.target_texts.Texts.{Texts}
use Rattle.ob_emit.specs.Symbols.{PathStep, descriptor, global, imported_symbol, module_path, module_symbol, scheme, symbol_at}
use Rattle.ob_emit.specs.Externals.{external_module, external_symbol_info, externals_in, symbol_info}
use Rattle.ob_emit.specs.Named.{IsName}

-- the last step of a declaration's path as contracts describe it: the declaration's descriptor, without a disambiguator, and the number of
-- its owner
abbrev pub step_model : LastStep → PathStep
step_model r = record { own = descriptor r.kind r.name.now; owner = r.owner }

-- the name in the descriptor of each step is an identifier
abbrev pub AreStepNames : (ℕ → Option PathStep) → Type 0
AreStepNames steps = (k : ℕ) (s : PathStep) → steps k ≡ Some s → IsName (s.own).name

-- if the step of declaration `k` has an owner, the owner's number is smaller than `k`
abbrev pub OwnersPrecede : (ℕ → Option PathStep) → Type 0
OwnersPrecede steps = (k o : ℕ) (s : PathStep) → steps k ≡ Some s → s.owner ≡ Some o → o < k

-- the string of a path: the canonical strings of its descriptors, concatenated
abbrev pub path_text : List DescriptorModel → List ℕ
path_text ds = flat_map canonical_descriptor_text ds

-- if the flag is true, `new` is `old` followed by the string of the path; if the flag is false, there is no path
abbrev pub IsAppended : List ℕ → List ℕ → Option (List DescriptorModel) → Bool → Type 0
IsAppended old new ds false = ds ≡ None
IsAppended old new ds true = option_map (λ (path : List DescriptorModel). old ++ path_text path) ds ≡ Some new

-- the list `made` has the symbol strings of the first `count` declarations of a module, None for a declaration without a symbol
pub record AreDeclaredTexts (w : World) (package_name : List ℕ) (count : ℕ) (made : List (Option (List ℕ))) : Type 0 where
  pub as_many : length made ≡ count
  pub each : (i : ℕ) (d : Declared) → i < count → slice_get w.rows.declared i ≡ Some d → slice_get made i ≡ Some (option_map canonical_text (symbol_at w package_name i d))

-- the prefix of the symbol strings of a package, up to the descriptors
abbrev pub prefix_text : List ℕ → List ℕ
prefix_text package_name = parts_text scheme [] package_name []

-- `tree` is the prefix of the symbol strings in this package, and `outside` is the prefix of symbol strings without a package
pub record ArePrefixes (package_name : List ℕ) (f : Prefixes) : Type 0 where
  pub tree : string_bytes f.tree ≡ prefix_text package_name
  pub outside : string_bytes f.outside ≡ prefix_text []

-- ---- symbol strings by target

-- in the table, the string of each key is the one that the function `text_of` gives the key; `same` compares keys
abbrev pub AreTextsByKey : {K S : Type 0} → (K → K → Bool) → (K → Option (List ℕ)) → IndexMap K (Option (String Global)) S → Type 0
AreTextsByKey same text_of texts = (key : _) (text : Option (String Global)) → get same texts key ≡ Some text → option_map string_bytes text ≡ text_of key

-- each element of the list has the symbol string of the declaration of a reached module that the element's two indices name
abbrev pub AreImportedTexts : World → List ℕ → List ImportedText → Type 0
AreImportedTexts w package_name texts = (slot : ℕ) (row : ImportedText) → slice_get texts slot ≡ Some row → option_map string_bytes row.text ≡ option_map canonical_text (imported_symbol w package_name row.reached row.declaration)

-- the element of the list at each index is the symbol string of the module that the import item at this index names
abbrev pub AreModuleTexts : World → List ℕ → List (Option (String Global)) → Type 0
AreModuleTexts w package_name texts = (item : ℕ) (text : Option (String Global)) → slice_get texts item ≡ Some text → option_map string_bytes text ≡ option_map canonical_text (module_symbol w package_name item)

-- the symbol of a name of a module that isn't in the tree: `item` is the index of the import item that names the module, and `name` has the
-- bytes of the name
abbrev pub named_symbol : World → ℕ → List ℕ → Option SymbolModel
named_symbol w item name = option_map (λ (i : Import). global [] (module_path (text w i.imported) ++ descriptor Term name ∷ [])) (slice_get w.rows.imports item)

-- a key of the table of external names: the index of an import item, and a name of the module that the item names
abbrev pub NameKey : Type 0
NameKey = ℕ × Bor (List ℕ)

-- whether two keys have the same index and the same name
abbrev pub is_same_name_key : NameKey → NameKey → Bool
is_same_name_key a b = nat_eq a.0 b.0 && bytes_eq a.1.now b.1.now

-- each string in the table is the symbol string of the name of an external module that its key identifies
abbrev pub AreExternalTexts : {S : Type 0} → World → IndexMap NameKey (Option (String Global)) S → Type 0
AreExternalTexts w texts = AreTextsByKey is_same_name_key (λ (key : NameKey). option_map canonical_text (named_symbol w key.0 key.1.now)) texts

-- all strings in the tables are the symbol strings, in this package, of the targets outside of the module for which they are stored
pub record AreForeignTexts (w : World) (package_name : List ℕ) (t : ForeignTexts) : Type 0 where
  pub imported : AreImportedTexts w package_name ((t.imported).texts).items
  pub modules : AreModuleTexts w package_name (t.modules).items
  pub names : AreExternalTexts w t.names

-- the strings of the module and of its declarations are all there, and all stored strings are the symbol strings of their targets in this
-- package
pub record AreSymbolTexts (w : World) (package_name : List ℕ) (t : Texts) : Type 0 where
  pub prefixes : ArePrefixes package_name t.prefixes
  pub own : string_bytes t.own ≡ canonical_text (global package_name (module_path (text w module_name_token)))
  pub declared : AreDeclaredTexts w package_name (length w.rows.declared) (map (option_map string_bytes) (t.declared).items)
  pub locations : (t.locations).declared.now ≡ w.rows.declared
  pub foreign : AreForeignTexts w package_name (t.foreign).value

-- ---- external symbols, each once

-- a key of an external symbol: the index of an import item, and a name of the module that the item names, or None for the module itself
abbrev pub ExternalKey : Type 0
ExternalKey = ℕ × Option (Bor (List ℕ))

-- whether two keys have the same index, and have the same name or both have none
abbrev pub is_same_external_key : ExternalKey → ExternalKey → Bool
is_same_external_key a b = nat_eq a.0 b.0 && option_eq (λ (m n : Bor (List ℕ)). bytes_eq m.now n.now) a.1 b.1

-- the symbol information of the external symbol with this key
abbrev pub external_symbol_info_of_key : World → ExternalKey → Option SymbolRow
external_symbol_info_of_key w (item, None) = external_module w item
external_symbol_info_of_key w (item, Some name) = option_map (symbol_info name.now) (named_symbol w item name.now)

-- `some` is a list of references among `refs`, and contains a reference for the symbol information of each external target of `refs`
pub record CoverExternals (w : World) (refs some : List Reference) : Type 0 where
  pub among : (r : Reference) → Contains some r → Contains refs r
  pub each : (r : Reference) (x : SymbolRow) → Contains refs r → external_symbol_info w r.target ≡ Some x → Contains (externals_in w some) x
