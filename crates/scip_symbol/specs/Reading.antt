-- What the private functions of the reader and the writer return. The public contracts use `Outcomes` and `SymbolTexts`.
use Rattle.std.specs.Prelude.{◌≡◌, ◌≢◌, ℕ, ◌+◌, ◌-◌, ◌==◌, List, [], ◌∷◌, ◌++◌, length, codes, Option, Some, None, option_map, Result, Ok, Err, if◌then◌else◌}
use Rattle.std.specs.Option.{ok_or}
use Rattle.std.specs.String.{string_bytes}
use Rattle.texts.specs.Fields.{with_first}
use Rattle.scip_symbol.specs.declared.parts.Parts.{Parts}
use Rattle.scip_symbol.specs.declared.kind.DescriptorKind.{DescriptorKind}
use Rattle.scip_symbol.specs.declared.kind.DescriptorKind.TheVariants.{Namespace, TypeName, Term, Method, Meta, Macro, TypeParameter, Parameter}
use Rattle.scip_symbol.specs.declared.fault.SymbolFault.{SymbolFault}
use Rattle.scip_symbol.specs.declared.fault.SymbolFault.TheVariants as faults
use Rattle.scip_symbol.specs.SymbolTexts.{DescriptorModel, SymbolModel, Local, is_simple, DescriptorTexts}

-- continues with the value, or returns the error
infixl 10 ◌>>=◌
abbrev pub ◌>>=◌ : {A B E : Type 0} → Result A E → (A → Result B E) → Result B E
(Ok x) >>= f = f x
(Err e) >>= f = Err e

-- what follows this byte, if the bytes begin with it
abbrev pub after_byte : ℕ → List ℕ → Option (List ℕ)
after_byte delimiter [] = None
after_byte delimiter (b ∷ bytes) = if b == delimiter then Some bytes else None

-- what follows these bytes, if the string begins with them
abbrev pub after_bytes : List ℕ → List ℕ → Option (List ℕ)
after_bytes [] text = Some text
after_bytes (w ∷ word) [] = None
after_bytes (w ∷ word) (b ∷ bytes) = if b == w then after_bytes word bytes else None

-- the part that the bytes begin with, unescaped, and what follows the single delimiter that ends it. In the part each delimiter is doubled.
-- None if no single delimiter ends the part
unfoldable pub delimited_prefix : ℕ → List ℕ → Option (List ℕ × List ℕ)
delimited_prefix delimiter [] = None
delimited_prefix delimiter (b ∷ []) = if b == delimiter then Some ([], []) else None
delimited_prefix delimiter (b ∷ c ∷ more) =
    if b == delimiter then (if c == delimiter then option_map (with_first delimiter) (delimited_prefix delimiter more) else Some ([], c ∷ more))
    else option_map (with_first b) (delimited_prefix delimiter (c ∷ more))

-- the identifier characters that the bytes begin with, and what follows them
unfoldable pub simple_prefix : List ℕ → List ℕ × List ℕ
simple_prefix [] = ([], [])
simple_prefix (b ∷ bytes) = if is_simple b then with_first b (simple_prefix bytes) else ([], b ∷ bytes)

-- ---- descriptors; `at` is the offset of the descriptor in the symbol string

-- a name with the bytes after it; BadDescriptor if the name is empty
abbrev pub nonempty_name : ℕ → List ℕ → List ℕ → Result (List ℕ × List ℕ) SymbolFault
nonempty_name at [] rest = Err (faults.BadDescriptor at)
nonempty_name at (b ∷ name) rest = Ok (b ∷ name, rest)

-- the simple identifier that the bytes begin with, and what follows it
unfoldable pub simple_name_at : ℕ → List ℕ → Result (List ℕ × List ℕ) SymbolFault
simple_name_at at text = nonempty_name at (simple_prefix text).0 (simple_prefix text).1

-- the escaped name whose first backtick has been read, and what follows it
unfoldable pub quoted_name_at : ℕ → List ℕ → Result (List ℕ × List ℕ) SymbolFault
quoted_name_at at inside = do
  x ← ok_or (delimited_prefix 96 inside) faults.OpenQuote
  nonempty_name at x.0 x.1

-- the name that the bytes begin with, and what follows it. The option is what follows a backtick, if that is the first byte
abbrev pub name_after_tick : ℕ → Option (List ℕ) → List ℕ → Result (List ℕ × List ℕ) SymbolFault
name_after_tick at None text = simple_name_at at text
name_after_tick at (Some inside) text = quoted_name_at at inside

-- the name that the bytes begin with, unescaped, and what follows it
unfoldable pub first_name_at : ℕ → List ℕ → Result (List ℕ × List ℕ) SymbolFault
first_name_at at text = name_after_tick at (after_byte 96 text) text

-- the descriptor of a name and the byte that closes it, and what follows it; its opening byte has been read
unfoldable pub enclosed_descriptor_at : ℕ → DescriptorKind → ℕ → List ℕ → Result (DescriptorModel × List ℕ) SymbolFault
enclosed_descriptor_at at kind close inside = do
  x ← first_name_at at inside
  rest ← ok_or (after_byte close x.1) (faults.BadDescriptor at)
  Ok (record { kind = kind; name = x.0; disambiguator = [] }, rest)

-- the method whose name and `(` have been read, and what follows it
unfoldable pub method_suffix_at : ℕ → List ℕ → List ℕ → Result (DescriptorModel × List ℕ) SymbolFault
method_suffix_at at name inside = do
  rest ← ok_or (after_bytes (codes ").") (simple_prefix inside).1) (faults.BadDescriptor at)
  Ok (record { kind = Method; name = name; disambiguator = (simple_prefix inside).0 }, rest)

-- the kind of a descriptor with this byte after its name
abbrev pub kind_of_suffix : ℕ → Option DescriptorKind
kind_of_suffix b =
    if b == 47 then Some Namespace
    else if b == 35 then Some TypeName
    else if b == 46 then Some Term
    else if b == 58 then Some Meta
    else if b == 33 then Some Macro
    else None

-- the kind of a descriptor with the first byte after its name, and what follows this byte
abbrev pub suffix_at : List ℕ → Option (DescriptorKind × List ℕ)
suffix_at [] = None
suffix_at (b ∷ rest) = option_map (λ kind. (kind, rest)) (kind_of_suffix b)

-- the descriptor whose name has been read and that one byte ends, and what follows it
unfoldable pub one_byte_suffix_at : ℕ → List ℕ → List ℕ → Result (DescriptorModel × List ℕ) SymbolFault
one_byte_suffix_at at name text = do
  x ← ok_or (suffix_at text) (faults.BadDescriptor at)
  Ok (record { kind = x.0; name = name; disambiguator = [] }, x.1)

-- the descriptor whose name has been read, and what follows it. The option is what follows `(`, if that is the next byte
abbrev pub suffixed_after_paren : ℕ → List ℕ → Option (List ℕ) → List ℕ → Result (DescriptorModel × List ℕ) SymbolFault
suffixed_after_paren at name None text = one_byte_suffix_at at name text
suffixed_after_paren at name (Some inside) text = method_suffix_at at name inside

-- the descriptor whose name has been read, and what follows it
unfoldable pub descriptor_suffix_at : ℕ → List ℕ → List ℕ → Result (DescriptorModel × List ℕ) SymbolFault
descriptor_suffix_at at name text = suffixed_after_paren at name (after_byte 40 text) text

-- the descriptor that begins with its name, and what follows it
unfoldable pub bare_descriptor_at : ℕ → List ℕ → Result (DescriptorModel × List ℕ) SymbolFault
bare_descriptor_at at text = do
  x ← first_name_at at text
  descriptor_suffix_at at x.0 x.1

-- the first descriptor, and what follows it. The options are what follows `[`, and what follows `(`, if that is the first byte
abbrev pub descriptor_after_mark : ℕ → Option (List ℕ) → Option (List ℕ) → List ℕ → Result (DescriptorModel × List ℕ) SymbolFault
descriptor_after_mark at None None text = bare_descriptor_at at text
descriptor_after_mark at None (Some inside) text = enclosed_descriptor_at at Parameter 41 inside
descriptor_after_mark at (Some inside) _ text = enclosed_descriptor_at at TypeParameter 93 inside

-- the first descriptor, and what follows it
unfoldable pub descriptor_at : ℕ → List ℕ → Result (DescriptorModel × List ℕ) SymbolFault
descriptor_at at text = descriptor_after_mark at (after_byte 91 text) (after_byte 40 text) text

-- the text, which is the end of a string of `whole` bytes, is some descriptors followed by a wrong one, which has this error
pub record IsFirstWrong (whole : ℕ) (text : List ℕ) (fault : SymbolFault) : Type 0 where
  pub descriptors : List DescriptorModel
  pub front : List ℕ
  pub rest : List ℕ
  pub front_is : DescriptorTexts descriptors front
  pub split : text ≡ front ++ rest
  pub some : rest ≢ []
  pub answer : descriptor_at (whole - length rest) rest ≡ Err fault

-- all descriptors of the string, or the error of the first wrong one
abbrev pub IsDescriptorsOutcome : ℕ → List ℕ → Result (List DescriptorModel) SymbolFault → Type 0
IsDescriptorsOutcome whole text (Ok ds) = DescriptorTexts ds text
IsDescriptorsOutcome whole text (Err fault) = IsFirstWrong whole text fault

-- ---- parts

-- the part with this number, which the bytes begin with, and what follows the space that ends it
unfoldable pub first_part_at : ℕ → List ℕ → Result (List ℕ × List ℕ) SymbolFault
first_part_at number text = ok_or (delimited_prefix 32 text) (faults.BadPart number)

-- a part that may be empty, from its bytes in a string: `.` is the placeholder of an empty one
abbrev pub part_from_text : List ℕ → List ℕ
part_from_text [] = []
part_from_text (b ∷ []) = if b == 46 then [] else b ∷ []
part_from_text (b ∷ c ∷ part) = b ∷ c ∷ part

-- the part with this number, which may be empty, and what follows the space that ends it
unfoldable pub optional_part_at : ℕ → List ℕ → Result (List ℕ × List ℕ) SymbolFault
optional_part_at number text = do
  x ← first_part_at number text
  Ok (part_from_text x.0, x.1)

-- the four parts of a symbol, unescaped
pub record PartsModel : Type 0 where
  pub scheme : List ℕ
  pub manager : List ℕ
  pub package_name : List ℕ
  pub version : List ℕ

-- the four parts that the bytes begin with, and what follows them
unfoldable pub parts_at : List ℕ → Result (PartsModel × List ℕ) SymbolFault
parts_at text = do
  scheme ← first_part_at 0 text
  manager ← optional_part_at 1 scheme.1
  package_name ← optional_part_at 2 manager.1
  version ← optional_part_at 3 package_name.1
  Ok (record { scheme = scheme.0; manager = manager.0; package_name = package_name.0; version = version.0 }, version.1)

-- the four parts as contracts describe them
abbrev pub parts_model : Parts → PartsModel
parts_model parts = record { scheme = string_bytes parts.scheme; manager = string_bytes parts.manager; package_name = string_bytes parts.package; version = string_bytes parts.version }

-- ---- the id of a local symbol

-- the local symbol with this id, if nothing follows the identifier characters that the id begins with; otherwise BadDescriptor
abbrev pub local_by : List ℕ → List ℕ → Result SymbolModel SymbolFault
local_by id [] = Ok (Local id)
local_by id (c ∷ rest) = Err (faults.BadDescriptor (6 + length (simple_prefix id).0))

-- the local symbol with this id, if the id isn't empty and has only identifier characters
unfoldable pub local_symbol_of : List ℕ → Result SymbolModel SymbolFault
local_symbol_of [] = Err faults.Empty
local_symbol_of (b ∷ id) = local_by (b ∷ id) (simple_prefix (b ∷ id)).1
