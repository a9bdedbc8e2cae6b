-- The strings of symbols (scip.proto, the grammar of `Symbol`), as a relation between symbols and lists of bytes.
use Rattle.std.specs.Prelude.{◌≡◌, ◌≢◌, ℕ, ◌==◌, ◌||◌, Bool, true, List, [], ◌∷◌, ◌++◌, codes, ◌⊎◌, if◌then◌else◌}
use Rattle.std.specs.List.{list_all, flat_map}
use Rattle.std.specs.Char.{is_ascii_alphanumeric}
use Rattle.scip_symbol.specs.declared.kind.DescriptorKind.{DescriptorKind}
use Rattle.scip_symbol.specs.declared.kind.DescriptorKind.TheVariants.{Namespace, TypeName, Term, Method, Meta, Macro, TypeParameter, Parameter}
use Rattle.scip_symbol.specs.Bytes.{doubled, IsNotFirst}

-- a descriptor as contracts describe it: its name and disambiguator are lists of bytes
pub record DescriptorModel : Type 0 where
  pub kind : DescriptorKind
  pub name : List ℕ
  pub disambiguator : List ℕ

-- a symbol as contracts describe it: its strings are lists of bytes
pub data SymbolModel : Type 0 where
  Local : (id : List ℕ) → SymbolModel
  Global : (scheme manager package_name version : List ℕ) (descriptors : List DescriptorModel) → SymbolModel

-- an identifier character: a letter, a digit or one of _ + - $
abbrev pub is_simple : ℕ → Bool
is_simple b = is_ascii_alphanumeric b || (b == 95 || (b == 43 || (b == 45 || b == 36)))

-- all bytes are identifier characters
abbrev pub are_simple : List ℕ → Bool
are_simple bytes = list_all is_simple bytes

-- a simple identifier: one or more identifier characters
pub record IsSimple (bytes : List ℕ) : Type 0 where
  pub some : bytes ≢ []
  pub simple : are_simple bytes ≡ true

-- a name in backticks, with each backtick in it doubled
abbrev pub quoted : List ℕ → List ℕ
quoted name = 96 ∷ doubled 96 name ++ 96 ∷ []

-- a string of a name that isn't empty: the name itself if it is a simple identifier, or the name in backticks
pub record NameText (name text : List ℕ) : Type 0 where
  pub some : name ≢ []
  pub written : (IsSimple name × (text ≡ name)) ⊎ (text ≡ quoted name)

-- what precedes the name in a descriptor of this kind
abbrev pub before_name : DescriptorKind → List ℕ
before_name Namespace = []
before_name TypeName = []
before_name Term = []
before_name Method = []
before_name Meta = []
before_name Macro = []
before_name TypeParameter = codes "["
before_name Parameter = codes "("

-- what follows the name in a descriptor of this kind; a method has its disambiguator in parentheses
abbrev pub closing : DescriptorKind → List ℕ → List ℕ
closing Namespace disambiguator = codes "/"
closing TypeName disambiguator = codes "#"
closing Term disambiguator = codes "."
closing Method disambiguator = 40 ∷ disambiguator ++ codes ")."
closing Meta disambiguator = codes ":"
closing Macro disambiguator = codes "!"
closing TypeParameter disambiguator = codes "]"
closing Parameter disambiguator = codes ")"

-- only a method has a disambiguator
abbrev pub IsOfMethod : DescriptorKind → List ℕ → Type 0
IsOfMethod kind disambiguator = kind ≢ Method → disambiguator ≡ []

-- a string of a descriptor, with its name simple or escaped; the disambiguator is empty or a simple identifier
pub record DescriptorText (d : DescriptorModel) (text : List ℕ) : Type 0 where
  pub name : List ℕ
  pub name_is : NameText d.name name
  pub of_method : IsOfMethod d.kind d.disambiguator
  pub simple : are_simple d.disambiguator ≡ true
  pub whole : text ≡ before_name d.kind ++ name ++ closing d.kind d.disambiguator

-- the string is the concatenation of strings of the descriptors
abbrev pub DescriptorTexts : List DescriptorModel → List ℕ → Type 0
DescriptorTexts [] text = text ≡ []
DescriptorTexts (d ∷ ds) text = (first : List ℕ) × (others : List ℕ) × DescriptorText d first × DescriptorTexts ds others × (text ≡ first ++ others)

-- the part can occur in a string: it isn't empty and doesn't begin with a space
abbrev pub IsPackagePart : List ℕ → Type 0
IsPackagePart [] = ⊥
IsPackagePart (b ∷ part) = b ≢ 32

-- the manager, package name or version can be written: it doesn't begin with a space, and isn't `.`, the placeholder of an empty one
pub record IsOptionalPart (part : List ℕ) : Type 0 where
  pub next : IsNotFirst 32 part
  pub no_stop : part ≢ codes "."

-- a manager, package name or version as it is written, with `.` as placeholder for an empty one
abbrev pub part_shown : List ℕ → List ℕ
part_shown [] = codes "."
part_shown (b ∷ part) = b ∷ part

-- a part with its spaces doubled, followed by a space
abbrev pub ended_part : List ℕ → List ℕ
ended_part part = doubled 32 part ++ 32 ∷ []

-- the four parts as they are written, before spaces are doubled
abbrev pub shown_parts : List ℕ → List ℕ → List ℕ → List ℕ → List (List ℕ)
shown_parts scheme manager package_name version = scheme ∷ part_shown manager ∷ part_shown package_name ∷ part_shown version ∷ []

-- what precedes the descriptors in the string of a symbol
abbrev pub parts_text : List ℕ → List ℕ → List ℕ → List ℕ → List ℕ
parts_text scheme manager package_name version = flat_map ended_part (shown_parts scheme manager package_name version)

-- the bytes begin with `local`
abbrev pub BeginsLocal : List ℕ → Type 0
BeginsLocal bytes = (rest : List ℕ) × (bytes ≡ codes "local" ++ rest)

-- the string of a global symbol with these parts and descriptors
pub record GlobalText (scheme manager package_name version : List ℕ) (descriptors : List DescriptorModel) (text : List ℕ) : Type 0 where
  pub scheme_is : IsPackagePart scheme
  pub not_local : BeginsLocal scheme → ⊥
  pub manager_is : IsOptionalPart manager
  pub package_is : IsOptionalPart package_name
  pub version_is : IsOptionalPart version
  pub some : descriptors ≢ []
  pub rest : List ℕ
  pub rest_is : DescriptorTexts descriptors rest
  pub whole : text ≡ parts_text scheme manager package_name version ++ rest

-- the symbol has this string by the grammar
abbrev pub SymbolText : SymbolModel → List ℕ → Type 0
SymbolText (Local id) text = IsSimple id × (text ≡ codes "local " ++ id)
SymbolText (Global scheme manager package_name version descriptors) text = GlobalText scheme manager package_name version descriptors text

-- a name, in backticks only if it isn't a simple identifier
abbrev pub canonical_name : List ℕ → List ℕ
canonical_name name = if are_simple name then name else quoted name

-- the canonical string of a descriptor: its name is in backticks only if it isn't a simple identifier
abbrev pub canonical_descriptor_text : DescriptorModel → List ℕ
canonical_descriptor_text d = before_name d.kind ++ canonical_name d.name ++ closing d.kind d.disambiguator

-- the canonical string of a symbol: a name is in backticks only if it isn't a simple identifier
abbrev pub canonical_text : SymbolModel → List ℕ
canonical_text (Local id) = codes "local " ++ id
canonical_text (Global scheme manager package_name version descriptors) = parts_text scheme manager package_name version ++ flat_map canonical_descriptor_text descriptors
