-- The outcomes of writing a symbol and of reading a string. Each error is defined by what is wrong, and by what isn't wrong before it.
use Rattle.std.specs.Prelude.{◌≡◌, ◌≢◌, ◌⊎◌, ℕ, ◌+◌, ◌<◌, ◌==◌, ◌||◌, Bool, true, false, not, List, [], ◌∷◌, ◌++◌, length, codes, Option, Some, None, Result, Ok, Err}
use Rattle.std.specs.List.{list_any, flat_map, position_from, AllByRecursion}
use Rattle.scip_symbol.specs.declared.kind.DescriptorKind.{DescriptorKind}
use Rattle.scip_symbol.specs.declared.fault.SymbolFault.{SymbolFault}
use Rattle.scip_symbol.specs.declared.fault.SymbolFault.TheVariants as faults
use Rattle.scip_symbol.specs.Bytes.{IsNotFirst, IsUnended}
use Rattle.scip_symbol.specs.SymbolTexts.{DescriptorModel, SymbolModel, Local, Global, is_simple, are_simple, before_name, IsOfMethod, DescriptorText, DescriptorTexts, IsPackagePart, ended_part, BeginsLocal, SymbolText, canonical_text}

-- ---- writing

-- the list is empty
abbrev pub is_empty : {X : Type 0} → List X → Bool
is_empty [] = true
is_empty (x ∷ xs) = false

-- the scheme, the local id, a name or the list of descriptors is empty
abbrev pub has_empty : SymbolModel → Bool
has_empty (Local id) = is_empty id
has_empty (Global scheme manager package_name version descriptors) = is_empty scheme || (is_empty descriptors || list_any (λ d. is_empty d.name) descriptors)

-- the scheme begins with `local`
abbrev pub HasLocalScheme : SymbolModel → Type 0
HasLocalScheme (Local id) = ⊥
HasLocalScheme (Global scheme manager package_name version descriptors) = BeginsLocal scheme

-- the first byte is a space
abbrev pub begins_with_space : List ℕ → Bool
begins_with_space [] = false
begins_with_space (b ∷ bytes) = b == 32

-- the bytes are `.`
abbrev pub is_stop : List ℕ → Bool
is_stop [] = false
is_stop (b ∷ []) = b == 46
is_stop (b ∷ c ∷ bytes) = false

-- a manager, package name or version can't be written: it begins with a space, or is `.`
abbrev pub is_wrong_part : List ℕ → Bool
is_wrong_part part = begins_with_space part || is_stop part

-- the number of the first part that can't be written: 0 is the scheme, 1 the manager, 2 the package name and 3 the version
abbrev pub wrong_part_of : SymbolModel → Option ℕ
wrong_part_of (Local id) = None
wrong_part_of (Global scheme manager package_name version descriptors) =
    position_from (λ wrong. wrong) 0 (begins_with_space scheme ∷ is_wrong_part manager ∷ is_wrong_part package_name ∷ is_wrong_part version ∷ [])

-- the disambiguator can't be written: it has a byte that isn't an identifier character
abbrev pub is_wrong_descriptor : DescriptorModel → Bool
is_wrong_descriptor d = not (are_simple d.disambiguator)

-- the index of the first descriptor that can't be written, or 0 for a local id that can't be written
abbrev pub wrong_descriptor_of : SymbolModel → Option ℕ
wrong_descriptor_of (Local id) = position_from (λ wrong. wrong) 0 (not (are_simple id) ∷ [])
wrong_descriptor_of (Global scheme manager package_name version descriptors) = position_from is_wrong_descriptor 0 descriptors

-- only methods have a disambiguator, as the type of descriptors guarantees
abbrev pub AreOfMethods : SymbolModel → Type 0
AreOfMethods (Local id) = Unit {0}
AreOfMethods (Global scheme manager package_name version descriptors) = AllByRecursion (λ d. IsOfMethod d.kind d.disambiguator) descriptors

-- the symbol has no error
pub record IsWritable (s : SymbolModel) : Type 0 where
  pub no_empty : has_empty s ≡ false
  pub not_local : HasLocalScheme s → ⊥
  pub parts : wrong_part_of s ≡ None
  pub descriptors : wrong_descriptor_of s ≡ None

-- the first error of a symbol, in this order: Empty, LocalScheme, BadPart, BadDescriptor
abbrev pub IsWriteError : SymbolModel → SymbolFault → Type 0
IsWriteError s faults.Empty = has_empty s ≡ true
IsWriteError s faults.LocalScheme = (has_empty s ≡ false) × HasLocalScheme s
IsWriteError s (faults.BadPart part) = (has_empty s ≡ false) × ¬ (HasLocalScheme s) × (wrong_part_of s ≡ Some part)
IsWriteError s (faults.BadDescriptor at) = (has_empty s ≡ false) × ¬ (HasLocalScheme s) × (wrong_part_of s ≡ None) × (wrong_descriptor_of s ≡ Some at)
IsWriteError s faults.OpenQuote = ⊥
IsWriteError s faults.Memory = ⊥

-- the outcome of writing a symbol: its canonical string, or its first error
abbrev pub IsWriteOutcome : SymbolModel → Result (List ℕ) SymbolFault → Type 0
IsWriteOutcome s (Ok text) = SymbolText s text × (text ≡ canonical_text s)
IsWriteOutcome s (Err fault) = IsWriteError s fault

-- ---- reading

-- the string doesn't begin with `local`, and is these parts, each ended by an odd number of spaces, followed by the rest
pub record BeginsWithParts (text : List ℕ) (parts : List (List ℕ)) (rest : List ℕ) : Type 0 where
  pub not_local : BeginsLocal text → ⊥
  pub each : AllByRecursion IsPackagePart parts
  pub whole : text ≡ flat_map ended_part parts ++ rest
  pub next : IsNotFirst 32 rest

-- the string has fewer than four parts that a single space ends, and `count` is their number
pub record LacksPart (text : List ℕ) (count : ℕ) : Type 0 where
  pub parts : List (List ℕ)
  pub rest : List ℕ
  pub has_parts : BeginsWithParts text parts rest
  pub count_is : length parts ≡ count
  pub few : count < 4
  pub unended : IsUnended 32 rest

-- the number of the first wrong part: 0 if the string begins with a space, otherwise that of the first part that no single space ends
pub record IsBadPart (text : List ℕ) (part : ℕ) : Type 0 where
  pub some : text ≢ []
  pub wrong : ((begins_with_space text ≡ true) × (part ≡ 0)) ⊎ LacksPart text part

-- the string is four parts, then some descriptors, then the rest, which begins at offset `at`
pub record HasDescriptorPrefix (text : List ℕ) (at : ℕ) (rest : List ℕ) : Type 0 where
  pub parts : List (List ℕ)
  pub descriptors : List DescriptorModel
  pub front : List ℕ
  pub has_parts : BeginsWithParts text parts (front ++ rest)
  pub four : length parts ≡ 4
  pub front_is : DescriptorTexts descriptors front
  pub offset : at + length rest ≡ length text

-- the next descriptor's name begins with a backtick that isn't closed
pub record HasOpenQuote (rest : List ℕ) : Type 0 where
  pub kind : DescriptorKind
  pub inside : List ℕ
  pub begins : rest ≡ before_name kind ++ 96 ∷ inside
  pub open_is : IsUnended 96 inside

-- no string of a descriptor is a prefix of the bytes
abbrev pub HasNoDescriptor : List ℕ → Type 0
HasNoDescriptor rest = (d : DescriptorModel) (first others : List ℕ) → DescriptorText d first → rest ≢ first ++ others

-- the first byte of a local id that isn't an identifier character is at this offset
pub record IsBadId (text : List ℕ) (at : ℕ) : Type 0 where
  pub front : List ℕ
  pub b : ℕ
  pub others : List ℕ
  pub whole : text ≡ codes "local " ++ front ++ b ∷ others
  pub simple : are_simple front ≡ true
  pub wrong : is_simple b ≡ false
  pub offset : at ≡ 6 + length front

-- after four parts and some descriptors, the bytes at offset `at` begin with no descriptor, and with no name whose backtick isn't closed
pub record IsBadDescriptor (text : List ℕ) (at : ℕ) : Type 0 where
  pub rest : List ℕ
  pub front : HasDescriptorPrefix text at rest
  pub some : rest ≢ []
  pub none : HasNoDescriptor rest
  pub no_quote : HasOpenQuote rest → ⊥

-- the first error of a string
abbrev pub IsReadError : List ℕ → SymbolFault → Type 0
IsReadError text faults.Empty = (text ≡ []) ⊎ ((text ≡ codes "local ") ⊎ ((parts : List (List ℕ)) × BeginsWithParts text parts [] × (length parts ≡ 4)))
IsReadError text (faults.BadDescriptor at) = IsBadId text at ⊎ IsBadDescriptor text at
IsReadError text faults.LocalScheme = BeginsLocal text × ((id : List ℕ) → text ≢ codes "local " ++ id)
IsReadError text faults.OpenQuote = (at : ℕ) × (rest : List ℕ) × HasDescriptorPrefix text at rest × HasOpenQuote rest
IsReadError text faults.Memory = ⊥
IsReadError text (faults.BadPart part) = IsBadPart text part

-- the outcome of reading a string: the symbol that has it, or its first error
abbrev pub IsReadOutcome : List ℕ → Result SymbolModel SymbolFault → Type 0
IsReadOutcome text (Ok s) = SymbolText s text
IsReadOutcome text (Err fault) = IsReadError text fault
