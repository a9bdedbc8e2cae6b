-- The lines of a rules text. Lines are numbered from 1.
use Rattle.std.specs.Prelude.{◌≡◌, ◌⊎◌, ℕ, ◌+◌, ◌==◌, ◌||◌, Bool, true, List, [], ◌∷◌, ◌++◌, Some, slice_get, codes}
use Rattle.std.specs.List.{list_all, slice_split}
use Rattle.std.specs.Str.{IsUtf8}
use Rattle.texts.specs.Fields.{is_name, line_of}
use Rattle.cut_rules.specs.declared.rule.RuleKind.{RuleKind}
use Rattle.cut_rules.specs.declared.rule.RuleKind.TheVariants as kinds

-- the modules that a line adds to a set: that of a name, those with a file below a folder, those whose name matches a pattern, or those
-- with a file
pub data Selector : Type 0 where
  Module : List ℕ → Selector
  Folder : List ℕ → Selector
  Named : List ℕ → Selector
  Tree : Selector

-- a line adds modules to a set, restricts the imports between two names by a rule of this kind, or allows the import of the second module
-- by the first
pub data RuleLine : Type 0 where
  Adds : List ℕ → Selector → RuleLine
  Restricts : RuleKind → List ℕ → List ℕ → RuleLine
  Allow : List ℕ → List ℕ → RuleLine

-- a line `forbid X Y` with these names
abbrev pub Forbid : List ℕ → List ℕ → RuleLine
Forbid x y = Restricts kinds.Forbid x y

-- a line `forbid-import X Y` with these names
abbrev pub ForbidImport : List ℕ → List ℕ → RuleLine
ForbidImport x y = Restricts kinds.ForbidImport x y

-- a line `may X Y` with these names
abbrev pub May : List ℕ → List ℕ → RuleLine
May x y = Restricts kinds.May x y

-- the keyword of a rule of this kind
abbrev pub keyword : RuleKind → List ℕ
keyword kinds.Forbid = codes "forbid"
keyword kinds.ForbidImport = codes "forbid-import"
keyword kinds.May = codes "may"

-- the bytes of a line with this content, without a comment and a line end
abbrev pub rule_line : RuleLine → List ℕ
rule_line (Adds s (Module m)) = line_of (codes "set" ∷ s ∷ m ∷ [])
rule_line (Adds s (Folder path)) = line_of (codes "folder" ∷ s ∷ path ∷ [])
rule_line (Adds s (Named pattern)) = line_of (codes "named" ∷ s ∷ pattern ∷ [])
rule_line (Adds s Tree) = line_of (codes "tree" ∷ s ∷ [])
rule_line (Restricts kind x y) = line_of (keyword kind ∷ x ∷ y ∷ [])
rule_line (Allow m n) = line_of (codes "allow" ∷ m ∷ n ∷ [])

-- the content is valid: its names are identifiers, and its path or pattern is UTF-8
abbrev pub IsRuleLine : RuleLine → Type 0
IsRuleLine (Adds s (Module m)) = (is_name s ≡ true) × (is_name m ≡ true)
IsRuleLine (Adds s (Folder path)) = (is_name s ≡ true) × IsUtf8 path
IsRuleLine (Adds s (Named pattern)) = (is_name s ≡ true) × IsUtf8 pattern
IsRuleLine (Adds s Tree) = is_name s ≡ true
IsRuleLine (Restricts kind x y) = (is_name x ≡ true) × (is_name y ≡ true)
IsRuleLine (Allow m n) = (is_name m ≡ true) × (is_name n ≡ true)

-- ---- comments

-- a space or a tab
abbrev pub is_blank : ℕ → Bool
is_blank b = b == 32 || b == 9

-- a comment begins with `#`; the blanks before it belong to it
pub record IsComment (text : List ℕ) : Type 0 where
  pub blanks : List ℕ
  pub rest : List ℕ
  pub are_blank : list_all is_blank blanks ≡ true
  pub whole : text ≡ blanks ++ 35 ∷ rest

-- the bytes after a rule on its line: none, or a comment that begins with a blank
abbrev pub EndsRule : List ℕ → Type 0
EndsRule [] = Unit {0}
EndsRule (b ∷ text) = (is_blank b ≡ true) × IsComment (b ∷ text)

-- the bytes may follow this content on its line: none, or a comment unless the content ends with a path or a pattern
abbrev pub MayFollow : RuleLine → List ℕ → Type 0
MayFollow (Adds s (Module m)) text = EndsRule text
MayFollow (Adds s (Folder path)) text = text ≡ []
MayFollow (Adds s (Named pattern)) text = text ≡ []
MayFollow (Adds s Tree) text = EndsRule text
MayFollow (Restricts kind x y) text = EndsRule text
MayFollow (Allow m n) text = EndsRule text

-- the bytes of a line are this content, and a comment if one may follow
pub record Spells (piece : List ℕ) (content : RuleLine) : Type 0 where
  pub form : IsRuleLine content
  pub comment : List ℕ
  pub follows : MayFollow content comment
  pub whole : piece ≡ rule_line content ++ comment

-- the bytes of a line state nothing: they are empty or a comment
abbrev pub IsEmptyOrComment : List ℕ → Type 0
IsEmptyOrComment piece = (piece ≡ []) ⊎ IsComment piece

-- ---- texts

-- the lines of a text; after the last line end there is one more, which may be empty
abbrev pub pieces_of : List ℕ → List (List ℕ)
pieces_of bytes = slice_split (λ c. c == 10) bytes

-- the text has this piece at the line of this number
pub record IsPieceAt (pieces : List (List ℕ)) (line : ℕ) (piece : List ℕ) : Type 0 where
  pub place : ℕ
  pub number : line ≡ place + 1
  pub present : slice_get pieces place ≡ Some piece

-- the line of this number has this content
pub record States (pieces : List (List ℕ)) (line : ℕ) (content : RuleLine) : Type 0 where
  pub piece : List ℕ
  pub at : IsPieceAt pieces line piece
  pub spelled : Spells piece content
