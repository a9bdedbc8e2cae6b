-- Reading a line of a rules text.
use Rattle.std.specs.Prelude.{ℕ, ◌==◌, Bool, true, false, List, [], ◌∷◌, codes, drop, take, Option, Some, None, option_map, option_and_then, if◌then◌else◌}
use Rattle.std.specs.List.{position_or_len}
use Rattle.std.specs.Str.{bytes_eq, is_utf8}
use Rattle.texts.specs.Fields.{split_at_first, named}
use Rattle.cut_rules.specs.RuleLines.{RuleLine, Selector, Module, Folder, Named, Tree, Adds, Restricts, Allow, is_blank}
use Rattle.cut_rules.specs.declared.rule.RuleKind.{RuleKind}
use Rattle.cut_rules.specs.declared.rule.RuleKind.TheVariants as kinds
use Rattle.cut_rules.specs.declared.line.Line.{Line}
use Rattle.cut_rules.specs.declared.line.Line.TheVariants as lines
use Rattle.cut_rules.specs.declared.line.Selector as declared
use Rattle.cut_rules.specs.declared.line.Selector.TheVariants as selectors

-- the content of a parsed selector
abbrev pub selector_content : declared.Selector → Selector
selector_content (selectors.Module m) = Module m.now
selector_content (selectors.Folder path) = Folder path.now
selector_content (selectors.Named pattern) = Named pattern.now
selector_content selectors.Tree = Tree

-- the content of a parsed line
abbrev pub line_content : Line → RuleLine
line_content (lines.Adds s selector) = Adds s.now (selector_content selector)
line_content (lines.Restricts kind x y) = Restricts kind x.now y.now
line_content (lines.Allow m n) = Allow m.now n.now

-- whether the bytes are a comment
unfoldable pub is_comment : List ℕ → Bool
is_comment [] = false
is_comment (b ∷ bytes) = if is_blank b then is_comment bytes else b == 35

-- whether the bytes of a line state nothing: they are empty or a comment
abbrev pub is_empty_or_comment : List ℕ → Bool
is_empty_or_comment [] = true
is_empty_or_comment (b ∷ bytes) = is_comment (b ∷ bytes)

-- the bytes, if they are UTF-8; otherwise none
unfoldable pub text_of : List ℕ → Option (List ℕ)
text_of bytes = if is_utf8 bytes then Some bytes else None

-- the name that the bytes begin with, if nothing follows it, or only a comment after a blank; otherwise none
unfoldable pub last_name_of : List ℕ → Option (List ℕ)
last_name_of fields =
    let end = position_or_len is_blank fields in
    if is_empty_or_comment (drop end fields) then named (take end fields) else None

-- the kind of a rule that begins with this keyword; none if no rule does
abbrev pub kind_of : List ℕ → Option RuleKind
kind_of word =
    if bytes_eq word (codes "forbid") then Some kinds.Forbid
    else (if bytes_eq word (codes "forbid-import") then Some kinds.ForbidImport else (if bytes_eq word (codes "may") then Some kinds.May else None))

-- the line of a keyword and two names; none if no line with two names has this keyword
abbrev pub line_of_names : List ℕ → List ℕ → List ℕ → Option RuleLine
line_of_names word m n =
    if bytes_eq word (codes "set") then Some (Adds m (Module n))
    else (if bytes_eq word (codes "allow") then Some (Allow m n) else option_map (λ kind. Restricts kind m n) (kind_of word))

-- the line of a keyword, a name and the last field; none if these are no valid line
unfoldable pub line_after : List ℕ → List ℕ → List ℕ → Option RuleLine
line_after word first last =
    if bytes_eq word (codes "folder") then option_map (λ path. Adds first (Folder path)) (text_of last)
    else
    (if bytes_eq word (codes "named") then option_map (λ pattern. Adds first (Named pattern)) (text_of last) else option_and_then (λ second. line_of_names word first second) (last_name_of last))

-- the line of a keyword and the bytes after it; none if these are no valid line
unfoldable pub line_of_fields : List ℕ → List ℕ → Option RuleLine
line_of_fields word fields =
    if bytes_eq word (codes "tree") then option_map (λ s. Adds s Tree) (last_name_of fields)
    else option_and_then (λ parts. option_and_then (λ first. line_after word first parts.1) (named parts.0)) (split_at_first 32 fields)

-- the line that the bytes spell; none if they aren't a valid line
unfoldable pub rule_line_of : List ℕ → Option RuleLine
rule_line_of piece = option_and_then (λ parts. line_of_fields parts.0 parts.1) (split_at_first 32 piece)

-- the name of the set to which a line adds modules; none for another line
abbrev pub parse_set_name : RuleLine → Option (List ℕ)
parse_set_name (Adds s selector) = Some s
parse_set_name (Restricts kind x y) = None
parse_set_name (Allow m n) = None

-- the name of the set to which the bytes of a line add modules; none if the bytes aren't such a line
unfoldable pub set_of : List ℕ → Option (List ℕ)
set_of piece = option_and_then parse_set_name (rule_line_of piece)

-- the two names of a line that is a rule; none for another line
abbrev pub names_of_rule : RuleLine → Option (List ℕ × List ℕ)
names_of_rule (Adds s selector) = None
names_of_rule (Restricts kind x y) = Some (x, y)
names_of_rule (Allow m n) = None

-- the two names of the rule that the bytes of a line spell; none if the bytes aren't a rule
unfoldable pub rule_of : List ℕ → Option (List ℕ × List ℕ)
rule_of piece = option_and_then names_of_rule (rule_line_of piece)
