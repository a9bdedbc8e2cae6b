-- The ends of sections of declarations, and the entries that they contribute, are determined by their event sequences.
use Rattle.std.proofs.Common.{◌≡◌, Bool, true, false, List, [], ◌∷◌, ◌++◌, map, Option, Some, None, refl, ap}
use Rattle.std.specs.Prelude.{Vec}
use Rattle.std.specs.declared.alloc.Global.{Global}
use Rattle.ob_scan.specs.declared.kind.Kind.{Kind}
use Rattle.ob_scan.specs.declared.kind.Kind.TheVariants as kinds
use Rattle.ob_tree.specs.declared.name.Identdef.{Identdef}
use Rattle.ob_tree.specs.declared.declaration.ConstDecl.{ConstDecl}
use Rattle.ob_tree.specs.declared.declaration.TypeDecl.{TypeDecl}
use Rattle.ob_tree.specs.declared.declaration.VarDecl.{VarDecl}
use Rattle.ob_tree.specs.declared.declaration.ProcDecl.{ProcDecl}
use Rattle.ob_tree.specs.Constructs.{Construct}
use Rattle.ob_tree.specs.Constructs as constructs
use Rattle.ob_tree.specs.TreeEvents.{Events, Begins, Ends, Identifier, Value, Word, construct, word, if_present, each}
use Rattle.ob_tree.specs.Names.{identdef_events}
use Rattle.ob_tree.specs.Expressions.{expr_events}
use Rattle.ob_tree.specs.Types.{type_events}
use Rattle.ob_tree.specs.Declaring.{const_events, type_decl_events, variable_events, procedure_events}
use Rattle.ob_tree.specs.Declaring.{part as part_shown}
use Rattle.ob_tree.specs.Leaves.{kind_eq}
use Rattle.ob_tree.proofs.DeclarationLayers.{const_out, type_decl_out, variable_out, procedure_out}
use Rattle.module_table.specs.declared.rows.DeclKind.TheVariants as decl_kinds
use Rattle.module_table.specs.Parts.{Fragment, token, both, declaring}
use Rattle.module_table.specs.Parts.{if_present as there, each as pieces}
use Rattle.table_rules.specs.Expressions.{Phrase, expr_rows, expr_phrase}
use Rattle.table_rules.specs.Types.{identdef_rows, type_rows}
use Rattle.table_rules.specs.Declaring.{const_rows, type_decl_rows, variable_rows, part}
use Rattle.table_rules.proofs.DeclarationLayers as told
use Rattle.table_rules.proofs.Reading.{Reads, never, on_word, on_construct, maybe, r-until, r-past, r-then, r-held, r-at, r-made}
use Rattle.table_rules.proofs.ReadingLists.{r-each, each_told}
use Rattle.table_rules.proofs.ReadingNames.{on_words, not_the_first, none_behind}
use Rattle.table_rules.proofs.ReadingExpressions.{r-expr}
use Rattle.table_rules.proofs.ReadingParameters.{r-identdef}
use Rattle.table_rules.proofs.ReadingTypes.{r-type, r-var}

-- ---- constants, types and variables

abbrev const_parts : ConstDecl → Identdef × Phrase
const_parts c = (c.name, expr_phrase c.value)

abbrev const_told : Identdef × Phrase → Fragment
const_told p = declaring decl_kinds.Constant (both (identdef_rows p.0) (both token p.1.piece))

const_tells : (c : ConstDecl) → const_rows c ≡ const_told (const_parts c)
unfolding expr_rows
const_tells c = told.const_out c

abbrev const_shown : ConstDecl → Events
const_shown c = identdef_events c.name ++ (word kinds.Equals ++ expr_events c.value)

const_held : (c : ConstDecl) → Reads const_parts const_shown never (const_parts c) (const_shown c)
const_held c = r-until (r-at (λ z. z.name) (r-identdef c.name)) (λ s i. refl) (λ z s i. refl) (r-past kinds.Equals (r-at (λ z. z.value) (r-expr c.value)))

pub r-const : (c : ConstDecl) → Reads const_rows const_events never (const_rows c) (const_events c)
r-const c = r-made const_told (λ z. z) const_tells const_out (const_tells c) (const_out c) (r-held constructs.ConstDeclaration (const_held c) (λ s. refl))

abbrev type_decl_parts : TypeDecl → Identdef × Fragment
type_decl_parts t = (t.name, type_rows t.type_expr)

abbrev type_decl_told : Identdef × Fragment → Fragment
type_decl_told p = declaring decl_kinds.Type (both (identdef_rows p.0) (both token p.1))

abbrev type_decl_shown : TypeDecl → Events
type_decl_shown t = identdef_events t.name ++ (word kinds.Equals ++ type_events t.type_expr)

type_decl_held : (t : TypeDecl) → Reads type_decl_parts type_decl_shown never (type_decl_parts t) (type_decl_shown t)
type_decl_held t = r-until (r-at (λ z. z.name) (r-identdef t.name)) (λ s i. refl) (λ z s i. refl) (r-past kinds.Equals (r-at (λ z. z.type_expr) (r-type t.type_expr)))

pub r-type_decl : (t : TypeDecl) → Reads type_decl_rows type_decl_events never (type_decl_rows t) (type_decl_events t)
r-type_decl t = r-made type_decl_told (λ z. z) told.type_decl_out type_decl_out (told.type_decl_out t) (type_decl_out t) (r-held constructs.TypeDeclaration (type_decl_held t) (λ s. refl))

pub r-variable : (v : VarDecl) → Reads variable_rows variable_events never (variable_rows v) (variable_events v)
r-variable v = r-made (declaring decl_kinds.Variable) (λ z. z) told.variable_out variable_out (told.variable_out v) (variable_out v) (r-held constructs.VariableDeclaration (r-var v) (λ s. refl))

-- ---- where sections stop

abbrev pub is_procedure : Construct → Bool
is_procedure constructs.Module = false
is_procedure constructs.Import = false
is_procedure constructs.ConstDeclaration = false
is_procedure constructs.TypeDeclaration = false
is_procedure constructs.VariableDeclaration = false
is_procedure constructs.ProcedureDeclaration = true
is_procedure constructs.NamedType = false
is_procedure constructs.ArrayType = false
is_procedure constructs.RecordType = false
is_procedure constructs.PointerType = false
is_procedure constructs.ProcedureType = false
is_procedure constructs.FieldList = false
is_procedure constructs.FPSection = false
is_procedure constructs.EmptyStatement = false
is_procedure constructs.Statement = false
is_procedure constructs.Case = false
is_procedure constructs.Expression = false
is_procedure constructs.SimpleExpression = false
is_procedure constructs.Term = false
is_procedure constructs.Factor = false
is_procedure constructs.Negated = false
is_procedure constructs.Element = false
is_procedure constructs.Designator = false
is_procedure constructs.Selector = false

abbrev pub is_other : Bool → Bool
is_other true = false
is_other false = true

-- a declaration that is no procedure
abbrev pub on_declaration : Events → Bool
on_declaration [] = false
on_declaration (Begins c n ∷ ms) = is_other (is_procedure c)
on_declaration (Ends c ∷ ms) = false
on_declaration (Identifier r n ∷ ms) = false
on_declaration (Value l n ∷ ms) = false
on_declaration (Word w ∷ ms) = false

-- such a declaration, or this word before one
abbrev pub on_section : Kind → Events → Bool
on_section k [] = false
on_section k (Begins c n ∷ ms) = is_other (is_procedure c)
on_section k (Ends c ∷ ms) = false
on_section k (Identifier r n ∷ ms) = false
on_section k (Value l n ∷ ms) = false
on_section k (Word w ∷ ms) = kind_eq w k

abbrev pub section_words : List Kind
section_words = kinds.Const ∷ kinds.Type ∷ kinds.Var ∷ []

-- whatever may be among declarations
abbrev pub on_declarations : Events → Bool
on_declarations [] = false
on_declarations (Begins c n ∷ ms) = true
on_declarations (Ends c ∷ ms) = false
on_declarations (Identifier r n ∷ ms) = false
on_declarations (Value l n ∷ ms) = false
on_declarations (Word w ∷ ms) = on_words section_words (Word w ∷ ms)

pub list_ends : (k : Kind) (s : Events) → on_section k s ≡ false → on_declaration s ≡ false
list_ends k [] i = refl
list_ends k (Begins c n ∷ ms) i = i
list_ends k (Ends c ∷ ms) i = refl
list_ends k (Identifier r n ∷ ms) i = refl
list_ends k (Value l n ∷ ms) i = refl
list_ends k (Word w ∷ ms) i = refl

section_ends : (k : Kind) (s : Events) → on_word k s ≡ false → on_construct s ≡ false → on_section k s ≡ false
section_ends k [] i j = refl
section_ends k (Begins c n ∷ ms) i j = absurd cc
section_ends k (Ends c ∷ ms) i j = refl
section_ends k (Identifier r n ∷ ms) i j = refl
section_ends k (Value l n ∷ ms) i j = refl
section_ends k (Word w ∷ ms) i j = i

pub no_construct : (s : Events) → on_declarations s ≡ false → on_construct s ≡ false
no_construct [] i = refl
no_construct (Begins c n ∷ ms) i = i
no_construct (Ends c ∷ ms) i = refl
no_construct (Identifier r n ∷ ms) i = refl
no_construct (Value l n ∷ ms) i = refl
no_construct (Word w ∷ ms) i = refl

no_words : (s : Events) → on_declarations s ≡ false → on_words section_words s ≡ false
no_words [] i = refl
no_words (Begins c n ∷ ms) i = refl
no_words (Ends c ∷ ms) i = refl
no_words (Identifier r n ∷ ms) i = refl
no_words (Value l n ∷ ms) i = refl
no_words (Word w ∷ ms) i = i

pub no_const : (s : Events) → on_declarations s ≡ false → on_word kinds.Const s ≡ false
no_const s i = not_the_first kinds.Const (kinds.Type ∷ kinds.Var ∷ []) s (no_words s i)

pub no_type : (s : Events) → on_declarations s ≡ false → on_word kinds.Type s ≡ false
no_type s i = not_the_first kinds.Type (kinds.Var ∷ []) s (none_behind kinds.Const (kinds.Type ∷ kinds.Var ∷ []) s (no_words s i))

pub no_var : (s : Events) → on_declarations s ≡ false → on_word kinds.Var s ≡ false
no_var s i = not_the_first kinds.Var [] s (none_behind kinds.Type (kinds.Var ∷ []) s (none_behind kinds.Const (kinds.Type ∷ kinds.Var ∷ []) s (no_words s i)))

procedure_apart : (k : Kind) (p : ProcDecl) (r s : Events) → on_section k (((procedure_events p ++ word kinds.Semicolon) ++ r) ++ s) ≡ false
unfolding construct
procedure_apart k p r s = ap (λ (o : Events). on_section k (((o ++ word kinds.Semicolon) ++ r) ++ s)) (procedure_out p)

abbrev pub procedures_shown : List ProcDecl → Events
procedures_shown ps = each (λ p. procedure_events p ++ word kinds.Semicolon) ps

abbrev pub variables_shown : Option (Vec VarDecl Global) → Events
variables_shown o = if_present (λ v. part_shown kinds.Var variable_events v.items) o

abbrev pub types_shown : Option (Vec TypeDecl Global) → Events
types_shown o = if_present (λ v. part_shown kinds.Type type_decl_events v.items) o

pub before_procedures : (k : Kind) (ps : List ProcDecl) (s : Events) → on_word k s ≡ false → on_construct s ≡ false → on_section k (procedures_shown ps ++ s) ≡ false
before_procedures k [] s i j = section_ends k s i j
before_procedures k (p ∷ ps) s i j = procedure_apart k p (procedures_shown ps) s

pub before_variables : (k : Kind) (v : Option (Vec VarDecl Global)) (ps : List ProcDecl) (s : Events) → kind_eq kinds.Var k ≡ false → on_word k s ≡ false → on_construct s ≡ false →
    on_section k ((variables_shown v ++ procedures_shown ps) ++ s) ≡ false
before_variables k None ps s w i j = before_procedures k ps s i j
before_variables k (Some v) ps s w i j = w

pub before_types : (k : Kind) (t : Option (Vec TypeDecl Global)) (v : Option (Vec VarDecl Global)) (ps : List ProcDecl) (s : Events) → kind_eq kinds.Type k ≡ false → kind_eq kinds.Var k ≡ false → on_word k s ≡ false → on_construct s ≡ false →
    on_section k ((types_shown t ++ (variables_shown v ++ procedures_shown ps)) ++ s) ≡ false
before_types k None v ps s u w i j = before_variables k v ps s w i j
before_types k (Some t) v ps s u w i j = u

-- ---- sections

pub r-list : {X : Type 0} (f : X → Fragment) (g : X → Events) (k : Kind) → ((x : X) → Reads f g never (f x) (g x)) → ((x : X) (s : Events) → on_declaration ((g x ++ word kinds.Semicolon) ++ s) ≡ true) → (v : Vec X Global) →
    Reads {Z = Vec X Global} {A = List Fragment} (λ z. map f z.items) (λ z. part_shown k g z.items) on_declaration (map f v.items) (part_shown k g v.items)
r-list f g k x front v = r-past k (r-at (λ z. z.items) (r-each f (λ y. g y ++ word kinds.Semicolon) never on_declaration front (λ s i. refl) (λ y s. refl) v.items (λ y. r-then kinds.Semicolon (x y) (λ s. refl))))

pub const_begins : (c : ConstDecl) (s : Events) → on_declaration ((const_events c ++ word kinds.Semicolon) ++ s) ≡ true
unfolding const_events construct
const_begins c s = refl

pub type_decl_begins : (t : TypeDecl) (s : Events) → on_declaration ((type_decl_events t ++ word kinds.Semicolon) ++ s) ≡ true
unfolding type_decl_events construct
type_decl_begins t s = refl

pub variable_begins : (v : VarDecl) (s : Events) → on_declaration ((variable_events v ++ word kinds.Semicolon) ++ s) ≡ true
unfolding variable_events construct
variable_begins v s = refl

abbrev pub section_told : List Fragment → Fragment
section_told xs = both token (pieces (λ x. both x token) xs)

pub section_seen : {X : Type 0} (f : X → Fragment) (o : Option (Vec X Global)) → there (λ v. part f v.items) o ≡ there section_told (maybe (λ v. map f v.items) o)
section_seen f None = refl
section_seen f (Some v) = ap (λ (x : Fragment). both token x) (each_told f (λ x. both x token) v.items)
