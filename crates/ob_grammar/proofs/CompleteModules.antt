-- The tokens of declarations or of a module are read as those declarations or that module.
use Rattle.std.proofs.Common.{◌≡◌, ℕ, zero, suc, ◌≤◌, List, [], ◌∷◌, ◌++◌, Option, Some, None, Ok, refl, sym, ap, subst, ◌∙◌}
use Rattle.std.specs.Prelude.{Vec}
use Rattle.std.specs.declared.boxed.Box.{Box}
use Rattle.std.specs.declared.alloc.Global.{Global}
use Rattle.std.proofs.lemmas.List.{append-nil}
use Rattle.ob_scan.specs.declared.kind.Kind.{Kind}
use Rattle.ob_scan.specs.declared.kind.Kind.TheVariants as kinds
use Rattle.ob_tree.specs.declared.token.Leaf.{Leaf}
use Rattle.ob_tree.specs.declared.token.Leaf.TheVariants as leafs
use Rattle.ob_tree.specs.declared.name.OneOrMore.{OneOrMore}
use Rattle.ob_tree.specs.declared.name.Identdef.{Identdef}
use Rattle.ob_tree.specs.declared.expression.Expr.{Expr}
use Rattle.ob_tree.specs.declared.statement.StatementSequence.{StatementSequence}
use Rattle.ob_tree.specs.declared.declaration.Parameters.{Parameters}
use Rattle.ob_tree.specs.declared.declaration.ConstDecl.{ConstDecl}
use Rattle.ob_tree.specs.declared.declaration.TypeDecl.{TypeDecl}
use Rattle.ob_tree.specs.declared.declaration.VarDecl.{VarDecl}
use Rattle.ob_tree.specs.declared.declaration.ImportItem.{ImportItem}
use Rattle.ob_tree.specs.declared.declaration.Module.{Module}
use Rattle.ob_tree.specs.declared.declaration.Declarations.{Declarations, out-Declarations}
use Rattle.ob_tree.specs.declared.declaration.ProcDecl.{ProcDecl, ProcDecl-F, out-ProcDecl}
use Rattle.ob_tree.specs.Constructs as constructs
use Rattle.ob_tree.specs.Constructs.{Construct}
use Rattle.ob_tree.specs.declared.role.Role.{Role}
use Rattle.ob_tree.specs.declared.role.Role.TheVariants.{Names}
use Rattle.ob_tree.specs.TreeEvents.{Events, Identifier, construct, word, aliased, imported, repeated, if_present, each, separated, tokens_of, height}
use Rattle.ob_tree.specs.Names.{identdef_events}
use Rattle.ob_tree.specs.Expressions.{expr_events}
use Rattle.ob_tree.specs.Statements.{block_events}
use Rattle.ob_tree.specs.Types.{parameters_events}
use Rattle.ob_tree.specs.Declaring.{part, const_events, type_decl_events, variable_events, declarations_events, procedure_events, import_events, module_events}
use Rattle.ob_tree.proofs.DeclarationLayers.{procedure_shown, const_out, type_decl_out, variable_out, import_out, module_out, declarations_out, procedure_out}
use Rattle.ob_grammar.specs.Lookahead.{is_word}
use Rattle.ob_grammar.specs.Combinators.{Reader, expect_at, accept_at, name_at, identifier_at, after_name, begins, seq, optional, many, several}
use Rattle.ob_grammar.specs.ReadNames.{identdef_after}
use Rattle.ob_grammar.specs.ReadExpressions.{expr_at}
use Rattle.ob_grammar.specs.ReadStatements.{block_at}
use Rattle.ob_grammar.specs.ReadTypes.{optional_parameters_at, type_at}
use Rattle.ob_grammar.specs.ReadModules.{is_identifier, const_with, type_decl_with, variable_with, with_semicolon, section_with, procedures_with, declarations_with, body_with, procedure_named, name_then, procedure_with, procedure_at, declarations_at, import_item_at, imports_at, module_after_name, module_at, read_all}
use Rattle.ob_grammar.proofs.CompatibleProductions.{import_held}
use Rattle.ob_grammar.proofs.Sound.{sound, tokens_of-construct, expr_at_sound, type_at_sound}
use Rattle.ob_grammar.proofs.Loops.{Advances, accept_advances, declared_advances, const_shortens, type_decl_shortens, variable_shortens}
use Rattle.ob_grammar.proofs.LoopProcedures.{procedure_advances}
use Rattle.ob_grammar.proofs.ReadsBack.{Reads, low_right, split}
use Rattle.ob_grammar.proofs.CompleteNames.{identdef_after_again}
use Rattle.ob_grammar.proofs.CompleteExpressions.{EndsExpr}
use Rattle.ob_grammar.proofs.CompleteStatements.{EndsBlock, expr_ends, block_ends, again_expr, again_blocks}
use Rattle.ob_grammar.proofs.CompleteTypes.{EndsType, semicolon_ends_type, again_identdef, identdef_opens, again_some_parameters, again_var, var_opens, again_type}
use Rattle.ob_grammar.proofs.Bounded.{Again, again_is, again_seq, again_end, again_word, again_name, again_node, again_level, too_high, again_option, past_there, again_each, again_several, not_accepted, OpensName, opens_name_node, opens_name_front}

-- ---- one declaration

again_const : (d : ℕ) (c : ConstDecl) (rest : List Leaf) → EndsExpr rest → Again d (const_with (expr_at d)) (const_events c) rest
unfolding const_with
again_const d c rest end = again_is (const_out c)
    (again_node constructs.ConstDeclaration
    (again_seq (again_word kinds.Equals (again_expr d c.value rest end)) (again_identdef d c.name _ (not_accepted kinds.Star kinds.Equals _ refl))))

again_type_decl : (d : ℕ) (t : TypeDecl) (rest : List Leaf) → EndsType rest → Again d (type_decl_with (type_at d)) (type_decl_events t) rest
unfolding type_decl_with
again_type_decl d t rest end = again_is (type_decl_out t)
    (again_node constructs.TypeDeclaration
    (again_seq (again_word kinds.Equals (again_type d t.type_expr rest end)) (again_identdef d t.name _ (not_accepted kinds.Star kinds.Equals _ refl))))

again_variable : (d : ℕ) (v : VarDecl) (rest : List Leaf) → EndsType rest → Again d (variable_with (type_at d)) (variable_events v) rest
unfolding variable_with
again_variable d v rest end = again_is (variable_out v) (again_node constructs.VariableDeclaration (again_var d (again_type d) v rest end))

named_opens : (r : Events) (c : Construct) (i : Identdef) (more : Events) (x : List Leaf) → r ≡ construct c (identdef_events i ++ more) → OpensName (tokens_of r ++ x)
named_opens r c i more x e = subst (λ (o : Events). OpensName (tokens_of o ++ x)) (sym e)
    (opens_name_node c (identdef_events i ++ more) x (opens_name_front (identdef_events i) more x (identdef_opens i)))

const_opens : (c : ConstDecl) (x : List Leaf) → OpensName (tokens_of (const_events c) ++ x)
const_opens c x = named_opens _ constructs.ConstDeclaration c.name (word kinds.Equals ++ expr_events c.value) x (const_out c)

type_decl_opens : (t : TypeDecl) (x : List Leaf) → OpensName (tokens_of (type_decl_events t) ++ x)
type_decl_opens t x = named_opens _ constructs.TypeDeclaration t.name _ x (type_decl_out t)

variable_opens : (v : VarDecl) (x : List Leaf) → OpensName (tokens_of (variable_events v) ++ x)
variable_opens v x = subst (λ (o : Events). OpensName (tokens_of o ++ x)) (sym (variable_out v)) (opens_name_node constructs.VariableDeclaration _ x (var_opens v x))

-- ---- sections

name_begun : (ls : List Leaf) → OpensName ls → begins is_identifier ls ≡ Some ([], ls)
unfolding begins
name_begun ls h = rw h.is refl

-- a declaration with its semicolon
abbrev pub ended_outline : {X : Type 0} → (X → Events) → X → Events
ended_outline f x = f x ++ word kinds.Semicolon

again_ended : {X : Type 0} (d : ℕ) (r : Reader) (f : X → Events) → ((x : X) (rest : List Leaf) → Again d r (f x) (leafs.Word kinds.Semicolon ∷ rest)) →
    (x : X) (rest : List Leaf) → Again d (with_semicolon r) (ended_outline f x) rest
again_ended d r f h x rest = again_seq (again_end d kinds.Semicolon rest) (h x rest)

again_listed : {X : Type 0} (d : ℕ) (k : Kind) (r : Reader) (f : X → Events) → Advances (begins is_identifier) (with_semicolon r) →
    ((x : X) (rest : List Leaf) → Again d r (f x) (leafs.Word kinds.Semicolon ∷ rest)) → ((x : X) (ls : List Leaf) → OpensName (tokens_of (f x) ++ ls)) →
    (o : Option (Vec X Global)) (rest : List Leaf) → accept_at k rest ≡ None → begins is_identifier rest ≡ None → Again d (section_with k r) (if_present (λ v. part k f v.items) o) rest
unfolding section_with
again_listed d k r f adv h opens o rest none no_name =
    again_option d k (many (begins is_identifier) (with_semicolon r)) (λ v. each (ended_outline f) v.items) o rest none (λ v.
    again_each (begins is_identifier) (with_semicolon r) (λ x. []) (ended_outline f) (λ ls. Unit {0}) d adv
    (λ x ls. name_begun _ (opens_name_front (f x) (word kinds.Semicolon) ls (opens x))) (λ x ls. tt) (λ x ls good. again_ended d r f h x ls) v.items rest tt no_name)

---- tokens that can't continue declarations

pub record EndsDeclarations (rest : List Leaf) : Type 0 where
  pub name : begins is_identifier rest ≡ None
  pub constants : accept_at kinds.Const rest ≡ None
  pub types : accept_at kinds.Type rest ≡ None
  pub variables : accept_at kinds.Var rest ≡ None
  pub procedures : begins (is_word kinds.Procedure) rest ≡ None

begin_ends : (rest : List Leaf) → EndsDeclarations (leafs.Word kinds.Begin ∷ rest)
unfolding begins accept_at
begin_ends rest = record { name = refl; constants = refl; types = refl; variables = refl; procedures = refl }

return_ends : (rest : List Leaf) → EndsDeclarations (leafs.Word kinds.Return ∷ rest)
unfolding begins accept_at
return_ends rest = record { name = refl; constants = refl; types = refl; variables = refl; procedures = refl }

end_ends : (rest : List Leaf) → EndsDeclarations (leafs.Word kinds.End ∷ rest)
unfolding begins accept_at
end_ends rest = record { name = refl; constants = refl; types = refl; variables = refl; procedures = refl }

no_name_at : (k : Kind) (ls : List Leaf) → begins is_identifier (leafs.Word k ∷ ls) ≡ None
unfolding begins
no_name_at k ls = refl

---- procedures, if the procedures of one level less are read back

procedure_opens : (p : ProcDecl) (x : List Leaf) → (tail : List Leaf) × (tokens_of (procedure_events p) ++ x ≡ leafs.Word kinds.Procedure ∷ tail)
procedure_opens p x = (
  _,
  ap (λ (o : Events). tokens_of o ++ x) (procedure_out p) ∙
      ap (λ (t : List Leaf). t ++ x) (tokens_of-construct constructs.ProcedureDeclaration (procedure_shown (out-ProcDecl p))),
)

procedure_begun : (p : ProcDecl) (x : List Leaf) → begins (is_word kinds.Procedure) (tokens_of (procedure_events p) ++ x) ≡ Some ([], tokens_of (procedure_events p) ++ x)
unfolding begins
procedure_begun p x = rw (procedure_opens p x).1 refl

past_procedures : (Good : List Leaf → Type 0) (ps : List ProcDecl) (rest : List Leaf) → ((ls : List Leaf) → Good (leafs.Word kinds.Procedure ∷ ls)) → Good rest →
    Good (tokens_of (each (ended_outline procedure_events) ps) ++ rest)
past_procedures Good [] rest h good = good
past_procedures Good (p ∷ ps) rest h good =
    let more : Events = each (ended_outline procedure_events) ps in
    let behind : List Leaf = tokens_of (word kinds.Semicolon) ++ (tokens_of more ++ rest) in
    let same : tokens_of (ended_outline procedure_events p ++ more) ++ rest ≡ tokens_of (procedure_events p) ++ behind =
    split (ended_outline procedure_events p) more rest ∙ split (procedure_events p) (word kinds.Semicolon) (tokens_of more ++ rest) in
    subst Good (sym (same ∙ (procedure_opens p behind).1)) (h _)

abbrev pub AgainProcedures : ℕ → Type 0
AgainProcedures d = (p : ProcDecl) (rest : List Leaf) → Again d (procedure_at d) (procedure_events p) rest

again_procedures : (d : ℕ) → AgainProcedures d → (ps : List ProcDecl) (rest : List Leaf) → begins (is_word kinds.Procedure) rest ≡ None →
    Again d (procedures_with (procedure_at d)) (each (ended_outline procedure_events) ps) rest
unfolding procedures_with
again_procedures d h ps rest none =
    again_each (begins (is_word kinds.Procedure)) (with_semicolon (procedure_at d)) (λ p. []) (ended_outline procedure_events) (λ ls. Unit {0}) d (procedure_advances d)
    ended_begun (λ p ls. tt) (λ p ls good. again_ended d (procedure_at d) procedure_events (λ q x. h q _) p ls) ps rest tt none
  where
    ended_begun : (p : ProcDecl) (ls : List Leaf) → begins (is_word kinds.Procedure) (tokens_of (ended_outline procedure_events p) ++ ls) ≡
        Some ([], tokens_of (ended_outline procedure_events p) ++ ls)
    ended_begun p ls = subst (λ (t : List Leaf). begins (is_word kinds.Procedure) t ≡ Some ([], t)) (sym (split (procedure_events p) (word kinds.Semicolon) ls))
        (procedure_begun p _)

abbrev constants_outline : Option (Vec ConstDecl Global) → Events
constants_outline = if_present (λ v. part kinds.Const const_events v.items)

abbrev types_outline : Option (Vec TypeDecl Global) → Events
types_outline = if_present (λ v. part kinds.Type type_decl_events v.items)

abbrev variables_outline : Option (Vec VarDecl Global) → Events
variables_outline = if_present (λ v. part kinds.Var variable_events v.items)

past_variables : (Good : List Leaf → Type 0) (o : Option (Vec VarDecl Global)) (more : Events) (rest : List Leaf) → ((ls : List Leaf) → Good (leafs.Word kinds.Var ∷ ls)) →
    Good (tokens_of more ++ rest) → Good (tokens_of (variables_outline o ++ more) ++ rest)
past_variables Good o more rest h good = past_there Good kinds.Var (λ v. each (ended_outline variable_events) v.items) o more rest h good

past_types : (Good : List Leaf → Type 0) (o : Option (Vec TypeDecl Global)) (more : Events) (rest : List Leaf) → ((ls : List Leaf) → Good (leafs.Word kinds.Type ∷ ls)) →
    Good (tokens_of more ++ rest) → Good (tokens_of (types_outline o ++ more) ++ rest)
past_types Good o more rest h good = past_there Good kinds.Type (λ v. each (ended_outline type_decl_events) v.items) o more rest h good

past_constants : (Good : List Leaf → Type 0) (o : Option (Vec ConstDecl Global)) (more : Events) (rest : List Leaf) →
    ((ls : List Leaf) → Good (leafs.Word kinds.Const ∷ ls)) → Good (tokens_of more ++ rest) → Good (tokens_of (constants_outline o ++ more) ++ rest)
past_constants Good o more rest h good = past_there Good kinds.Const (λ v. each (ended_outline const_events) v.items) o more rest h good

past_declarations : (Good : List Leaf → Type 0) (x : Declarations) (rest : List Leaf) → ((ls : List Leaf) → Good (leafs.Word kinds.Const ∷ ls)) →
    ((ls : List Leaf) → Good (leafs.Word kinds.Type ∷ ls)) → ((ls : List Leaf) → Good (leafs.Word kinds.Var ∷ ls)) →
    ((ls : List Leaf) → Good (leafs.Word kinds.Procedure ∷ ls)) → Good rest → Good (tokens_of (declarations_events x) ++ rest)
past_declarations Good x rest a b c d good =
    let y = out-Declarations x in
    let procedures : Events = each (ended_outline procedure_events) y.procedures.items in
    let variables : Events = variables_outline y.variables ++ procedures in
    let types : Events = types_outline y.types ++ variables in
    subst (λ (o : Events). Good (tokens_of o ++ rest)) (sym (declarations_out x))
    (past_constants Good y.constants types rest a
    (past_types Good y.types variables rest b (past_variables Good y.variables procedures rest c (past_procedures Good y.procedures.items rest d good))))

again_declarations : (d : ℕ) → AgainProcedures d → (x : Declarations) (rest : List Leaf) → EndsDeclarations rest → Again d (declarations_at d) (declarations_events x) rest
unfolding declarations_with
again_declarations d h x rest end =
    let y = out-Declarations x in
    let procedures : Events = each (ended_outline procedure_events) y.procedures.items in
    let variables : Events = variables_outline y.variables ++ procedures in
    let types : Events = types_outline y.types ++ variables in
    let past : (Good : List Leaf → Type 0) → ((ls : List Leaf) → Good (leafs.Word kinds.Procedure ∷ ls)) → Good rest → Good (tokens_of procedures ++ rest) =
    λ Good. past_procedures Good y.procedures.items rest in
    let no_name : begins is_identifier (tokens_of procedures ++ rest) ≡ None = past (λ ls. begins is_identifier ls ≡ None) (no_name_at kinds.Procedure) end.name in
    let no_name_next : begins is_identifier (tokens_of variables ++ rest) ≡ None =
    past_variables (λ ls. begins is_identifier ls ≡ None) y.variables procedures rest (no_name_at kinds.Var) no_name in
    let no_name_last : begins is_identifier (tokens_of types ++ rest) ≡ None = past_types (λ ls. begins is_identifier ls ≡ None) y.types variables rest (no_name_at kinds.Type) no_name_next in
    let no_variables : accept_at kinds.Var (tokens_of procedures ++ rest) ≡ None =
    past (λ ls. accept_at kinds.Var ls ≡ None) (λ ls. not_accepted kinds.Var kinds.Procedure ls refl) end.variables in
    let no_types : accept_at kinds.Type (tokens_of variables ++ rest) ≡ None =
    past_variables (λ ls. accept_at kinds.Type ls ≡ None) y.variables procedures rest (λ ls. not_accepted kinds.Type kinds.Var ls refl)
    (past (λ ls. accept_at kinds.Type ls ≡ None) (λ ls. not_accepted kinds.Type kinds.Procedure ls refl) end.types) in
    let no_constants : accept_at kinds.Const (tokens_of types ++ rest) ≡ None =
    past_types (λ ls. accept_at kinds.Const ls ≡ None) y.types variables rest (λ ls. not_accepted kinds.Const kinds.Type ls refl)
    (past_variables (λ ls. accept_at kinds.Const ls ≡ None) y.variables procedures rest (λ ls. not_accepted kinds.Const kinds.Var ls refl)
    (past (λ ls. accept_at kinds.Const ls ≡ None) (λ ls. not_accepted kinds.Const kinds.Procedure ls refl) end.constants)) in
    let from_procedures = again_procedures d h y.procedures.items rest end.procedures in
    let from_variables = again_seq from_procedures
    (again_listed d kinds.Var (variable_with (type_at d)) variable_events (declared_advances _ (variable_shortens d (type_at d) (type_at_sound d)))
    (λ v ls. again_variable d v _ (semicolon_ends_type ls)) variable_opens y.variables _ no_variables no_name) in
    let from_types = again_seq from_variables
    (again_listed d kinds.Type (type_decl_with (type_at d)) type_decl_events (declared_advances _ (type_decl_shortens d (type_at d) (type_at_sound d)))
    (λ t ls. again_type_decl d t _ (semicolon_ends_type ls)) type_decl_opens y.types _ no_types no_name_next) in
    let from_constants = again_seq from_types
    (again_listed d kinds.Const (const_with (expr_at d)) const_events (declared_advances _ (const_shortens d (expr_at d) (expr_at_sound d)))
    (λ c ls. again_const d c _ (expr_ends kinds.Semicolon ls refl)) const_opens y.constants _ no_constants no_name_last) in
    again_is (declarations_out x) from_constants

-- after an identifier of this role
again_name_then : {d : ℕ} {o : Events} {rest : List Leaf} (role : Role) (r : ℕ → Reader) (n : ℕ) → Again d (r n) o rest →
    Again d (name_then (λ m. Identifier role m ∷ []) r) (Identifier role n ∷ o) rest
unfolding identifier_at
again_name_then role r n p = record { reads = λ le. record { is = rw (p.reads le).is refl } }

-- after a declaring identifier, with an asterisk or without
again_identdef_then : {d : ℕ} {o : Events} {rest : List Leaf} (r : ℕ → Reader) (i : Identdef) → accept_at kinds.Star (tokens_of o ++ rest) ≡ None → Again d (r i.name) o rest →
    Again d (after_name (λ n. seq (identdef_after n) (r n))) (identdef_events i ++ o) rest
unfolding identdef_events identifier_at
again_identdef_then {d} {o} {rest} r i end p = record {
  reads = λ le.
      let it = p.reads (low_right (identdef_events i) o d le) in
      record { is = ap (after_name (λ n. seq (identdef_after n) (r n))) (split (identdef_events i) o rest) ∙ rw (identdef_after_again i.is_exported i.name (tokens_of o ++ rest) end, it.is) refl };
}

abbrev answer_outline : Option (Box Expr Global) → Events
answer_outline = if_present (λ e. word kinds.Return ++ expr_events e.value)

abbrev body_outline : Option (Box StatementSequence Global) → Events
body_outline = if_present (λ b. word kinds.Begin ++ block_events b.value)

no_star : (o : Option Parameters) (more : Events) (rest : List Leaf) →
    accept_at kinds.Star (tokens_of (if_present parameters_events o ++ (word kinds.Semicolon ++ more)) ++ rest) ≡ None
unfolding accept_at parameters_events
no_star None more rest = refl
no_star (Some p) more rest = refl

again_named : (d : ℕ) → AgainProcedures d → (x : ProcDecl-F Declarations ProcDecl) (rest : List Leaf) →
    Again d (after_name (procedure_named (expr_at d) (block_at d) (declarations_at d)))
    (identdef_events x.name ++ (if_present parameters_events x.parameters ++
    (word kinds.Semicolon ++ (declarations_events x.declarations ++
    (body_outline x.body ++ (answer_outline x.returned ++ (word kinds.End ++ repeated x.name.name x.end_name))))))) rest
unfolding procedure_named body_with
again_named d h x rest =
    let last : Events = word kinds.End ++ repeated x.name.name x.end_name in
    let end = again_word kinds.End (again_name d (repeated x.name.name) x.end_name rest refl) in
    let answer = again_seq end (again_option d kinds.Return (expr_at d) (λ (e : Box Expr Global). expr_events e.value) x.returned _
    (not_accepted kinds.Return kinds.End _ refl) (λ e. again_expr d e.value _ (expr_ends kinds.End _ refl))) in
    let past : (Good : List Leaf → Type 0) → ((ls : List Leaf) → Good (leafs.Word kinds.Return ∷ ls)) → Good (leafs.Word kinds.End ∷ (leafs.Name x.end_name ∷ rest)) →
    Good (tokens_of (answer_outline x.returned ++ last) ++ rest) = λ Good. past_there Good kinds.Return (λ (e : Box Expr Global). expr_events e.value) x.returned last rest in
    let block_end : EndsBlock (tokens_of (answer_outline x.returned ++ last) ++ rest) = past EndsBlock (λ ls. block_ends kinds.Return ls refl) (block_ends kinds.End _ refl) in
    let no_body : accept_at kinds.Begin (tokens_of (answer_outline x.returned ++ last) ++ rest) ≡ None =
    past (λ ls. accept_at kinds.Begin ls ≡ None) (λ ls. not_accepted kinds.Begin kinds.Return ls refl) (not_accepted kinds.Begin kinds.End _ refl) in
    let body = again_seq answer (again_option d kinds.Begin (block_at d) (λ (b : Box StatementSequence Global). block_events b.value) x.body _ no_body
    (λ b. again_blocks d b.value _ block_end)) in
    let declared_end : EndsDeclarations (tokens_of (body_outline x.body ++ (answer_outline x.returned ++ last)) ++ rest) =
    past_there EndsDeclarations kinds.Begin (λ (b : Box StatementSequence Global). block_events b.value) x.body (answer_outline x.returned ++ last) rest begin_ends
    (past EndsDeclarations return_ends (end_ends _)) in
    let declarations = again_word kinds.Semicolon (again_seq body (again_declarations d h x.declarations _ declared_end)) in
    let parameters = again_seq declarations (again_some_parameters d x.parameters _ (semicolon_ends_type _)) in
    again_identdef_then (λ n. seq optional_parameters_at (seq (expect_at kinds.Semicolon) (seq (declarations_at d) (seq (body_with (block_at d)) (seq (optional (accept_at kinds.Return) (expr_at d)) (seq (expect_at kinds.End) (name_at (repeated n))))))))
    x.name (no_star x.parameters _ rest) parameters

again_no_procedure : AgainProcedures zero
again_no_procedure p rest = again_is (procedure_out p) (too_high _ _ rest constructs.ProcedureDeclaration refl)

again_next : (d : ℕ) → AgainProcedures d → (p : ProcDecl) (rest : List Leaf) →
    Again (suc d) (procedure_with (expr_at d) (block_at d) (declarations_at d)) (procedure_events p) rest
unfolding procedure_with
again_next d h p rest = again_is (procedure_out p) (again_level constructs.ProcedureDeclaration refl (again_word kinds.Procedure (again_named d h (out-ProcDecl p) rest)))

pub again_procedure : (d : ℕ) → AgainProcedures d
unfolding procedure_at
again_procedure zero = again_no_procedure
again_procedure (suc d) = again_next d (again_procedure d)

-- ---- modules

again_import : (d : ℕ) (i : ImportItem) (rest : List Leaf) → accept_at kinds.Assign rest ≡ None → Again d import_item_at (import_events i) rest
unfolding import_item_at
again_import d i rest none =
    again_is (import_out i) (again_node constructs.Import
    (again_seq (again_option d kinds.Assign (name_at imported) imported i.of rest none (λ m. again_name d imported m rest refl)) (again_name d aliased i.name _ refl)))

again_imports : (d : ℕ) (o : Option (OneOrMore ImportItem)) (rest : List Leaf) → accept_at kinds.Import rest ≡ None →
    Again d imports_at (if_present (λ l. word kinds.Import ++ (separated kinds.Comma import_events l ++ word kinds.Semicolon)) o) rest
unfolding imports_at
again_imports d o rest none =
    again_option d kinds.Import (seq (several kinds.Comma import_item_at) (expect_at kinds.Semicolon)) (λ l. separated kinds.Comma import_events l ++ word kinds.Semicolon) o
    rest none (λ l.
    again_seq (again_end d kinds.Semicolon rest)
    (again_several kinds.Comma import_item_at import_events (λ ls. accept_at kinds.Assign ls ≡ None) d (accept_advances d kinds.Comma import_item_at (import_held sound))
    (λ ls. not_accepted kinds.Assign kinds.Comma ls refl) (again_import d) l.first l.rest.items _ (not_accepted kinds.Assign kinds.Semicolon _ refl)
    (not_accepted kinds.Comma kinds.Semicolon _ refl)))

abbrev statements_outline : Option StatementSequence → Events
statements_outline = if_present (λ b. word kinds.Begin ++ block_events b)

again_module : (d : ℕ) (m : Module) (rest : List Leaf) → Again d (module_at d) (module_events m) rest
unfolding module_at module_after_name body_with
again_module d m rest =
    let last : Events = word kinds.End ++ (repeated m.name m.end_name ++ word kinds.Dot) in
    let end = again_word kinds.End (again_seq (again_end d kinds.Dot rest) (again_name d (repeated m.name) m.end_name _ refl)) in
    let body = again_seq end (again_option d kinds.Begin (block_at d) block_events m.body _ (not_accepted kinds.Begin kinds.End _ refl)
    (λ b. again_blocks d b _ (block_ends kinds.End _ refl))) in
    let behind : Events = statements_outline m.body ++ last in
    let declared_end : EndsDeclarations (tokens_of behind ++ rest) = past_there EndsDeclarations kinds.Begin block_events m.body last rest begin_ends (end_ends _) in
    let declarations = again_seq body (again_declarations d (again_procedure d) m.declarations _ declared_end) in
    let absent : List Leaf → Type 0 = λ ls. accept_at kinds.Import ls ≡ None in
    let no_import_behind : absent (tokens_of behind ++ rest) =
    past_there absent kinds.Begin block_events m.body last rest (λ ls. not_accepted kinds.Import kinds.Begin ls refl) (not_accepted kinds.Import kinds.End _ refl) in
    let no_import : absent (tokens_of (declarations_events m.declarations ++ behind) ++ rest) =
    subst absent (sym (split (declarations_events m.declarations) behind rest))
    (past_declarations absent m.declarations (tokens_of behind ++ rest) (λ ls. not_accepted kinds.Import kinds.Const ls refl)
    (λ ls. not_accepted kinds.Import kinds.Type ls refl) (λ ls. not_accepted kinds.Import kinds.Var ls refl) (λ ls. not_accepted kinds.Import kinds.Procedure ls refl)
    no_import_behind) in
    let all_tokens = again_word kinds.Semicolon (again_seq declarations (again_imports d m.imports _ no_import)) in
    again_is (module_out m) (again_node constructs.Module (again_word kinds.Module (again_name_then Names (module_after_name d) m.name all_tokens)))

pub modules_again : (d : ℕ) (m : Module) (rest : List Leaf) → height (module_events m) ≤ d → Reads (module_at d) (module_events m) rest
modules_again d m rest le = (again_module d m rest).reads le

-- a module whose tokens are all tokens is read back
pub all_again : (d : ℕ) (m : Module) → height (module_events m) ≤ d → read_all d (tokens_of (module_events m)) ≡ Ok (module_events m)
unfolding read_all
all_again d m le =
    let it : module_at d (tokens_of (module_events m)) ≡ Ok (module_events m, []) = ap (module_at d) (sym (append-nil (tokens_of (module_events m)))) ∙
    (modules_again d m [] le).is in
    rw it refl
