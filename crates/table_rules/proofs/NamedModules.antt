-- The piece of a module and its event sequence have the same tokens, and its entries name each identifier.
use Rattle.std.proofs.Common.{◌≡◌, ◌+◌, List, Some, None, ◌++◌, refl}
use Rattle.ob_scan.specs.declared.kind.Kind.{Kind}
use Rattle.ob_scan.specs.declared.kind.Kind.TheVariants as kinds
use Rattle.ob_tree.specs.declared.name.OneOrMore.{OneOrMore}
use Rattle.ob_tree.specs.declared.declaration.ConstDecl.{ConstDecl}
use Rattle.ob_tree.specs.declared.declaration.TypeDecl.{TypeDecl}
use Rattle.ob_tree.specs.declared.declaration.VarDecl.{VarDecl}
use Rattle.ob_tree.specs.declared.declaration.ImportItem.{ImportItem}
use Rattle.ob_tree.specs.declared.declaration.Module.{Module}
use Rattle.ob_tree.specs.declared.declaration.Declarations.{Declarations}
use Rattle.ob_tree.specs.Constructs as constructs
use Rattle.ob_tree.specs.declared.role.Role.TheVariants.{Names}
use Rattle.ob_tree.specs.TreeEvents.{Events, if_present, word, repeated, separated}
use Rattle.ob_tree.specs.Expressions.{expr_events}
use Rattle.ob_tree.specs.Statements.{block_events}
use Rattle.ob_tree.specs.Types.{parameters_events}
use Rattle.ob_tree.specs.Declaring.{const_events, type_decl_events, variable_events, part, declarations_events, procedure_events, import_events, module_events}
use Rattle.ob_tree.proofs.DeclarationLayers.{declarations_shown, procedure_shown, declarations_made, procedure_made}
use Rattle.ob_tree.proofs.DeclarationInduction.{DeclarationPredicates, DeclarationSteps, WithDeclarations, WithProcedure, declarations_of, procedure_of, declarations_induction}
use Rattle.module_table.specs.declared.rows.DeclKind.TheVariants as decl_kinds
use Rattle.module_table.specs.Parts.{Fragment, token, both, with_rows}
use Rattle.module_table.specs.Parts.{if_present as there}
use Rattle.table_rules.specs.Expressions.{expr_rows}
use Rattle.table_rules.specs.Statements.{block_rows}
use Rattle.table_rules.specs.Types.{parameters_rows}
use Rattle.table_rules.specs.Declaring.{rows_of, module_end, const_rows, type_decl_rows, variable_rows, declarations_rows, procedure_rows, import_inner, import_rows, imports_rows, module_rows}
use Rattle.table_rules.specs.Declaring.{part as told_part}
use Rattle.table_rules.proofs.DeclarationLayers as told
use Rattle.module_table.specs.Tables.{module_name_token}
use Rattle.table_rules.specs.Naming.{IsNamed}
use Rattle.table_rules.proofs.Mirrored.{Mirrors, m-both, m-held, m-name, m-word}
use Rattle.table_rules.proofs.Compatible.{c-each, c-map, c-there, c-three, related-is}
use Rattle.table_rules.proofs.Named.{AtNames, Named, named_module, named_module_roles, role_of_name, n-word, n-ends, n-both, n-item, n-held, n-declaring, n-opens_block}
use Rattle.table_rules.proofs.Roles.{HasRole, HaveRoles, role_at}
use Rattle.table_rules.proofs.NamedExpressions.{named, n-expr}
use Rattle.table_rules.proofs.NamedStatements.{n-block}
use Rattle.table_rules.proofs.NamedTypes.{n-identdef, n-parameters, n-type, n-var}

-- ---- declarations of one name or more

pub n-const : (c : ConstDecl) → Named (const_rows c) (const_events c)
unfolding const_rows const_events
n-const c = n-held constructs.ConstDeclaration (n-declaring decl_kinds.Constant (n-both (n-identdef c.name) (n-both (n-word kinds.Equals) (n-expr c.value))))

pub n-type_decl : (t : TypeDecl) → Named (type_decl_rows t) (type_decl_events t)
unfolding type_decl_rows type_decl_events
n-type_decl t = n-held constructs.TypeDeclaration (n-declaring decl_kinds.Type (n-both (n-identdef t.name) (n-both (n-word kinds.Equals) (n-type t.type_expr))))

pub n-variables : (v : VarDecl) → Named (variable_rows v) (variable_events v)
unfolding variable_rows variable_events
n-variables v = n-held constructs.VariableDeclaration (n-declaring decl_kinds.Variable (n-var v))

pub n-import : (i : ImportItem) → Named (import_rows i) (import_events i)
unfolding import_rows import_inner import_events
n-import i = n-held constructs.Import (n-declaring decl_kinds.Import (n-item i.of i.name))

pub n-part : {X : Type 0} (k : Kind) (f : X → Fragment) (g : X → Events) (xs : List X) → ((x : X) → Named (f x) (g x)) → Named (told_part f xs) (part k g xs)
n-part k f g xs w = n-both (n-word k) (c-each named (λ x. both (f x) token) (λ x. g x ++ word kinds.Semicolon) xs (λ x. n-both (w x) (n-word kinds.Semicolon)))

-- each part mirrors its event sequence

abbrev predicates : DeclarationPredicates
predicates = record {
  declarations = λ t. Named (declarations_rows t) (declarations_events t);
  procedure = λ t. Named (procedure_rows t) (procedure_events t);
}

declarations_held : (y : WithDeclarations predicates) → Named (told.declarations_shown (declarations_of predicates y)) (declarations_shown (declarations_of predicates y))
declarations_held y =
    n-both (c-there named (λ v. told_part const_rows v.items) (λ v. part kinds.Const const_events v.items) y.constants (λ v. n-part kinds.Const const_rows const_events v.items n-const))
    (n-both (c-there named (λ v. told_part type_decl_rows v.items) (λ v. part kinds.Type type_decl_events v.items) y.types (λ v. n-part kinds.Type type_decl_rows type_decl_events v.items n-type_decl))
    (n-both (c-there named (λ v. told_part variable_rows v.items) (λ v. part kinds.Var variable_events v.items) y.variables (λ v. n-part kinds.Var variable_rows variable_events v.items n-variables))
    (c-map named (λ p. both (procedure_rows p) token) (λ p. procedure_events p ++ word kinds.Semicolon) _ y.procedures.items (λ p. n-both p.1 (n-word kinds.Semicolon)))))

procedure_held : (y : WithProcedure predicates) → Named (told.procedure_shown (procedure_of predicates y)) (procedure_shown (procedure_of predicates y))
procedure_held y = n-declaring decl_kinds.Procedure (n-opens_block (
    n-both (n-word kinds.Procedure) (n-both (n-identdef y.name) (n-both (c-there named parameters_rows parameters_events y.parameters n-parameters) (n-both (n-word kinds.Semicolon)
    (n-both y.declarations.1 (n-both (c-there named (λ b. both token (block_rows b.value)) (λ b. word kinds.Begin ++ block_events b.value) y.body (λ b. n-both (n-word kinds.Begin) (n-block b.value)))
    (n-both (c-there named (λ e. both token (expr_rows e.value)) (λ e. word kinds.Return ++ expr_events e.value) y.returned (λ e. n-both (n-word kinds.Return) (n-expr e.value)))
    (n-both (n-word kinds.End) (n-ends (λ c k. Some (c.decl_group + 1)) y.name.name y.end_name))))))))))

-- ---- layer by layer

steps : DeclarationSteps predicates
steps = record {
  declarations = λ y. related-is Named (told.declarations_made _) (declarations_made _) (declarations_held y);
  procedure = λ y. related-is Named (told.procedure_made _) (procedure_made _) (n-held constructs.ProcedureDeclaration (procedure_held y));
}

pub n-declarations : (d : Declarations) → Named (declarations_rows d) (declarations_events d)
n-declarations = declarations_induction predicates steps

pub n-imports : (l : OneOrMore ImportItem) → Named (imports_rows l) (word kinds.Import ++ (separated kinds.Comma import_events l ++ word kinds.Semicolon))
unfolding imports_rows
n-imports l = n-both (n-word kinds.Import) (c-three named (n-import l.first)
    (c-each named (λ i. both token (import_rows i)) (λ i. word kinds.Comma ++ import_events i) l.rest.items (λ i. n-both (n-word kinds.Comma) (n-import i))) (n-word kinds.Semicolon))

-- what is after a module's own name
behind_name : Module → Fragment
behind_name m = both token (both (there imports_rows m.imports) (both (declarations_rows m.declarations) (both (there (λ b. both token (block_rows b)) m.body)
    (both token (both (with_rows module_end token) token)))))

behind_outline : Module → Events
behind_outline m = word kinds.Semicolon ++ (if_present (λ l. word kinds.Import ++ (separated kinds.Comma import_events l ++ word kinds.Semicolon)) m.imports ++ (declarations_events m.declarations ++
    (if_present (λ b. word kinds.Begin ++ block_events b) m.body ++ (word kinds.End ++ (repeated m.name m.end_name ++ word kinds.Dot)))))

n-behind : (m : Module) → Named (behind_name m) (behind_outline m)
unfolding behind_name behind_outline
n-behind m = n-both (n-word kinds.Semicolon)
    (n-both (c-there named imports_rows (λ l. word kinds.Import ++ (separated kinds.Comma import_events l ++ word kinds.Semicolon)) m.imports n-imports)
    (n-both (n-declarations m.declarations) (n-both (c-there named (λ b. both token (block_rows b)) (λ b. word kinds.Begin ++ block_events b) m.body (λ b. n-both (n-word kinds.Begin) (n-block b)))
    (n-both (n-word kinds.End) (n-both (n-ends (λ c k. None) m.name m.end_name) (n-word kinds.Dot))))))

pub m-module : (m : Module) → Mirrors (module_rows m) (module_events m)
unfolding module_rows module_events behind_name behind_outline
m-module m = m-held constructs.Module (m-both (m-word kinds.Module) (m-both (m-name Names m.name (λ k. refl) (λ k. refl)) (n-behind m).mirrors))

-- and its own name is where every module has it
pub module_named : (m : Module) → AtNames (IsNamed (rows_of m)) 0 (module_events m)
unfolding module_rows module_events behind_name behind_outline
module_named m = named_module m.name (n-behind m)

-- what its entries name has their role
pub module_roles : (m : Module) → HaveRoles (HasRole 0 (module_events m)) (rows_of m)
unfolding module_rows module_events behind_name behind_outline
module_roles m = named_module_roles m.name (n-behind m)

pub own_role : (m : Module) → role_at (module_events m) module_name_token ≡ Some Names
unfolding module_events behind_outline
own_role m = role_of_name m.name (behind_outline m)
