-- The items of declarations and modules, from those of their children.
use Rattle.std.proofs.Common.{◌≡◌, [], ◌∷◌, ◌++◌, append_assoc}
use Rattle.ob_scan.specs.declared.kind.Kind.TheVariants as kinds
use Rattle.ob_walk.specs.declared.item.Item.TheVariants as items
use Rattle.ob_tree.specs.declared.role.Role.TheVariants as roles
use Rattle.ob_tree.specs.declared.declaration.ConstDecl.{ConstDecl}
use Rattle.ob_tree.specs.declared.declaration.TypeDecl.{TypeDecl}
use Rattle.ob_tree.specs.declared.declaration.VarDecl.{VarDecl}
use Rattle.ob_tree.specs.declared.declaration.ImportItem.{ImportItem}
use Rattle.ob_tree.specs.declared.declaration.Module.{Module}
use Rattle.ob_tree.specs.declared.declaration.Declarations.{Declarations, out-Declarations}
use Rattle.ob_tree.specs.declared.declaration.ProcDecl.{ProcDecl, out-ProcDecl}
use Rattle.ob_tree.specs.TreeEvents.{word, imported, if_present, each, separated}
use Rattle.ob_walk.specs.Items.{items_of}
use Rattle.ob_tree.specs.Names.{identdef_events}
use Rattle.ob_tree.specs.Expressions.{expr_events}
use Rattle.ob_tree.specs.Statements.{block_events}
use Rattle.ob_tree.specs.Types.{parameters_events, type_events, var_events}
use Rattle.ob_tree.specs.Declaring.{part, const_events, type_decl_events, variable_events, declarations_events, procedure_events, import_events, module_events}
use Rattle.ob_tree.proofs.DeclarationLayers.{const_out, type_decl_out, variable_out, import_out, module_out, declarations_out, procedure_out}
use Rattle.ob_walk.proofs.Walks.{items-append, items-construct, walks}

pub const_items : (c : ConstDecl) → items_of (const_events c) ≡
    items_of (identdef_events c.name) ++ (items.Word ∷ items_of (expr_events c.value))
const_items c = simp (const_out c, items-construct, items-append)

pub type_decl_items : (t : TypeDecl) → items_of (type_decl_events t) ≡
    items_of (identdef_events t.name) ++ (items.Word ∷ items_of (type_events t.type_expr))
type_decl_items t = simp (type_decl_out t, items-construct, items-append)

pub variable_items : (v : VarDecl) → items_of (variable_events v) ≡ items_of (var_events v)
variable_items v = simp (variable_out v, items-construct)

pub import_items : (i : ImportItem) → items_of (import_events i) ≡
    items.Identifier roles.Aliases i.name ∷ items_of (if_present (λ m. word kinds.Assign ++ imported m) i.of)
import_items i = simp (import_out i, items-construct)

pub module_items : (m : Module) → items_of (module_events m) ≡
    items.Word ∷ (items.Identifier roles.Names m.name ∷ (items.Word ∷
    (items_of (if_present (λ l. word kinds.Import ++ (separated kinds.Comma import_events l ++ word kinds.Semicolon)) m.imports) ++
    (items_of (declarations_events m.declarations) ++ (items_of (if_present (λ b. word kinds.Begin ++ block_events b) m.body) ++
    (items.Word ∷ (items.Identifier (roles.Repeats m.name) m.end_name ∷ (items.Word ∷ []))))))))
module_items m = simp (module_out m, items-construct, items-append)

pub declarations_items : (d : Declarations) → items_of (declarations_events d) ≡
    items_of (if_present (λ v. part kinds.Const const_events v.items) (out-Declarations d).constants) ++
    (items_of (if_present (λ v. part kinds.Type type_decl_events v.items) (out-Declarations d).types) ++
    (items_of (if_present (λ v. part kinds.Var variable_events v.items) (out-Declarations d).variables) ++
    items_of (each (λ p. procedure_events p ++ word kinds.Semicolon) (out-Declarations d).procedures.items)))
declarations_items d = simp (declarations_out d, items-append)

pub procedure_items : (p : ProcDecl) → items_of (procedure_events p) ≡
    items.Word ∷ (items_of (identdef_events (out-ProcDecl p).name) ++ (items_of (if_present parameters_events (out-ProcDecl p).parameters) ++ (items.Word ∷
    (items_of (declarations_events (out-ProcDecl p).declarations) ++ (items_of (if_present (λ b. word kinds.Begin ++ block_events b.value) (out-ProcDecl p).body) ++
    (items_of (if_present (λ e. word kinds.Return ++ expr_events e.value) (out-ProcDecl p).returned) ++
    (items.Word ∷ (items.Identifier (roles.Repeats (out-ProcDecl p).name.name) (out-ProcDecl p).end_name ∷ []))))))))
procedure_items p = simp (procedure_out p, items-construct, items-append, append_assoc)

pub ruleset section_walks = (walks, items-append, const_items, type_decl_items, variable_items)

pub ruleset declaration_walks = (walks, items-append, declarations_items, procedure_items)

pub ruleset module_walks = (walks, items-append, import_items, module_items)
