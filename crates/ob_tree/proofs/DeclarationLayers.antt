-- The equations of the event sequences of declarations and modules, layer by layer.
use Rattle.std.proofs.Common.{◌≡◌, ◌++◌, refl, ap, ◌∙◌}
use Rattle.ob_scan.specs.declared.kind.Kind.TheVariants as kinds
use Rattle.ob_tree.specs.declared.declaration.ConstDecl.{ConstDecl}
use Rattle.ob_tree.specs.declared.declaration.TypeDecl.{TypeDecl}
use Rattle.ob_tree.specs.declared.declaration.VarDecl.{VarDecl}
use Rattle.ob_tree.specs.declared.declaration.ImportItem.{ImportItem}
use Rattle.ob_tree.specs.declared.declaration.Module.{Module}
use Rattle.ob_tree.specs.declared.declaration.Declarations.{Declarations, fold_out-Declarations, roll-Declarations, out-Declarations, out-roll-Declarations}
use Rattle.ob_tree.specs.declared.declaration.ProcDecl.{ProcDecl, fold_out-ProcDecl, roll-ProcDecl, out-ProcDecl, out-roll-ProcDecl}
use Rattle.ob_tree.specs.Constructs as constructs
use Rattle.ob_tree.specs.TreeEvents.{Events, construct, word, aliased, imported, named, repeated, if_present, each, separated}
use Rattle.ob_tree.specs.Names.{identdef_events}
use Rattle.ob_tree.specs.Expressions.{expr_events}
use Rattle.ob_tree.specs.Statements.{block_events}
use Rattle.ob_tree.specs.Types.{parameters_events, type_events, var_events}
use Rattle.ob_tree.specs.Declaring.{const_events, type_decl_events, variable_events, part, declarations_events, procedure_events, declarations_step, procedure_step, import_events, module_events}
use Rattle.ob_tree.proofs.DeclarationInduction.{DeclarationsLayer, ProcedureLayer}
use Rattle.ob_tree.proofs.Eaches.{each-map}

pub const_out : (c : ConstDecl) →
    const_events c ≡ construct constructs.ConstDeclaration (identdef_events c.name ++ (word kinds.Equals ++ expr_events c.value))
unfolding const_events
const_out c = refl

pub type_decl_out : (t : TypeDecl) →
    type_decl_events t ≡ construct constructs.TypeDeclaration (identdef_events t.name ++ (word kinds.Equals ++ type_events t.type_expr))
unfolding type_decl_events
type_decl_out t = refl

pub variable_out : (v : VarDecl) → variable_events v ≡ construct constructs.VariableDeclaration (var_events v)
unfolding variable_events
variable_out v = refl

pub import_out : (i : ImportItem) →
    import_events i ≡ construct constructs.Import (aliased i.name ++ if_present (λ m. word kinds.Assign ++ imported m) i.of)
unfolding import_events
import_out i = refl

pub module_out : (m : Module) →
    module_events m ≡ construct constructs.Module (word kinds.Module ++ (named m.name ++ (word kinds.Semicolon ++
    (if_present (λ l. word kinds.Import ++ (separated kinds.Comma import_events l ++ word kinds.Semicolon)) m.imports ++
    (declarations_events m.declarations ++ (if_present (λ b. word kinds.Begin ++ block_events b) m.body ++ (word kinds.End ++ (repeated m.name m.end_name ++ word kinds.Dot))))))))
unfolding module_events
module_out m = refl

-- each layer in which every child is replaced by its event sequence

abbrev pub declarations_shown : DeclarationsLayer → Events
declarations_shown d = if_present (λ v. part kinds.Const const_events v.items) d.constants ++
    (if_present (λ v. part kinds.Type type_decl_events v.items) d.types ++
    (if_present (λ v. part kinds.Var variable_events v.items) d.variables ++ each (λ p. procedure_events p ++ word kinds.Semicolon) d.procedures.items))

abbrev pub procedure_shown : ProcedureLayer → Events
procedure_shown p = word kinds.Procedure ++ (identdef_events p.name ++ (if_present parameters_events p.parameters ++ (word kinds.Semicolon ++
    (declarations_events p.declarations ++ (if_present (λ b. word kinds.Begin ++ block_events b.value) p.body ++
    (if_present (λ e. word kinds.Return ++ expr_events e.value) p.returned ++ (word kinds.End ++ repeated p.name.name p.end_name)))))))

-- the event sequence of a tree, from its layer

pub declarations_out : (d : Declarations) → declarations_events d ≡ declarations_shown (out-Declarations d)
unfolding declarations_events procedure_events
declarations_out d =
    fold_out-Declarations Events Events declarations_step procedure_step d ∙
    ap (λ (o : Events). if_present (λ v. part kinds.Const const_events v.items) (out-Declarations d).constants ++
    (if_present (λ v. part kinds.Type type_decl_events v.items) (out-Declarations d).types ++
    (if_present (λ v. part kinds.Var variable_events v.items) (out-Declarations d).variables ++ o))) (each-map (λ (p : Events). p ++ word kinds.Semicolon) _ (out-Declarations d).procedures.items)

pub procedure_out : (p : ProcDecl) → procedure_events p ≡ construct constructs.ProcedureDeclaration (procedure_shown (out-ProcDecl p))
unfolding declarations_events procedure_events
procedure_out p = fold_out-ProcDecl Events Events declarations_step procedure_step p

-- the event sequence of a tree, from its children

pub declarations_made : (x : DeclarationsLayer) → declarations_events (roll-Declarations x) ≡ declarations_shown x
declarations_made x = declarations_out (roll-Declarations x) ∙ ap (λ y. declarations_shown y) (out-roll-Declarations x)

pub procedure_made : (x : ProcedureLayer) →
    procedure_events (roll-ProcDecl x) ≡ construct constructs.ProcedureDeclaration (procedure_shown x)
procedure_made x = procedure_out (roll-ProcDecl x) ∙ ap (λ y. construct constructs.ProcedureDeclaration (procedure_shown y)) (out-roll-ProcDecl x)

pub ruleset declaring_made = (const_out, type_decl_out, variable_out, import_out, module_out, declarations_made, procedure_made)
