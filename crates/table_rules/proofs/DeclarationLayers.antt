-- The entries of declarations and modules, layer by layer.
use Rattle.std.proofs.Common.{◌≡◌, false, refl, ap, ◌∙◌}
use Rattle.ob_tree.specs.declared.name.OneOrMore.{OneOrMore}
use Rattle.ob_tree.specs.declared.declaration.ConstDecl.{ConstDecl}
use Rattle.ob_tree.specs.declared.declaration.TypeDecl.{TypeDecl}
use Rattle.ob_tree.specs.declared.declaration.VarDecl.{VarDecl}
use Rattle.ob_tree.specs.declared.declaration.ImportItem.{ImportItem}
use Rattle.ob_tree.specs.declared.declaration.Module.{Module}
use Rattle.ob_tree.specs.declared.declaration.Declarations.{Declarations, fold_out-Declarations, roll-Declarations, out-Declarations, out-roll-Declarations}
use Rattle.ob_tree.specs.declared.declaration.ProcDecl.{ProcDecl, fold_out-ProcDecl, roll-ProcDecl, out-ProcDecl, out-roll-ProcDecl}
use Rattle.ob_tree.proofs.DeclarationInduction.{DeclarationsLayer, ProcedureLayer}
use Rattle.module_table.specs.declared.rows.DeclKind.TheVariants as decl_kinds
use Rattle.module_table.specs.declared.builder.Context.{Context}
use Rattle.module_table.specs.TableStages.{Stage, after, advanced}
use Rattle.module_table.specs.Parts.{Fragment, token, both, with_rows, if_present, each, declaring, opens_block}
use Rattle.table_rules.specs.Expressions.{each_after, expr_rows}
use Rattle.table_rules.specs.Statements.{block_rows}
use Rattle.table_rules.specs.Types.{declared_row, identdef_rows, parameters_rows, type_rows, var_rows}
use Rattle.table_rules.specs.Declaring.{procedure_end, module_end, const_rows, type_decl_rows, variable_rows, part, declarations_step, procedure_step, declarations_rows, procedure_rows, import_row, import_inner, import_rows, imports_rows, module_rows}
use Rattle.module_table.proofs.Steps.{added_number, each-map, after_both, after_token, after_declaring, steps}

pub const_out : (c : ConstDecl) → const_rows c ≡ declaring decl_kinds.Constant (both (identdef_rows c.name) (both token (expr_rows c.value)))
unfolding const_rows
const_out c = refl

pub type_decl_out : (t : TypeDecl) → type_decl_rows t ≡ declaring decl_kinds.Type (both (identdef_rows t.name) (both token (type_rows t.type_expr)))
unfolding type_decl_rows
type_decl_out t = refl

pub variable_out : (v : VarDecl) → variable_rows v ≡ declaring decl_kinds.Variable (var_rows v)
unfolding variable_rows
variable_out v = refl

abbrev pub declarations_shown : DeclarationsLayer → Fragment
declarations_shown d =
    both (if_present (λ v. part const_rows v.items) d.constants) (
    both (if_present (λ v. part type_decl_rows v.items) d.types) (
    both (if_present (λ v. part variable_rows v.items) d.variables) (each (λ p. both (procedure_rows p) token) d.procedures.items)))

pub declarations_out : (d : Declarations) → declarations_rows d ≡ declarations_shown (out-Declarations d)
unfolding declarations_rows procedure_rows
declarations_out d =
    fold_out-Declarations Fragment Fragment declarations_step procedure_step d ∙
    ap (λ (o : Fragment).
    both (if_present (λ v. part const_rows v.items) (out-Declarations d).constants) (
    both (if_present (λ v. part type_decl_rows v.items) (out-Declarations d).types) (
    both (if_present (λ v. part variable_rows v.items) (out-Declarations d).variables) o))) (each-map (λ (p : Fragment). both p token) _ (out-Declarations d).procedures.items)

pub import_inner_out : (i : ImportItem) → import_inner i ≡ with_rows (import_row i) (with_rows (declared_row false) (both token (if_present (λ m. both token token) i.of)))
unfolding import_inner
import_inner_out i = refl

pub import_out : (i : ImportItem) → import_rows i ≡ declaring decl_kinds.Import (import_inner i)
unfolding import_rows
import_out i = refl

pub imports_out : (l : OneOrMore ImportItem) → imports_rows l ≡ both token (both (import_rows l.first) (both (each_after import_rows l.rest.items) token))
unfolding imports_rows
imports_out l = refl

pub module_out : (m : Module) → module_rows m ≡
    both token (both token (both token (both (if_present imports_rows m.imports) (
    both (declarations_rows m.declarations) (both (if_present (λ b. both token (block_rows b)) m.body) (both token (both (with_rows module_end token) token)))))))
unfolding module_rows
module_out m = refl

pub module_after : (m : Module) (c : Context) (s : Stage) → after (module_rows m) c s
    ≡ advanced (after (with_rows module_end token) c (advanced (after (if_present (λ b. both token (block_rows b)) m.body) c (after (declarations_rows m.declarations) c
    (after (if_present imports_rows m.imports) c (advanced (advanced (advanced s))))))))
module_after m c s = simp (module_out m, after_both, after_token)

pub ruleset sections_made = (steps, after_declaring, added_number, import_inner_out, import_out)

abbrev pub procedure_shown : ProcedureLayer → Fragment
procedure_shown p = declaring decl_kinds.Procedure (opens_block (
    both token (both (identdef_rows p.name) (both (if_present parameters_rows p.parameters) (both token
    (both (declarations_rows p.declarations) (both (if_present (λ b. both token (block_rows b.value)) p.body)
    (both (if_present (λ e. both token (expr_rows e.value)) p.returned) (both token (with_rows procedure_end token))))))))))

pub procedure_told : (p : ProcDecl) → procedure_rows p ≡ procedure_shown (out-ProcDecl p)
unfolding declarations_rows procedure_rows
procedure_told p = fold_out-ProcDecl Fragment Fragment declarations_step procedure_step p

-- the same at a constructed value

pub declarations_made : (x : DeclarationsLayer) → declarations_rows (roll-Declarations x) ≡ declarations_shown x
declarations_made x = declarations_out (roll-Declarations x) ∙ ap (λ y. declarations_shown y) (out-roll-Declarations x)

pub procedure_made : (x : ProcedureLayer) → procedure_rows (roll-ProcDecl x) ≡ procedure_shown x
procedure_made x = procedure_told (roll-ProcDecl x) ∙ ap (λ y. procedure_shown y) (out-roll-ProcDecl x)
