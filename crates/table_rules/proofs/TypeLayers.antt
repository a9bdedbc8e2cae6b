-- The entries of type expressions, layer by layer.
use Rattle.std.proofs.Common.{◌≡◌, Option, Some, None, false, refl, ap, ◌∙◌}
use Rattle.std.specs.declared.boxed.Box.{Box}
use Rattle.std.specs.declared.alloc.Global.{Global}
use Rattle.ob_tree.specs.declared.expression.ExprList.{ExprList, out-ExprList}
use Rattle.ob_tree.specs.declared.name.Identdef.{Identdef}
use Rattle.ob_tree.specs.declared.name.Qualident.{Qualident}
use Rattle.ob_tree.specs.declared.declaration.ParameterSection.{ParameterSection}
use Rattle.ob_tree.specs.declared.declaration.Parameters.{Parameters}
use Rattle.ob_tree.specs.declared.declaration.TypeForm.{TypeForm, fold_out-TypeForm, roll-TypeForm, out-TypeForm, out-roll-TypeForm, map-TypeForm}
use Rattle.ob_tree.specs.declared.declaration.TypeForm.TheOpen as layers
use Rattle.ob_tree.specs.declared.declaration.TypeForm.TheShapes as shapes
use Rattle.ob_tree.specs.declared.declaration.TypeForm.TheVariants as forms
use Rattle.ob_tree.specs.declared.declaration.Fields.{Fields, fold_out-Fields, roll-Fields, out-Fields, out-roll-Fields}
use Rattle.ob_tree.specs.declared.declaration.Record.{Record, fold_out-Record, roll-Record, out-Record, out-roll-Record}
use Rattle.ob_tree.specs.declared.declaration.VarDecl.{VarDecl, fold_out-VarDecl, roll-VarDecl, out-VarDecl, out-roll-VarDecl}
use Rattle.ob_tree.proofs.TypeInduction.{TypeLayer, FieldsLayer, RecordLayer, VarLayer}
use Rattle.module_table.specs.declared.rows.DeclKind.TheVariants as decl_kinds
use Rattle.module_table.specs.declared.rows.Part.TheVariants as parts
use Rattle.module_table.specs.declared.builder.Context.{Context}
use Rattle.module_table.specs.TableStages.{Stage, added, after, advanced}
use Rattle.module_table.specs.Parts.{Fragment, token, both, with_rows, within, if_present, if_true, each, declaring, opens_block}
use Rattle.table_rules.specs.Expressions.{each_after, expr_rows}
use Rattle.table_rules.specs.Statements.{qualident_rows}
use Rattle.table_rules.specs.Types.{declared_row, part_row, name_part, type_use_row, in_pointer, in_array, in_record, record_row, identdef_rows, parameter_rows, open_arrays, section_inner, section_rows, parameters_rows, type_name_rows, lengths_rows, type_step, fields_step, record_step, var_step, type_rows, fields_rows, record_rows, var_rows}
use Rattle.module_table.proofs.Steps.{added_number, each-map, after_token, after_tells, after_within, after_both, steps}

fields_there : (f : Fields → Fragment) (o : Option (Box Fields Global)) → if_present (λ x. x.value) ((shapes.former-Record-fields).map Fields Fragment f o)
    ≡ if_present (λ x. f x.value) o
fields_there f None = refl
fields_there f (Some x) = refl

pub identdef_out : (i : Identdef) → identdef_rows i ≡ with_rows (declared_row i.is_exported) (both token (if_true i.is_exported token))
unfolding identdef_rows
identdef_out i = refl

pub parameter_out : parameter_rows ≡ with_rows (declared_row false) token
unfolding parameter_rows
parameter_out = refl

pub section_inner_out : (s : ParameterSection) → section_inner s ≡
    both (if_true s.variable token) (both parameter_rows (both (each_after (λ n. parameter_rows) s.names.rest.items) (both token
    (both (open_arrays s.open_arrays) (with_rows (name_part s.of) (qualident_rows s.of))))))
unfolding section_inner
section_inner_out s = refl

pub section_out : (s : ParameterSection) → section_rows s ≡ declaring decl_kinds.Parameter (section_inner s)
unfolding section_rows
section_out s = refl

pub parameters_out : (p : Parameters) → parameters_rows p ≡ both token (
    both (if_present (λ l. both (section_rows l.first) (each_after section_rows l.rest.items)) p.sections) (both token
    (if_present (λ q. both token (qualident_rows q)) p.result)))
unfolding parameters_rows
parameters_out p = refl

pub type_name_out : (q : Qualident) → type_name_rows q ≡ with_rows (name_part q) (with_rows (type_use_row q) (both token (if_present (λ m. both token token) q.member)))
unfolding type_name_rows
type_name_out q = refl

pub lengths_out : (l : ExprList) → lengths_rows l ≡ both (expr_rows (out-ExprList l).first) (each (λ e. both (with_rows (part_row parts.Array) token) (expr_rows e)) (out-ExprList l).rest.items)
unfolding lengths_rows
lengths_out l = refl

-- each layer, with what each part contributes in its place

abbrev pub type_shown : TypeLayer → Fragment
type_shown (layers.Named q) = type_name_rows q
type_shown (layers.ArrayOf lengths of) = with_rows (part_row parts.Array) (both token (both (lengths_rows lengths.value) (both token (within in_array (type_rows of.value)))))
type_shown (layers.RecordOf r) = with_rows (part_row parts.Record) (record_rows r)
type_shown (layers.PointerTo t) = with_rows (part_row parts.Pointer) (both token (both token (within in_pointer (type_rows t.value))))
type_shown (layers.ProcOf p) = with_rows (part_row parts.Procedure) (opens_block (both token (if_present parameters_rows p)))

abbrev pub fields_shown : FieldsLayer → Fragment
fields_shown f = both (declaring decl_kinds.Field (var_rows f.first)) (both (each_after (λ v. declaring decl_kinds.Field (var_rows v)) f.rest.items) (if_true f.closing_semicolon token))

abbrev pub record_shown : RecordLayer → Fragment
record_shown r = with_rows (record_row r.base) (within in_record (
    both token (both (if_present (λ q. both token (both (qualident_rows q) token)) r.base)
    (both (if_present (λ x. fields_rows x.value) r.fields) token))))

abbrev pub var_shown : VarLayer → Fragment
var_shown v = both (identdef_rows v.names.first) (both (each_after identdef_rows v.names.rest.items) (both token (type_rows v.type_expr)))

type_seen : (x : TypeLayer) → type_step (map-TypeForm TypeForm Fields Record VarDecl Fragment Fragment Fragment Fragment type_rows fields_rows record_rows var_rows x) ≡ type_shown x
type_seen (layers.Named q) = refl
type_seen (layers.ArrayOf lengths of) = refl
type_seen (layers.RecordOf r) = refl
type_seen (layers.PointerTo t) = refl
type_seen (layers.ProcOf p) = refl

type_out : (t : TypeForm) → type_rows t ≡ type_shown (out-TypeForm t)
unfolding type_rows fields_rows record_rows var_rows
type_out t = fold_out-TypeForm Fragment Fragment Fragment Fragment type_step fields_step record_step var_step t ∙ type_seen (out-TypeForm t)

pub fields_out : (f : Fields) → fields_rows f ≡ fields_shown (out-Fields f)
unfolding fields_rows var_rows
fields_out f =
    fold_out-Fields Fragment Fragment Fragment Fragment type_step fields_step record_step var_step f
    ∙ ap (λ (o : Fragment). both (declaring decl_kinds.Field (var_rows (out-Fields f).first)) (both o (if_true (out-Fields f).closing_semicolon token))) (each-map (λ (v : Fragment). both token (declaring decl_kinds.Field v)) _ (out-Fields f).rest.items)

pub record_out : (r : Record) → record_rows r ≡ record_shown (out-Record r)
unfolding record_rows fields_rows
record_out r =
    fold_out-Record Fragment Fragment Fragment Fragment type_step fields_step record_step var_step r
    ∙ ap (λ (o : Fragment). with_rows (record_row (out-Record r).base) (within in_record (
    both token (both (if_present (λ q. both token (both (qualident_rows q) token)) (out-Record r).base) (both o token))))) (fields_there fields_rows (out-Record r).fields)

pub var_out : (v : VarDecl) → var_rows v ≡ var_shown (out-VarDecl v)
unfolding var_rows type_rows
var_out v = fold_out-VarDecl Fragment Fragment Fragment Fragment type_step fields_step record_step var_step v

pub record_after : (r : Record) (c : Context) (s : Stage) → after (record_rows r) c s
    ≡ advanced (after (if_present (λ x. fields_rows x.value) (out-Record r).fields) (in_record c s.number)
    (after (if_present (λ q. both token (both (qualident_rows q) token)) (out-Record r).base) (in_record c s.number)
    (advanced (added (record_row (out-Record r).base c s.number) s))))
record_after r c s = simp (record_out r, after_tells, after_within, added_number, after_both, after_token)

-- the same at a constructed value

formed : (t : TypeForm) (x : TypeLayer) → out-TypeForm t ≡ x → type_rows t ≡ type_shown x
formed t x e = type_out t ∙ ap (λ y. type_shown y) e

pub type_rolled : (x : TypeLayer) → type_rows (roll-TypeForm x) ≡ type_shown x
type_rolled x = formed (roll-TypeForm x) x (out-roll-TypeForm x)

pub fields_rolled : (x : FieldsLayer) → fields_rows (roll-Fields x) ≡ fields_shown x
fields_rolled x = fields_out (roll-Fields x) ∙ ap (λ y. fields_shown y) (out-roll-Fields x)

pub record_rolled : (x : RecordLayer) → record_rows (roll-Record x) ≡ record_shown x
record_rolled x = record_out (roll-Record x) ∙ ap (λ y. record_shown y) (out-roll-Record x)

pub var_rolled : (x : VarLayer) → var_rows (roll-VarDecl x) ≡ var_shown x
var_rolled x = var_out (roll-VarDecl x) ∙ ap (λ y. var_shown y) (out-roll-VarDecl x)

pub named_made : (q : Qualident) → type_rows (forms.Named q) ≡ type_name_rows q
named_made q = formed _ _ (forms.outs-Named q)

pub array_made : (l : Box ExprList Global) (t : Box TypeForm Global) → type_rows (forms.ArrayOf l t)
    ≡ with_rows (part_row parts.Array) (both token (both (lengths_rows l.value) (both token (within in_array (type_rows t.value)))))
array_made l t = formed _ _ (forms.outs-ArrayOf l t)

pub record_of_made : (r : Record) → type_rows (forms.RecordOf r) ≡ with_rows (part_row parts.Record) (record_rows r)
record_of_made r = formed _ _ (forms.outs-RecordOf r)

pub pointer_made : (t : Box TypeForm Global) → type_rows (forms.PointerTo t)
    ≡ with_rows (part_row parts.Pointer) (both token (both token (within in_pointer (type_rows t.value))))
pointer_made t = formed _ _ (forms.outs-PointerTo t)

pub procedure_type_made : (p : Option Parameters) → type_rows (forms.ProcOf p) ≡ with_rows (part_row parts.Procedure) (opens_block (both token (if_present parameters_rows p)))
procedure_type_made p = formed _ _ (forms.outs-ProcOf p)

pub ruleset names_made = (steps, added_number, identdef_out, parameter_out, type_name_out)

pub type_told : (t : TypeForm) → type_rows t ≡ type_shown (out-TypeForm t)
type_told = type_out
