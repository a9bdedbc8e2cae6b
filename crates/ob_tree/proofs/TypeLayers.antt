-- The equations of the event sequences of types, layer by layer.
use Rattle.std.proofs.Common.{◌≡◌, ◌++◌, Option, Some, None, refl, ap, ◌∙◌}
use Rattle.std.specs.Prelude.{Bool, false, Vec}
use Rattle.std.specs.declared.boxed.Box.{Box}
use Rattle.std.specs.declared.alloc.Global.{Global}
use Rattle.ob_scan.specs.declared.kind.Kind.TheVariants as kinds
use Rattle.ob_tree.specs.declared.expression.ExprList.{ExprList}
use Rattle.ob_tree.specs.declared.name.Identdef.{Identdef}
use Rattle.ob_tree.specs.declared.name.OneOrMore.{OneOrMore}
use Rattle.ob_tree.specs.declared.name.Qualident.{Qualident}
use Rattle.ob_tree.specs.declared.declaration.ParameterSection.{ParameterSection}
use Rattle.ob_tree.specs.declared.declaration.Parameters.{Parameters}
use Rattle.ob_tree.specs.declared.declaration.TypeForm.{TypeForm, fold_out-TypeForm, roll-TypeForm, out-TypeForm, out-roll-TypeForm, map-TypeForm}
use Rattle.ob_tree.specs.declared.declaration.TypeForm.TheOpen as layers
use Rattle.ob_tree.specs.declared.declaration.TypeForm.TheShapes as shapes
use Rattle.ob_tree.specs.declared.declaration.TypeForm.TheVariants as forms
use Rattle.ob_tree.specs.declared.declaration.Fields.{Fields, fold_out-Fields, roll-Fields, out-Fields, out-roll-Fields}
use Rattle.ob_tree.specs.declared.declaration.Record.{Record, fold_out-Record, roll-Record, out-Record, out-roll-Record}
use Rattle.ob_tree.specs.declared.declaration.VarDecl.{VarDecl, fold_out-VarDecl, roll-VarDecl, out-VarDecl, out-roll-VarDecl}
use Rattle.ob_tree.specs.Constructs as constructs
use Rattle.ob_tree.specs.TreeEvents.{Events, construct, word, declared, if_present, if_true, each_after, separated, times}
use Rattle.ob_tree.specs.Names.{qualident_events, identdef_events}
use Rattle.ob_tree.specs.Expressions.{expr_list_events}
use Rattle.ob_tree.specs.Types.{section_events, parameters_events, type_step, fields_step, record_step, var_step, type_events, fields_events, record_events, var_events}
use Rattle.ob_tree.proofs.TypeInduction.{TypeLayer, FieldsLayer, RecordLayer, VarLayer}
use Rattle.ob_tree.proofs.Eaches.{each-map}

fields_there : (f : Fields → Events) (o : Option (Box Fields Global)) → if_present (λ x. x.value) ((shapes.former-Record-fields).map Fields Events f o)
    ≡ if_present (λ x. f x.value) o
fields_there f None = refl
fields_there f (Some x) = refl

-- ---- parameters

pub section_out : (s : ParameterSection) → section_events s
    ≡ construct constructs.FPSection (if_true s.variable (word kinds.Var) ++ (separated kinds.Comma (declared false) s.names ++ (word kinds.Colon ++ (times s.open_arrays (word kinds.Array ++ word kinds.Of) ++ qualident_events s.of))))
unfolding section_events
section_out s = refl

pub parameters_out : (p : Parameters) → parameters_events p
    ≡ word kinds.LeftParen ++ (if_present (separated kinds.Semicolon section_events) p.sections ++ (word kinds.RightParen ++ if_present (λ q. word kinds.Colon ++ qualident_events q) p.result))
unfolding parameters_events
parameters_out p = refl

-- ---- the event sequences of a layer's children

abbrev pub type_shown : TypeLayer → Events
type_shown (layers.Named q) = construct constructs.NamedType (qualident_events q)
type_shown (layers.ArrayOf lengths of) = construct constructs.ArrayType (word kinds.Array ++ (expr_list_events lengths.value ++ (word kinds.Of ++ type_events of.value)))
type_shown (layers.RecordOf r) = construct constructs.RecordType (record_events r)
type_shown (layers.PointerTo t) = construct constructs.PointerType (word kinds.Pointer ++ (word kinds.To ++ type_events t.value))
type_shown (layers.ProcOf p) = construct constructs.ProcedureType (word kinds.Procedure ++ if_present parameters_events p)

abbrev pub fields_shown : FieldsLayer → Events
fields_shown f = construct constructs.FieldList (var_events f.first) ++ (each_after kinds.Semicolon (λ v. construct constructs.FieldList (var_events v)) f.rest.items ++ if_true f.closing_semicolon (word kinds.Semicolon))

abbrev pub record_shown : RecordLayer → Events
record_shown r = word kinds.Record ++ (if_present (λ q. word kinds.LeftParen ++ (qualident_events q ++ word kinds.RightParen)) r.base ++ (if_present (λ f. fields_events f.value) r.fields ++ word kinds.End))

abbrev pub var_shown : VarLayer → Events
var_shown v = separated kinds.Comma identdef_events v.names ++ (word kinds.Colon ++ type_events v.type_expr)

type_seen : (x : TypeLayer) → type_step (map-TypeForm TypeForm Fields Record VarDecl Events Events Events Events type_events fields_events record_events var_events x)
    ≡ type_shown x
type_seen (layers.Named q) = refl
type_seen (layers.ArrayOf lengths of) = refl
type_seen (layers.RecordOf r) = refl
type_seen (layers.PointerTo t) = refl
type_seen (layers.ProcOf p) = refl

pub type_out : (t : TypeForm) → type_events t ≡ type_shown (out-TypeForm t)
unfolding type_events fields_events record_events var_events
type_out t = fold_out-TypeForm Events Events Events Events type_step fields_step record_step var_step t ∙ type_seen (out-TypeForm t)

pub fields_out : (f : Fields) → fields_events f ≡ fields_shown (out-Fields f)
unfolding fields_events var_events
fields_out f =
    fold_out-Fields Events Events Events Events type_step fields_step record_step var_step f
    ∙ ap (λ (o : Events). construct constructs.FieldList (var_events (out-Fields f).first) ++ (o ++ if_true (out-Fields f).closing_semicolon (word kinds.Semicolon))) (each-map (λ (v : Events). word kinds.Semicolon ++ construct constructs.FieldList v) _ (out-Fields f).rest.items)

pub record_out : (r : Record) → record_events r ≡ record_shown (out-Record r)
unfolding record_events fields_events
record_out r =
    fold_out-Record Events Events Events Events type_step fields_step record_step var_step r
    ∙ ap (λ (o : Events). word kinds.Record ++ (if_present (λ q. word kinds.LeftParen ++ (qualident_events q ++ word kinds.RightParen)) (out-Record r).base ++ (o ++ word kinds.End))) (fields_there fields_events (out-Record r).fields)

pub var_out : (v : VarDecl) → var_events v ≡ var_shown (out-VarDecl v)
unfolding var_events type_events
var_out v = fold_out-VarDecl Events Events Events Events type_step fields_step record_step var_step v

-- ---- the equations at constructed values

formed : (t : TypeForm) (x : TypeLayer) → out-TypeForm t ≡ x → type_events t ≡ type_shown x
formed t x e = type_out t ∙ ap (λ y. type_shown y) e

pub type_rolled : (x : TypeLayer) → type_events (roll-TypeForm x) ≡ type_shown x
type_rolled x = formed (roll-TypeForm x) x (out-roll-TypeForm x)

pub fields_rolled : (x : FieldsLayer) → fields_events (roll-Fields x) ≡ fields_shown x
fields_rolled x = fields_out (roll-Fields x) ∙ ap (λ y. fields_shown y) (out-roll-Fields x)

pub record_rolled : (x : RecordLayer) → record_events (roll-Record x) ≡ record_shown x
record_rolled x = record_out (roll-Record x) ∙ ap (λ y. record_shown y) (out-roll-Record x)

pub var_rolled : (x : VarLayer) → var_events (roll-VarDecl x) ≡ var_shown x
var_rolled x = var_out (roll-VarDecl x) ∙ ap (λ y. var_shown y) (out-roll-VarDecl x)

pub fields_made : (d : VarDecl) (v : Vec VarDecl Global) (b : Bool) → fields_events (roll-Fields (record { first = d; rest = v; closing_semicolon = b }))
    ≡ construct constructs.FieldList (var_events d) ++ (each_after kinds.Semicolon (λ x. construct constructs.FieldList (var_events x)) v.items ++ if_true b (word kinds.Semicolon))
fields_made d v b = fields_rolled _

pub record_made : (o : Option Qualident) (f : Option (Box Fields Global)) → record_events (roll-Record (record { base = o; fields = f }))
    ≡ word kinds.Record ++ (if_present (λ q. word kinds.LeftParen ++ (qualident_events q ++ word kinds.RightParen)) o ++ (if_present (λ x. fields_events x.value) f ++ word kinds.End))
record_made o f = record_rolled _

pub var_made : (l : OneOrMore Identdef) (t : TypeForm) → var_events (roll-VarDecl (record { names = l; type_expr = t }))
    ≡ separated kinds.Comma identdef_events l ++ (word kinds.Colon ++ type_events t)
var_made l t = var_rolled _

pub named_made : (q : Qualident) → type_events (forms.Named q) ≡ construct constructs.NamedType (qualident_events q)
named_made q = formed _ _ (forms.outs-Named q)

pub array_made : (l : Box ExprList Global) (t : Box TypeForm Global) → type_events (forms.ArrayOf l t)
    ≡ construct constructs.ArrayType (word kinds.Array ++ (expr_list_events l.value ++ (word kinds.Of ++ type_events t.value)))
array_made l t = formed _ _ (forms.outs-ArrayOf l t)

pub record_of_made : (r : Record) → type_events (forms.RecordOf r) ≡ construct constructs.RecordType (record_events r)
record_of_made r = formed _ _ (forms.outs-RecordOf r)

pub pointer_made : (t : Box TypeForm Global) → type_events (forms.PointerTo t)
    ≡ construct constructs.PointerType (word kinds.Pointer ++ (word kinds.To ++ type_events t.value))
pointer_made t = formed _ _ (forms.outs-PointerTo t)

pub procedure_type_made : (p : Option Parameters) → type_events (forms.ProcOf p)
    ≡ construct constructs.ProcedureType (word kinds.Procedure ++ if_present parameters_events p)
procedure_type_made p = formed _ _ (forms.outs-ProcOf p)

pub ruleset types_made = (section_out, parameters_out, fields_made, record_made, var_made, named_made, array_made, record_of_made, pointer_made, procedure_type_made)
