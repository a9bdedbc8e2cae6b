-- The items of types, from those of their children.
use Rattle.std.proofs.Common.{◌≡◌, false, [], ◌∷◌, ◌++◌, Option, append_assoc}
use Rattle.std.specs.declared.boxed.Box.{Box}
use Rattle.std.specs.declared.alloc.Global.{Global}
use Rattle.ob_scan.specs.declared.kind.Kind.TheVariants as kinds
use Rattle.ob_walk.specs.declared.item.Item.TheVariants as items
use Rattle.ob_tree.specs.declared.role.Role.TheVariants as roles
use Rattle.ob_tree.specs.declared.expression.ExprList.{ExprList}
use Rattle.ob_tree.specs.declared.name.Qualident.{Qualident}
use Rattle.ob_tree.specs.declared.declaration.ParameterSection.{ParameterSection}
use Rattle.ob_tree.specs.declared.declaration.Parameters.{Parameters}
use Rattle.ob_tree.specs.declared.declaration.TypeForm.{TypeForm}
use Rattle.ob_tree.specs.declared.declaration.TypeForm.TheVariants as forms
use Rattle.ob_tree.specs.declared.declaration.Fields.{Fields, out-Fields}
use Rattle.ob_tree.specs.declared.declaration.Record.{Record, out-Record}
use Rattle.ob_tree.specs.declared.declaration.VarDecl.{VarDecl, out-VarDecl}
use Rattle.ob_tree.specs.Constructs as constructs
use Rattle.ob_tree.specs.TreeEvents.{Events, construct, word, declared, if_present, if_true, each_after, separated, times}
use Rattle.ob_walk.specs.Items.{items_of}
use Rattle.ob_tree.specs.Names.{qualident_events, identdef_events}
use Rattle.ob_tree.specs.Expressions.{expr_list_events}
use Rattle.ob_tree.specs.Types.{section_events, parameters_events, type_events, fields_events, record_events, var_events}
use Rattle.ob_tree.proofs.TypeLayers.{section_out, parameters_out, fields_out, record_out, var_out, named_made, array_made, record_of_made, pointer_made, procedure_type_made}
use Rattle.ob_walk.proofs.Walks.{items-append, items-construct, items-times, walks}

pub section_items : (s : ParameterSection) → items_of (section_events s) ≡
    items_of (if_true s.variable (word kinds.Var)) ++ (items.Identifier (roles.Declares false) s.names.first ∷ (items_of (each_after kinds.Comma (declared false) s.names.rest.items) ++
    (items.Word ∷ (items_of (times s.open_arrays (word kinds.Array ++ word kinds.Of)) ++ items_of (qualident_events s.of)))))
section_items s = simp (section_out s, items-construct, items-append, append_assoc)

pub parameters_items : (p : Parameters) → items_of (parameters_events p) ≡
    items.Word ∷ (items_of (if_present (separated kinds.Semicolon section_events) p.sections) ++ (items.Word ∷ items_of (if_present (λ q. word kinds.Colon ++ qualident_events q) p.result)))
parameters_items p = simp (parameters_out p, items-append)

pub fields_items : (f : Fields) → items_of (fields_events f) ≡
    items_of (construct constructs.FieldList (var_events (out-Fields f).first)) ++ (items_of (each_after kinds.Semicolon (λ v. construct constructs.FieldList (var_events v)) (out-Fields f).rest.items) ++
    items_of (if_true (out-Fields f).closing_semicolon (word kinds.Semicolon)))
fields_items f = simp (fields_out f, items-append)

pub field_items : (o : Events) → items_of (construct constructs.FieldList o) ≡ items_of o
field_items o = items-construct constructs.FieldList o

pub record_items : (r : Record) → items_of (record_events r) ≡
    items.Word ∷ (items_of (if_present (λ q. word kinds.LeftParen ++ (qualident_events q ++ word kinds.RightParen)) (out-Record r).base) ++
    (items_of (if_present (λ x. fields_events x.value) (out-Record r).fields) ++ items.Word ∷ []))
record_items r = simp (record_out r, items-append)

pub var_items : (v : VarDecl) → items_of (var_events v) ≡
    items_of (identdef_events (out-VarDecl v).names.first) ++ (items_of (each_after kinds.Comma identdef_events (out-VarDecl v).names.rest.items) ++
    (items.Word ∷ items_of (type_events (out-VarDecl v).type_expr)))
var_items v = simp (var_out v, items-append, append_assoc)

pub named_items : (q : Qualident) → items_of (type_events (forms.Named q)) ≡ items_of (qualident_events q)
named_items q = simp (named_made q, items-construct)

pub array_items : (l : Box ExprList Global) (t : Box TypeForm Global) → items_of (type_events (forms.ArrayOf l t)) ≡
    items.Word ∷ (items_of (expr_list_events l.value) ++ (items.Word ∷ items_of (type_events t.value)))
array_items l t = simp (array_made l t, items-construct, items-append)

pub record_of_items : (r : Record) → items_of (type_events (forms.RecordOf r)) ≡ items_of (record_events r)
record_of_items r = simp (record_of_made r, items-construct)

pub pointer_items : (t : Box TypeForm Global) → items_of (type_events (forms.PointerTo t)) ≡
    items.Word ∷ (items.Word ∷ items_of (type_events t.value))
pointer_items t = simp (pointer_made t, items-construct)

pub procedure_type_items : (p : Option Parameters) → items_of (type_events (forms.ProcOf p)) ≡
    items.Word ∷ items_of (if_present parameters_events p)
procedure_type_items p = simp (procedure_type_made p, items-construct)

pub ruleset section_walks = (walks, items-append, items-times, section_items, parameters_items)

pub ruleset type_walks = (walks, items-append, field_items, fields_items, record_items, var_items, named_items, array_items, record_of_items, pointer_items, procedure_type_items)
