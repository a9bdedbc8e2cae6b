-- The event sequences of types, one definition for each production (Oberon-07 report, sections 6 and 10.1).
use Rattle.std.specs.Prelude.{◌++◌, false}
use Rattle.ob_scan.specs.declared.kind.Kind.TheVariants as kinds
use Rattle.ob_tree.specs.declared.declaration.ParameterSection.{ParameterSection}
use Rattle.ob_tree.specs.declared.declaration.Parameters.{Parameters}
use Rattle.ob_tree.specs.declared.declaration.TypeForm.{TypeForm, TypeForm-F, fold-TypeForm}
use Rattle.ob_tree.specs.declared.declaration.TypeForm.TheOpen as layers
use Rattle.ob_tree.specs.declared.declaration.Fields.{Fields, Fields-F, fold-Fields}
use Rattle.ob_tree.specs.declared.declaration.Record.{Record, Record-F, fold-Record}
use Rattle.ob_tree.specs.declared.declaration.VarDecl.{VarDecl, VarDecl-F, fold-VarDecl}
use Rattle.ob_tree.specs.Constructs as constructs
use Rattle.ob_tree.specs.TreeEvents.{Events, construct, word, declared, if_present, if_true, each_after, separated, times}
use Rattle.ob_tree.specs.Names.{qualident_events, identdef_events}
use Rattle.ob_tree.specs.Expressions.{expr_list_events}

-- FPSection = [VAR] ident {"," ident} ":" {ARRAY OF} qualident
unfoldable pub section_events : ParameterSection → Events
section_events s = construct constructs.FPSection (
    if_true s.variable (word kinds.Var) ++ (separated kinds.Comma (declared false) s.names ++ (word kinds.Colon ++
    (times s.open_arrays (word kinds.Array ++ word kinds.Of) ++ qualident_events s.of))))

-- FormalParameters = "(" [FPSection {";" FPSection}] ")" [":" qualident]
unfoldable pub parameters_events : Parameters → Events
parameters_events p =
    word kinds.LeftParen ++ (if_present (separated kinds.Semicolon section_events) p.sections ++
    (word kinds.RightParen ++ if_present (λ q. word kinds.Colon ++ qualident_events q) p.result))

-- Each `.._step` below gives the event sequence of a node from the event sequences of its children.

-- type = qualident | ArrayType | RecordType | PointerType | ProcedureType
-- ArrayType = ARRAY expression {"," expression} OF type
-- PointerType = POINTER TO type
-- ProcedureType = PROCEDURE [FormalParameters]
abbrev pub type_step : TypeForm-F Events Events Events Events → Events
type_step (layers.Named q) = construct constructs.NamedType (qualident_events q)
type_step (layers.ArrayOf lengths of) = construct constructs.ArrayType (word kinds.Array ++ (expr_list_events lengths.value ++ (word kinds.Of ++ of.value)))
type_step (layers.RecordOf r) = construct constructs.RecordType r
type_step (layers.PointerTo t) = construct constructs.PointerType (word kinds.Pointer ++ (word kinds.To ++ t.value))
type_step (layers.ProcOf p) = construct constructs.ProcedureType (word kinds.Procedure ++ if_present parameters_events p)

-- FieldList {";" FieldList} [";"]; the last semicolon is an extension of the report's grammar
abbrev pub fields_step : Fields-F Events Events Events Events → Events
fields_step f =
    construct constructs.FieldList f.first ++
    (each_after kinds.Semicolon (construct constructs.FieldList) f.rest.items ++ if_true f.closing_semicolon (word kinds.Semicolon))

-- RecordType = RECORD ["(" qualident ")"] [FieldList {";" FieldList} [";"]] END
abbrev pub record_step : Record-F Events Events Events Events → Events
record_step r =
    word kinds.Record ++ (if_present (λ q. word kinds.LeftParen ++ (qualident_events q ++ word kinds.RightParen)) r.base ++
    (if_present (λ f. f.value) r.fields ++ word kinds.End))

-- FieldList = IdentList ":" type; VariableDeclaration = IdentList ":" type
abbrev pub var_step : VarDecl-F Events Events Events Events → Events
var_step v = separated kinds.Comma identdef_events v.names ++ (word kinds.Colon ++ v.type_expr)

-- Each definition below gives the event sequence of a whole tree of one production, by folding the steps over the tree.
unfoldable pub type_events : TypeForm → Events
type_events = fold-TypeForm Events Events Events Events type_step fields_step record_step var_step

unfoldable pub fields_events : Fields → Events
fields_events = fold-Fields Events Events Events Events type_step fields_step record_step var_step

unfoldable pub record_events : Record → Events
record_events = fold-Record Events Events Events Events type_step fields_step record_step var_step

unfoldable pub var_events : VarDecl → Events
var_events = fold-VarDecl Events Events Events Events type_step fields_step record_step var_step
