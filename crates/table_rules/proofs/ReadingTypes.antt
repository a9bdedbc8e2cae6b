-- The entries of a type expression are determined by its event sequence.
use Rattle.std.proofs.Common.{◌≡◌, Bool, true, false, if◌then◌else◌, List, [], ◌∷◌, ◌++◌, map, Option, Some, None, refl, sym, ap, ap₂, ◌∙◌}
use Rattle.std.specs.declared.boxed.Box.{Box}
use Rattle.std.specs.declared.alloc.Global.{Global}
use Rattle.ob_scan.specs.declared.kind.Kind.TheVariants as kinds
use Rattle.ob_tree.specs.declared.name.Identdef.{Identdef}
use Rattle.ob_tree.specs.declared.name.Qualident.{Qualident}
use Rattle.ob_tree.specs.declared.declaration.TypeForm.TheOpen as layers
use Rattle.ob_tree.specs.declared.declaration.TypeForm.TheShapes as shapes
use Rattle.ob_tree.specs.declared.declaration.TypeForm.{TypeForm, roll-TypeForm, out-TypeForm, out-roll-TypeForm}
use Rattle.ob_tree.specs.declared.declaration.Fields.{Fields, roll-Fields, out-Fields, out-roll-Fields}
use Rattle.ob_tree.specs.declared.declaration.Record.{Record, roll-Record, out-Record, out-roll-Record}
use Rattle.ob_tree.specs.declared.declaration.VarDecl.{VarDecl, roll-VarDecl, out-VarDecl, out-roll-VarDecl}
use Rattle.ob_tree.specs.Constructs as constructs
use Rattle.ob_tree.specs.TreeEvents.{Events, Begins, Ends, Identifier, Value, Word, construct, word, if_present, if_true}
use Rattle.ob_tree.specs.Names.{qualident_events}
use Rattle.ob_tree.specs.Types.{type_events, fields_events, record_events, var_events}
use Rattle.ob_tree.specs.Leaves.{kind_eq}
use Rattle.ob_tree.proofs.TypeLayers.{type_shown, fields_shown, record_shown, var_shown, type_out, fields_out, record_out, var_out}
use Rattle.ob_tree.proofs.ExpressionInduction.{With}
use Rattle.ob_tree.proofs.TypeInduction.{TypePredicates, TypeSteps, FieldsLayer, RecordLayer, VarLayer, WithType, WithFields, WithRecord, WithVar, type_of, fields_of, record_of, var_of, type_induction, var_induction}
use Rattle.module_table.specs.declared.rows.DeclKind.TheVariants as decl_kinds
use Rattle.module_table.specs.Parts.{Fragment, token, both, with_rows, within, declaring}
use Rattle.module_table.specs.Parts.{if_present as there, if_true as so}
use Rattle.table_rules.specs.Expressions.{each_after}
use Rattle.table_rules.specs.Statements.{qualident_rows}
use Rattle.table_rules.specs.Types.{in_record, record_row, identdef_rows, type_rows, fields_rows, record_rows, var_rows}
use Rattle.table_rules.proofs.TypeLayers as told
use Rattle.table_rules.proofs.Reading.{Reads, never, on_word, on_construct, on_list, maybe, r-until, r-both, r-past, r-then, r-held, r-at, r-layer, r-none, r-some}
use Rattle.table_rules.proofs.ReadingLists.{r-there, r-map, r-so, each_told, there_told}
use Rattle.table_rules.proofs.ReadingNames.{itself, on_words, not_the_first, none_behind, r-qualident}
use Rattle.table_rules.proofs.ReadingParameters.{r-separated, r-identdef}
use Rattle.table_rules.proofs.ReadingTypeForms.{r-lengths, named_same, array_same, record_same, pointer_same, procedure_same}

-- each part can be read

abbrev predicates : TypePredicates
predicates = record {
  type = λ x. Reads type_rows type_events never (type_rows x) (type_events x);
  fields = λ x. Reads fields_rows fields_events (on_list kinds.Semicolon) (fields_rows x) (fields_events x);
  record_type = λ x. Reads record_rows record_events never (record_rows x) (record_events x);
  var = λ x. Reads var_rows var_events never (var_rows x) (var_events x);
}

-- ---- types

type_held : (y : WithType predicates) → Reads told.type_shown type_shown never (told.type_shown (type_of predicates y)) (type_shown (type_of predicates y))
type_held (layers.Named q) = record { same = λ z r s i j e. named_same q z r s e }
type_held (layers.ArrayOf l t) = record { same = λ z r s i j e. array_same _ _ _ _ (r-lengths l.value) t.value.1 z r s e }
type_held (layers.RecordOf x) = record { same = λ z r s i j e. record_same x.0 x.1 z r s e }
type_held (layers.PointerTo t) = record { same = λ z r s i j e. pointer_same _ _ t.value.1 z r s e }
type_held (layers.ProcOf o) = record { same = λ z r s i j e. procedure_same o z r s e }

type_layer : (y : WithType predicates) → predicates.type (roll-TypeForm (type_of predicates y))
type_layer y = r-layer out-TypeForm told.type_shown type_shown (λ a. a) told.type_told type_out _ _ (out-roll-TypeForm (type_of predicates y)) (type_held y)

-- ---- fields

-- a semicolon before one more list of fields
abbrev on_further : Events → Bool
on_further [] = false
on_further (Begins c n ∷ ms) = false
on_further (Ends c ∷ ms) = false
on_further (Identifier r n ∷ ms) = false
on_further (Value l n ∷ ms) = false
on_further (Word w ∷ ms) = if kind_eq w kinds.Semicolon then on_construct ms else false

no_construct : (s : Events) → on_list kinds.Semicolon s ≡ false → on_construct s ≡ false
no_construct [] i = refl
no_construct (Begins c n ∷ ms) i = i
no_construct (Ends c ∷ ms) i = refl
no_construct (Identifier r n ∷ ms) i = refl
no_construct (Value l n ∷ ms) i = refl
no_construct (Word w ∷ ms) i = refl

not_so : (b c : Bool) → b ≡ false → (if b then c else false) ≡ false
not_so false c i = refl
not_so true c i = absurd cc

closing_ends : (b : Bool) (s : Events) → on_list kinds.Semicolon s ≡ false → on_further (if_true b (word kinds.Semicolon) ++ s) ≡ false
closing_ends true s i = no_construct s i
closing_ends false [] i = refl
closing_ends false (Begins c n ∷ ms) i = refl
closing_ends false (Ends c ∷ ms) i = refl
closing_ends false (Identifier r n ∷ ms) i = refl
closing_ends false (Value l n ∷ ms) i = refl
closing_ends false (Word w ∷ ms) i = not_so _ _ i

abbrev fields_parts : FieldsLayer → Fragment × (List Fragment × Bool)
fields_parts z = (var_rows z.first, (map var_rows z.rest.items, z.closing_semicolon))

abbrev fields_told : Fragment × (List Fragment × Bool) → Fragment
fields_told p = both (declaring decl_kinds.Field p.0) (both (each_after (declaring decl_kinds.Field) p.1.0) (so p.1.1 token))

fields_tells : (f : Fields) → fields_rows f ≡ fields_told (fields_parts (out-Fields f))
fields_tells f = told.fields_out f ∙
    ap (λ (o : Fragment). both (declaring decl_kinds.Field (var_rows (out-Fields f).first)) (both o (so (out-Fields f).closing_semicolon token))) (each_told var_rows (λ v. both token (declaring decl_kinds.Field v)) (out-Fields f).rest.items)

further_field : (v : VarDecl) (s : Events) → on_further ((word kinds.Semicolon ++ construct constructs.FieldList (var_events v)) ++ s) ≡ true
unfolding construct
further_field v s = refl

fields_held : (y : WithFields predicates) → Reads fields_parts fields_shown (on_list kinds.Semicolon) (fields_parts (fields_of predicates y)) (fields_shown (fields_of predicates y))
fields_held y = r-both (r-at (λ z. z.first) (r-held constructs.FieldList y.first.1 (λ s. refl)))
    (r-until (r-at (λ z. z.rest.items) (r-map var_rows (λ v. word kinds.Semicolon ++ construct constructs.FieldList (var_events v)) never on_further further_field (λ s i. refl) (λ v s. refl) _ y.rest.items (λ v. r-past kinds.Semicolon (r-held constructs.FieldList v.1 (λ s. refl)))))
    (λ s i. closing_ends y.closing_semicolon s i) (λ z s i. closing_ends z.closing_semicolon s i)
    (r-so kinds.Semicolon (on_list kinds.Semicolon) (λ s. refl) (λ z. z.closing_semicolon) y.closing_semicolon))

fields_layer : (y : WithFields predicates) → predicates.fields (roll-Fields (fields_of predicates y))
fields_layer y = r-layer out-Fields fields_parts fields_shown fields_told fields_tells fields_out _ _ (out-roll-Fields (fields_of predicates y)) (fields_held y)

-- ---- records

abbrev record_parts : RecordLayer → Option Qualident × Option Fragment
record_parts z = (maybe (λ q. q) z.base, maybe (λ f. fields_rows f.value) z.fields)

abbrev record_told : Option Qualident × Option Fragment → Fragment
record_told p = with_rows (record_row p.0) (within in_record (
    both token (both (there (λ q. both token (both (qualident_rows q) token)) p.0) (both (there (λ f. f) p.1) token))))

record_tells : (r : Record) → record_rows r ≡ record_told (record_parts (out-Record r))
record_tells r = told.record_out r ∙
    ap₂ (λ (b : Option Qualident) (f : Fragment). with_rows (record_row b) (within in_record (
    both token (both (there (λ q. both token (both (qualident_rows q) token)) b) (both f token)))))
    (sym (itself (out-Record r).base)) (there_told (λ (x : Box Fields Global). fields_rows x.value) (λ f. f) (out-Record r).fields)

r-base : (q : Qualident) → Reads {A = Qualident} (λ z. z) (λ z. word kinds.LeftParen ++ (qualident_events z ++ word kinds.RightParen)) never q (word kinds.LeftParen ++ (qualident_events q ++ word kinds.RightParen))
r-base q = r-past kinds.LeftParen (r-then kinds.RightParen (r-qualident q) (λ s. refl))

fields_begin : (f : Fields) (s : Events) → on_list kinds.Semicolon (fields_events f ++ s) ≡ true
unfolding construct
fields_begin f s = ap (λ (o : Events). on_list kinds.Semicolon (o ++ s)) (fields_out f)

after_base : (o : Option (Box Fields Global)) (s : Events) → on_word kinds.LeftParen ((if_present (λ f. fields_events f.value) o ++ word kinds.End) ++ s) ≡ false
unfolding construct
after_base None s = refl
after_base (Some f) s = ap (λ (o : Events). on_word kinds.LeftParen ((o ++ word kinds.End) ++ s)) (fields_out f.value)

abbrev fields_at : Option (Box (With predicates.fields) Global) → Option (Box Fields Global)
fields_at = (shapes.former-Record-fields).map (With predicates.fields) Fields (λ e. e.0)

r-fields : (o : Option (Box (With predicates.fields) Global)) →
    Reads {Z = RecordLayer} (λ z. maybe (λ f. fields_rows f.value) z.fields) (λ z. if_present (λ f. fields_events f.value) z.fields) (on_list kinds.Semicolon) (maybe (λ f. fields_rows f.value) (fields_at o)) (if_present (λ f. fields_events f.value) (fields_at o))
r-fields None = r-none (λ f. fields_rows f.value) (λ f. fields_events f.value) (on_list kinds.Semicolon) (λ f s. fields_begin f.value s) (λ z. z.fields)
r-fields (Some f) = r-some (r-at (λ b. b.value) f.value.1) (λ s i. i) (λ s. fields_begin f.value.0 s) (λ z. z.fields)

record_held : (y : WithRecord predicates) → Reads record_parts record_shown never (record_parts (record_of predicates y)) (record_shown (record_of predicates y))
record_held y = r-past kinds.Record (r-until (r-there (on_word kinds.LeftParen) (λ z. z.base) y.base r-base (λ s i. refl) (λ q s. refl)) (λ s i. after_base (fields_at y.fields) s) (λ z s i. after_base z.fields s)
    (r-then kinds.End (r-fields y.fields) (λ s. refl)))

record_layer : (y : WithRecord predicates) → predicates.record_type (roll-Record (record_of predicates y))
record_layer y = r-layer out-Record record_parts record_shown record_told record_tells record_out _ _ (out-roll-Record (record_of predicates y)) (record_held y)

-- ---- names of one type

abbrev var_parts : VarLayer → (Identdef × List Identdef) × Fragment
var_parts z = ((z.names.first, map (λ i. i) z.names.rest.items), type_rows z.type_expr)

abbrev var_told : (Identdef × List Identdef) × Fragment → Fragment
var_told p = both (identdef_rows p.0.0) (both (each_after identdef_rows p.0.1) (both token p.1))

var_tells : (v : VarDecl) → var_rows v ≡ var_told (var_parts (out-VarDecl v))
var_tells v = told.var_out v ∙
    ap (λ (o : Fragment). both (identdef_rows (out-VarDecl v).names.first) (both o (both token (type_rows (out-VarDecl v).type_expr)))) (each_told (λ (i : Identdef). i) (λ i. both token (identdef_rows i)) (out-VarDecl v).names.rest.items)

star_ends : (s : Events) → on_words (kinds.Comma ∷ kinds.Star ∷ []) s ≡ false → on_word kinds.Star s ≡ false
star_ends s i = not_the_first kinds.Star [] s (none_behind kinds.Comma (kinds.Star ∷ []) s i)

var_held : (y : WithVar predicates) → Reads var_parts var_shown never (var_parts (var_of predicates y)) (var_shown (var_of predicates y))
var_held y = r-until (r-at (λ z. z.names) (r-separated kinds.Comma (on_words (kinds.Comma ∷ kinds.Star ∷ [])) r-identdef (λ s. refl) (λ s. refl) star_ends y.names)) (λ s i. refl) (λ z s i. refl) (r-past kinds.Colon (r-at (λ z. z.type_expr) y.type_expr.1))

var_layer : (y : WithVar predicates) → predicates.var (roll-VarDecl (var_of predicates y))
var_layer y = r-layer out-VarDecl var_parts var_shown var_told var_tells var_out _ _ (out-roll-VarDecl (var_of predicates y)) (var_held y)

-- ---- every tree can be read

steps : TypeSteps predicates
steps = record {
  type = type_layer;
  fields = fields_layer;
  record_type = record_layer;
  var = var_layer;
}

pub r-type : (x : TypeForm) → Reads type_rows type_events never (type_rows x) (type_events x)
r-type = type_induction predicates steps

pub r-var : (x : VarDecl) → Reads var_rows var_events never (var_rows x) (var_events x)
r-var = var_induction predicates steps
