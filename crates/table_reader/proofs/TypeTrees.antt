-- Types from their tabulated parts: their event sequences and their entries.
use Rattle.std.proofs.Common.{◌≡◌, ℕ, zero, suc, ◌-◌, Bool, List, [], ◌++◌, length, Option, Ok, Some, refl, sym, ap, ◌∙◌, arith}
use Rattle.std.specs.Prelude.{Result}
use Rattle.std.specs.Global.{Box, Vec}
use Rattle.ob_scan.specs.declared.kind.Kind.TheVariants as kinds
use Rattle.ob_scan.specs.declared.token.Token.{Token}
use Rattle.ob_tree.specs.declared.token.Leaf.{Leaf}
use Rattle.ob_tree.specs.declared.name.Identdef.{Identdef}
use Rattle.ob_tree.specs.declared.name.OneOrMore.{OneOrMore}
use Rattle.ob_tree.specs.declared.name.Qualident.{Qualident}
use Rattle.ob_tree.specs.declared.expression.Expr.{Expr}
use Rattle.ob_tree.specs.declared.expression.ExprList.{ExprList, roll-ExprList, out-roll-ExprList}
use Rattle.ob_tree.specs.declared.declaration.Parameters.{Parameters}
use Rattle.ob_tree.specs.declared.declaration.TypeForm.{TypeForm}
use Rattle.ob_tree.specs.declared.declaration.TypeForm.TheVariants as forms
use Rattle.ob_tree.specs.declared.declaration.Fields.{Fields, roll-Fields, out-roll-Fields}
use Rattle.ob_tree.specs.declared.declaration.Record.{Record, roll-Record, out-roll-Record}
use Rattle.ob_tree.specs.declared.declaration.VarDecl.{VarDecl, roll-VarDecl, out-roll-VarDecl}
use Rattle.ob_tree.specs.Constructs as constructs
use Rattle.ob_tree.specs.TreeEvents.{Events, construct, word, separated}
use Rattle.ob_tree.specs.Names.{qualident_events, identdef_events}
use Rattle.ob_tree.specs.Expressions.{expr_events, expr_list_events}
use Rattle.ob_tree.specs.Types.{type_events, fields_events, var_events}
use Rattle.ob_tree.proofs.ExpressionLayers.{expr_list_made}
use Rattle.ob_tree.proofs.TypeLayers as events
use Rattle.module_table.specs.declared.rows.DeclGroup.{DeclGroup}
use Rattle.module_table.specs.declared.rows.DeclKind.TheVariants as decl_kinds
use Rattle.module_table.specs.declared.rows.Part.{Part}
use Rattle.module_table.specs.declared.rows.Part.TheVariants as parts
use Rattle.module_table.specs.declared.builder.Context.{Context}
use Rattle.module_table.specs.declared.builder.TableBuilder.{TableBuilder}
use Rattle.module_table.specs.TableStages.{Stage, stage_of, added, after, closed, advanced, PerformsStep}
use Rattle.module_table.specs.Parts.{Fragment, Rows, token, both, with_rows, opens_block, in_block, one_block, decl_group, declaring_at, one_decl_group}
use Rattle.table_rules.specs.Expressions.{each_after, expr_rows}
use Rattle.table_rules.specs.Types.{part_row, record_row, in_record, in_pointer, in_array, identdef_rows, type_name_rows, lengths_rows, type_rows, fields_rows, record_rows, var_rows}
use Rattle.module_table.proofs.Steps.{added_number, number_of, after_both, after_token, after_tells, after_within}
use Rattle.table_rules.proofs.TypeLayers as effect
use Rattle.ob_grammar.specs.declared.cursor.Cursor.{Cursor}
use Rattle.ob_grammar.specs.declared.stop.Stop.{Stop}
use Rattle.ob_grammar.specs.Lookahead.{uncons}
use Rattle.ob_grammar.specs.Combinators.{Read, Reader, accept_at, expect_at, many, node, nothing, optional, prefixed, seq, several, unless}
use Rattle.ob_grammar.specs.ParsesAs.{Fails, remaining}
use Rattle.ob_grammar.specs.ReadExpressions.{expr_at}
use Rattle.ob_grammar.specs.ReadNames.{qualident_at, identdef_at}
use Rattle.ob_grammar.specs.ReadTypes.{field_start, fields_with, record_with, optional_parameters_at, type_at, type_from, type_with, var_with}
use Rattle.table_reader.specs.TypeShapes.{base_events, base_rows, type_after_token_events, type_after_token_rows, closed_events, ended_events, ended_rows, field_events, field_rows, more_lengths_rows, more_events, length_rows, list_rows, record_stage, optional_fields_events, optional_fields_rows, optional_parameters_events, optional_parameters_rows}
use Rattle.table_reader.specs.Tabulating.{AppendsEntries, AppendsEntriesBy}
use Rattle.table_reader.proofs.Made.{boxed}
use Rattle.table_reader.proofs.Combine.{told_at, told_as, told_node, told_then, told_prefixed, told_behind, told_walked, failed_node, failed_prefixed, failed_then}
use Rattle.table_reader.proofs.Lists.{word_after}
use Rattle.table_reader.proofs.Following.{pair_told, there_told, declaring_told, regrouped}

-- ---- FieldList = IdentList ":" type; VariableDeclaration = IdentList ":" type

abbrev var_of : OneOrMore Identdef × TypeForm → VarDecl
var_of x = roll-VarDecl (record { names = x.0; type_expr = x.1 })

var_after : (x : OneOrMore Identdef × TypeForm) (c : Context) (s : Stage) → after (var_rows (var_of x)) c s ≡ after (both (list_rows identdef_rows x.0) (type_after_token_rows x.1)) c s
var_after x c s =
    ap (λ (p : Fragment). after p c s) (effect.var_out (var_of x) ∙ ap (λ y. both (identdef_rows y.names.first) (both (each_after identdef_rows y.names.rest.items) (type_after_token_rows y.type_expr))) (out-roll-VarDecl (record { names = x.0; type_expr = x.1 })))
    ∙ sym (regrouped _ _ (type_after_token_rows x.1) c s)

pub var_told : (ts : List Token) (c : Context) (d : ℕ) (old mid new : TableBuilder) (input here : Cursor) (result : Result Cursor Stop) →
    AppendsEntries ts (separated kinds.Comma identdef_events) (list_rows identdef_rows) c old mid (Ok here) (several kinds.Comma identdef_at (remaining ts input)) →
    AppendsEntries ts (type_after_token_events kinds.Colon) type_after_token_rows c mid new result (seq (expect_at kinds.Colon) (type_at d) (remaining ts here)) →
    AppendsEntries ts var_events var_rows c old new result (var_with (type_at d) (remaining ts input))
unfolding var_with
var_told ts c d old mid new input here result a b =
    told_as ts (λ (x : OneOrMore Identdef × TypeForm). separated kinds.Comma identdef_events x.0 ++ type_after_token_events kinds.Colon x.1) (λ x. after (both (list_rows identdef_rows x.0) (type_after_token_rows x.1)) c)
    var_events (λ v. after (var_rows v) c) var_of (λ x. events.var_made x.0 x.1) (λ x s. var_after x c s) old new result _
    (pair_told ts c (separated kinds.Comma identdef_events) (list_rows identdef_rows) (type_after_token_events kinds.Colon) type_after_token_rows (several kinds.Comma identdef_at) (seq (expect_at kinds.Colon) (type_at d)) old mid new input here result a b)

pub var_failed : (ts : List Token) (d : ℕ) (e : Stop) (ls : List Leaf) → Fails ts e (several kinds.Comma identdef_at ls) → Fails ts e (var_with (type_at d) ls)
unfolding var_with
var_failed ts d e ls h = failed_then ts (several kinds.Comma identdef_at) (seq (expect_at kinds.Colon) (type_at d)) e ls h

pub field_told : (ts : List Token) (c around : Context) (d : ℕ) (row : DeclGroup) (at : ℕ) (old opened last new : TableBuilder) (input here : Cursor) →
    row ≡ decl_group decl_kinds.Field c old.number 0 → at ≡ length old.decl_groups.items → around ≡ declaring_at c old.number → PerformsStep (added (one_decl_group row)) old opened →
    AppendsEntries ts var_events var_rows around opened last (Ok here) (var_with (type_at d) (remaining ts input)) →
    PerformsStep (closed at row) last new → AppendsEntries ts field_events field_rows c old new (Ok here) (node constructs.FieldList (var_with (type_at d)) (remaining ts input))
field_told ts c around d row at old opened last new input here n e g a t b =
    told_node ts var_events (λ v. after (field_rows v) c) constructs.FieldList (var_with (type_at d)) old new (Ok here) (remaining ts input)
    (declaring_told ts decl_kinds.Field c var_events var_rows row around at old opened last new here _ n e g a t b)

-- ---- FieldList {";" FieldList} [";"]

abbrev pub field_at : ℕ → Reader
field_at d = node constructs.FieldList (var_with (type_at d))

abbrev fields_of : VarDecl × (Vec VarDecl × Bool) → Fields
fields_of x = roll-Fields (record { first = x.0; rest = x.1.0; closing_semicolon = x.1.1 })

fields_parts : (x : VarDecl × (Vec VarDecl × Bool)) → fields_rows (fields_of x) ≡ both (field_rows x.0) (ended_rows x.1)
fields_parts x = effect.fields_out (fields_of x) ∙ ap (λ y. both (field_rows y.first) (ended_rows (y.rest, y.closing_semicolon))) (out-roll-Fields (record { first = x.0; rest = x.1.0; closing_semicolon = x.1.1 }))

pub fields_told : (ts : List Token) (c : Context) (d : ℕ) (old mid new : TableBuilder) (input here : Cursor) (result : Result Cursor Stop) →
    AppendsEntries ts field_events field_rows c old mid (Ok here) (field_at d (remaining ts input)) →
    AppendsEntries ts ended_events ended_rows c mid new result (seq (many field_start (field_at d)) (optional (accept_at kinds.Semicolon) nothing) (remaining ts here)) →
    AppendsEntries ts fields_events fields_rows c old new result (fields_with (type_at d) (remaining ts input))
unfolding fields_with
fields_told ts c d old mid new input here result a b =
    told_as ts (λ (x : VarDecl × (Vec VarDecl × Bool)). field_events x.0 ++ ended_events x.1) (λ x. after (both (field_rows x.0) (ended_rows x.1)) c)
    fields_events (λ f. after (fields_rows f) c) fields_of (λ x. events.fields_made x.0 x.1.0 x.1.1) (λ x s. ap (λ (p : Fragment). after p c s) (fields_parts x)) old new result _
    (pair_told ts c field_events field_rows ended_events ended_rows (field_at d) (seq (many field_start (field_at d)) (optional (accept_at kinds.Semicolon) nothing)) old mid new input here result a b)

pub fields_failed : (ts : List Token) (d : ℕ) (e : Stop) (ls : List Leaf) → Fails ts e (field_at d ls) → Fails ts e (fields_with (type_at d) ls)
unfolding fields_with
fields_failed ts d e ls h = failed_then ts (field_at d) (seq (many field_start (field_at d)) (optional (accept_at kinds.Semicolon) nothing)) e ls h

-- the field lists of a record, if there are any

abbrev pub boxed_outline : Box Fields → Events
boxed_outline f = fields_events f.value

abbrev pub boxed_piece : Box Fields → Fragment
boxed_piece f = fields_rows f.value

pub some_fields_told : (ts : List Token) (c : Context) (d : ℕ) (old new : TableBuilder) (input : Cursor) (result : Result Cursor Stop) →
    unless kinds.End (remaining ts input) ≡ Some ([], remaining ts input) → AppendsEntries ts fields_events fields_rows c old new result (fields_with (type_at d) (remaining ts input)) →
    AppendsEntries ts optional_fields_events optional_fields_rows c old new result (optional (unless kinds.End) (fields_with (type_at d)) (remaining ts input))
some_fields_told ts c d old new input result found t =
    there_told ts c boxed_outline boxed_piece (unless kinds.End) (fields_with (type_at d)) old new input result found
    (told_as ts fields_events (λ f. after (fields_rows f) c) boxed_outline (λ f. after (boxed_piece f) c) (λ f. boxed old.uses.alloc f) (λ f. refl) (λ f s. refl) old new result _ t)

-- ---- RECORD ["(" qualident ")"] [FieldList {";" FieldList} [";"]] END

abbrev parts_at : ℕ → Reader
parts_at d = seq (optional (unless kinds.End) (fields_with (type_at d))) (expect_at kinds.End)

abbrev base_at : Reader
base_at = optional (accept_at kinds.LeftParen) (seq qualident_at (expect_at kinds.RightParen))

pub parts_told : (ts : List Token) (c around : Context) (base : Option Qualident) (d : ℕ) (old row following context last new : TableBuilder) (input here : Cursor) (result : Result Cursor Stop) →
    around ≡ in_record c old.number → PerformsStep (λ s. added (record_row base c s.number) s) old row → PerformsStep advanced row following → PerformsStep (after (base_rows base) around) following context →
    AppendsEntries ts optional_fields_events optional_fields_rows around context last (Ok here) (optional (unless kinds.End) (fields_with (type_at d)) (remaining ts input)) →
    AppendsEntriesBy ts (λ (_ : Unit {0}). word kinds.End) (λ x s. advanced s) last new result (expect_at kinds.End (remaining ts here)) →
    AppendsEntriesBy ts closed_events (record_stage base c) old new result (parts_at d (remaining ts input))
parts_told ts c around base d old row following context last new input here result e a b h t u =
    let f : Option (Box Fields) × Unit {0} → Events = λ x. optional_fields_events x.0 ++ word kinds.End in
    told_at ts f (λ x s. advanced (after (optional_fields_rows x.0) around (after (base_rows base) around (advanced (added (record_row base c s.number) s)))))
    closed_events (record_stage base c) (λ x. x.0) (λ x. refl) old new result _
    (λ x. ap (λ (k : Context). advanced (after (optional_fields_rows x.0) k (after (base_rows base) k (advanced (added (record_row base c (stage_of old).number) (stage_of old)))))) (ap (in_record c) (number_of old) ∙ sym e))
    (told_behind ts f (λ x s. advanced (after (optional_fields_rows x.0) around (after (base_rows base) around (advanced s)))) (λ s. added (record_row base c s.number) s) old row new result _ a
    (told_behind ts f (λ x s. advanced (after (optional_fields_rows x.0) around (after (base_rows base) around s))) advanced row following new result _ b
    (told_behind ts f (λ x s. advanced (after (optional_fields_rows x.0) around s)) (after (base_rows base) around) following context new result _ h
    (told_then ts optional_fields_events (λ x. after (optional_fields_rows x) around) (λ (_ : Unit {0}). word kinds.End) (λ x s. advanced s) (optional (unless kinds.End) (fields_with (type_at d))) (expect_at kinds.End) context last new here result (remaining ts input) t u))))

abbrev record_of : Option Qualident → Option (Box Fields) → Record
record_of base f = roll-Record (record { base = base; fields = f })

record_after : (base : Option Qualident) (f : Option (Box Fields)) (c : Context) (s : Stage) → after (type_rows (forms.RecordOf (record_of base f))) c s ≡ record_stage base c f (added (part_row parts.Record c s.number) s)
record_after base f c s =
    let t : Stage = added (part_row parts.Record c s.number) s in
    ap (λ (p : Fragment). after p c s) (effect.record_of_made (record_of base f))
    ∙ after_tells (part_row parts.Record) (record_rows (record_of base f)) c s
    ∙ effect.record_after (record_of base f) c t
    ∙ ap (λ y. record_stage y.base c y.fields t) (out-roll-Record (record { base = base; fields = f }))

pub record_told : (ts : List Token) (c : Context) (base : Option Qualident) (d : ℕ) (old mid new : TableBuilder) (input here : Cursor) (result : Result Cursor Stop) →
    base_at (remaining ts input) ≡ Ok (base_events base, remaining ts here) → PerformsStep (λ s. added (part_row parts.Record c s.number) s) old mid →
    AppendsEntriesBy ts closed_events (record_stage base c) mid new result (parts_at d (remaining ts here)) →
    AppendsEntries ts type_events type_rows c old new result (node constructs.RecordType (prefixed (word kinds.Record) (record_with (type_at d))) (remaining ts input))
unfolding record_with
record_told ts c base d old mid new input here result e a t =
    let f : Unit {0} × Option (Box Fields) → Events = λ x. base_events base ++ closed_events x.1 in
    let p : Unit {0} × Option (Box Fields) → Stage → Stage = λ x s. record_stage base c x.1 (added (part_row parts.Record c s.number) s) in
    told_as ts (λ x. construct constructs.RecordType (word kinds.Record ++ f x)) p type_events (λ x. after (type_rows x) c) (λ x. forms.RecordOf (record_of base x.1))
    (λ x. events.record_of_made (record_of base x.1) ∙ ap (construct constructs.RecordType) (events.record_made base x.1)) (λ x s. record_after base x.1 c s) old new result _
    (told_node ts (λ x. word kinds.Record ++ f x) p constructs.RecordType (prefixed (word kinds.Record) (seq base_at (parts_at d))) old new result (remaining ts input)
    (told_prefixed ts f p (word kinds.Record) (seq base_at (parts_at d)) old new result (remaining ts input)
    (told_then ts (λ (_ : Unit {0}). base_events base) (λ x s. added (part_row parts.Record c s.number) s) closed_events (record_stage base c) base_at (parts_at d) old mid new here result (remaining ts input)
    (told_walked ts (λ (_ : Unit {0}). base_events base) (λ x s. added (part_row parts.Record c s.number) s) tt old mid here (base_at (remaining ts input)) e a) t)))

pub record_failed : (ts : List Token) (d : ℕ) (e : Stop) (ls : List Leaf) → Fails ts e (base_at ls) →
    Fails ts e (node constructs.RecordType (prefixed (word kinds.Record) (record_with (type_at d))) ls)
unfolding record_with
record_failed ts d e ls h =
    failed_node ts constructs.RecordType (prefixed (word kinds.Record) (seq base_at (parts_at d))) e ls (failed_prefixed ts (word kinds.Record) (seq base_at (parts_at d)) e ls (failed_then ts base_at (parts_at d) e ls h))

-- ---- ARRAY expression {"," expression} OF type

abbrev lengths_of : Expr × Vec Expr → ExprList
lengths_of x = roll-ExprList (record { first = x.0; rest = x.1 })

lengths_parts : (x : Expr × Vec Expr) → lengths_rows (lengths_of x) ≡ both (expr_rows x.0) (more_lengths_rows x.1)
lengths_parts x = effect.lengths_out (lengths_of x) ∙ ap (λ y. both (expr_rows y.first) (more_lengths_rows y.rest)) (out-roll-ExprList (record { first = x.0; rest = x.1 }))

pub lengths_told : (ts : List Token) (c : Context) (d : ℕ) (old mid new : TableBuilder) (input here : Cursor) (result : Result Cursor Stop) →
    AppendsEntries ts expr_events expr_rows c old mid (Ok here) (expr_at d (remaining ts input)) →
    AppendsEntries ts (more_events kinds.Comma expr_events) more_lengths_rows c mid new result (many (accept_at kinds.Comma) (expr_at d) (remaining ts here)) →
    AppendsEntries ts expr_list_events lengths_rows c old new result (several kinds.Comma (expr_at d) (remaining ts input))
unfolding several
lengths_told ts c d old mid new input here result a b =
    told_as ts (λ (x : Expr × Vec Expr). expr_events x.0 ++ more_events kinds.Comma expr_events x.1) (λ x. after (both (expr_rows x.0) (more_lengths_rows x.1)) c)
    expr_list_events (λ l. after (lengths_rows l) c) lengths_of (λ x. expr_list_made (record { first = x.0; rest = x.1 })) (λ x s. ap (λ (p : Fragment). after p c s) (lengths_parts x)) old new result _
    (pair_told ts c expr_events expr_rows (more_events kinds.Comma expr_events) more_lengths_rows (expr_at d) (many (accept_at kinds.Comma) (expr_at d)) old mid new input here result a b)

-- a length after a comma
pub length_after : (e : Expr) (c : Context) (s : Stage) → after (length_rows e) c s ≡ after (expr_rows e) c (advanced (added (part_row parts.Array c s.number) s))
length_after e c s =
    after_both (with_rows (part_row parts.Array) token) (expr_rows e) c s
    ∙ ap (after (expr_rows e) c) (after_tells (part_row parts.Array) token c s ∙ after_token c (added (part_row parts.Array c s.number) s))

-- after an entry of a type's component at a token, by which the builder advances
pub told_part : {A : Type 0} (ts : List Token) (c : Context) (part : Part) (f : A → Events) (p : A → Stage → Stage) (old mid following new : TableBuilder) (result : Result Cursor Stop) (read : Read) →
    PerformsStep (λ s. added (part_row part c s.number) s) old mid → PerformsStep advanced mid following → AppendsEntriesBy ts f p following new result read →
    AppendsEntriesBy ts f (λ x s. p x (advanced (added (part_row part c s.number) s))) old new result read
told_part ts c part f p old mid following new result read a b t =
    told_behind ts f (λ x s. p x (advanced s)) (λ s. added (part_row part c s.number) s) old mid new result read a (told_behind ts f p advanced mid following new result read b t)

array_after : (l : Box ExprList) (t : Box TypeForm) (c : Context) (s : Stage) → after (type_rows (forms.ArrayOf l t)) c s
    ≡ after (type_after_token_rows t.value) (in_array c s.number) (after (lengths_rows l.value) c (advanced (added (part_row parts.Array c s.number) s)))
array_after l t c s =
    let z : Stage = advanced (added (part_row parts.Array c s.number) s) in
    let y : Stage = after (lengths_rows l.value) c z in
    ap (λ (p : Fragment). after p c s) (effect.array_made l t)
    ∙ after_tells (part_row parts.Array) _ c s ∙ word_after _ c (added (part_row parts.Array c s.number) s)
    ∙ after_both (lengths_rows l.value) _ c z ∙ word_after _ c y ∙ after_within in_array (type_rows t.value) c (advanced y) ∙ sym (word_after (type_rows t.value) (in_array c s.number) y)

pub array_told : (ts : List Token) (c around : Context) (d : ℕ) (old mid following last new : TableBuilder) (input here : Cursor) (result : Result Cursor Stop) →
    around ≡ in_array c zero → PerformsStep (λ s. added (part_row parts.Array c s.number) s) old mid → PerformsStep advanced mid following →
    AppendsEntries ts expr_list_events lengths_rows c following last (Ok here) (several kinds.Comma (expr_at d) (remaining ts input)) →
    AppendsEntries ts (type_after_token_events kinds.Of) type_after_token_rows around last new result (seq (expect_at kinds.Of) (type_at d) (remaining ts here)) →
    AppendsEntries ts type_events type_rows c old new result
    (node constructs.ArrayType (prefixed (word kinds.Array) (seq (several kinds.Comma (expr_at d)) (seq (expect_at kinds.Of) (type_at d)))) (remaining ts input))
array_told ts c around d old mid following last new input here result e a b t u =
    let f : ExprList × TypeForm → Events = λ x. expr_list_events x.0 ++ type_after_token_events kinds.Of x.1 in
    let q : ExprList × TypeForm → Stage → Stage = λ x s. after (type_after_token_rows x.1) around (after (lengths_rows x.0) c s) in
    let p : ExprList × TypeForm → Stage → Stage = λ x s. q x (advanced (added (part_row parts.Array c s.number) s)) in
    let r : Reader = seq (several kinds.Comma (expr_at d)) (seq (expect_at kinds.Of) (type_at d)) in
    told_as ts (λ x. construct constructs.ArrayType (word kinds.Array ++ f x)) p type_events (λ x. after (type_rows x) c)
    (λ x. forms.ArrayOf (boxed old.uses.alloc x.0) (boxed old.uses.alloc x.1)) (λ x. events.array_made (boxed old.uses.alloc x.0) (boxed old.uses.alloc x.1))
    (λ x s. array_after (boxed old.uses.alloc x.0) (boxed old.uses.alloc x.1) c s ∙ ap (λ (k : Context). after (type_after_token_rows x.1) k (after (lengths_rows x.0) c (advanced (added (part_row parts.Array c s.number) s)))) (sym e)) old new result _
    (told_node ts (λ x. word kinds.Array ++ f x) p constructs.ArrayType (prefixed (word kinds.Array) r) old new result (remaining ts input)
    (told_prefixed ts f p (word kinds.Array) r old new result (remaining ts input)
    (told_part ts c parts.Array f q old mid following new result (r (remaining ts input)) a b
    (told_then ts expr_list_events (λ l. after (lengths_rows l) c) (type_after_token_events kinds.Of) (λ x. after (type_after_token_rows x) around) (several kinds.Comma (expr_at d)) (seq (expect_at kinds.Of) (type_at d)) following last new here result (remaining ts input) t u))))

-- ---- POINTER TO type

pointer_after : (t : Box TypeForm) (c : Context) (s : Stage) → after (type_rows (forms.PointerTo t)) c s
    ≡ after (type_after_token_rows t.value) (in_pointer c s.number) (advanced (added (part_row parts.Pointer c s.number) s))
pointer_after t c s =
    let z : Stage = advanced (added (part_row parts.Pointer c s.number) s) in
    ap (λ (p : Fragment). after p c s) (effect.pointer_made t)
    ∙ after_tells (part_row parts.Pointer) _ c s ∙ word_after _ c (added (part_row parts.Pointer c s.number) s)
    ∙ word_after _ c z ∙ after_within in_pointer (type_rows t.value) c (advanced z) ∙ sym (word_after (type_rows t.value) (in_pointer c s.number) z)

pub pointer_told : (ts : List Token) (c around : Context) (d : ℕ) (old mid following new : TableBuilder) (input : Cursor) (result : Result Cursor Stop) →
    around ≡ in_pointer c zero → PerformsStep (λ s. added (part_row parts.Pointer c s.number) s) old mid → PerformsStep advanced mid following →
    AppendsEntries ts (type_after_token_events kinds.To) type_after_token_rows around following new result (seq (expect_at kinds.To) (type_at d) (remaining ts input)) →
    AppendsEntries ts type_events type_rows c old new result (node constructs.PointerType (prefixed (word kinds.Pointer) (seq (expect_at kinds.To) (type_at d))) (remaining ts input))
pointer_told ts c around d old mid following new input result e a b t =
    let p : TypeForm → Stage → Stage = λ x s. after (type_after_token_rows x) around (advanced (added (part_row parts.Pointer c s.number) s)) in
    let r : Reader = seq (expect_at kinds.To) (type_at d) in
    told_as ts (λ x. construct constructs.PointerType (word kinds.Pointer ++ type_after_token_events kinds.To x)) p type_events (λ x. after (type_rows x) c)
    (λ x. forms.PointerTo (boxed old.uses.alloc x)) (λ x. events.pointer_made (boxed old.uses.alloc x))
    (λ x s. pointer_after (boxed old.uses.alloc x) c s ∙ ap (λ (k : Context). after (type_after_token_rows x) k (advanced (added (part_row parts.Pointer c s.number) s))) (sym e)) old new result _
    (told_node ts (λ x. word kinds.Pointer ++ type_after_token_events kinds.To x) p constructs.PointerType (prefixed (word kinds.Pointer) r) old new result (remaining ts input)
    (told_prefixed ts (type_after_token_events kinds.To) p (word kinds.Pointer) r old new result (remaining ts input)
    (told_part ts c parts.Pointer (type_after_token_events kinds.To) (λ x. after (type_after_token_rows x) around) old mid following new result (r (remaining ts input)) a b t)))

-- ---- PROCEDURE [FormalParameters]

abbrev block_rows : Context → ℕ → Rows
block_rows c k = one_block (record { first = k; outer = c.block })

procedure_after : (o : Option Parameters) (c : Context) (s : Stage) → after (opens_block (both token (optional_parameters_rows o))) c s
    ≡ after (optional_parameters_rows o) (in_block c s.number) (advanced (added (block_rows c s.number) s))
procedure_after o c s =
    let z : Stage = added (block_rows c s.number) s in
    after_tells block_rows _ c s ∙ after_within in_block _ c z
    ∙ ap (λ (n : ℕ). after (both token (optional_parameters_rows o)) (in_block c n) z) (added_number (block_rows c s.number) s)
    ∙ word_after (optional_parameters_rows o) (in_block c s.number) z

block_told : (ts : List Token) (c around : Context) (old mid following new : TableBuilder) (result : Result Cursor Stop) (read : Read) →
    around ≡ in_block c old.number → PerformsStep (added (block_rows c old.number)) old mid → PerformsStep advanced mid following →
    AppendsEntries ts optional_parameters_events optional_parameters_rows around following new result read →
    AppendsEntries ts optional_parameters_events (λ o. opens_block (both token (optional_parameters_rows o))) c old new result read
block_told ts c around old mid following new result read e a b t =
    told_at ts optional_parameters_events (λ o s. after (optional_parameters_rows o) around (advanced (added (block_rows c old.number) s)))
    optional_parameters_events (λ o. after (opens_block (both token (optional_parameters_rows o))) c) (λ o. o) (λ o. refl) old new result read
    (λ o. procedure_after o c (stage_of old) ∙ ap (λ (n : ℕ). after (optional_parameters_rows o) (in_block c n) (advanced (added (block_rows c n) (stage_of old)))) (number_of old)
    ∙ ap (λ (k : Context). after (optional_parameters_rows o) k (advanced (added (block_rows c old.number) (stage_of old)))) (sym e))
    (told_behind ts optional_parameters_events (λ o s. after (optional_parameters_rows o) around (advanced s)) (added (block_rows c old.number)) old mid new result read a
    (told_behind ts optional_parameters_events (λ o. after (optional_parameters_rows o) around) advanced mid following new result read b t))

pub procedure_told : (ts : List Token) (c around : Context) (old part block following new : TableBuilder) (input : Cursor) (result : Result Cursor Stop) →
    around ≡ in_block c part.number → PerformsStep (λ s. added (part_row parts.Procedure c s.number) s) old part → PerformsStep (added (block_rows c part.number)) part block → PerformsStep advanced block following →
    AppendsEntries ts optional_parameters_events optional_parameters_rows around following new result (optional_parameters_at (remaining ts input)) →
    AppendsEntries ts type_events type_rows c old new result (node constructs.ProcedureType (prefixed (word kinds.Procedure) optional_parameters_at) (remaining ts input))
procedure_told ts c around old part block following new input result e h a b t =
    let p : Option Parameters → Stage → Stage = λ o s. after (opens_block (both token (optional_parameters_rows o))) c (added (part_row parts.Procedure c s.number) s) in
    told_as ts (λ o. construct constructs.ProcedureType (word kinds.Procedure ++ optional_parameters_events o)) p type_events (λ x. after (type_rows x) c)
    (λ o. forms.ProcOf o) (λ o. events.procedure_type_made o) (λ o s. ap (λ (q : Fragment). after q c s) (effect.procedure_type_made o) ∙ after_tells (part_row parts.Procedure) _ c s) old new result _
    (told_node ts (λ o. word kinds.Procedure ++ optional_parameters_events o) p constructs.ProcedureType (prefixed (word kinds.Procedure) optional_parameters_at) old new result (remaining ts input)
    (told_prefixed ts optional_parameters_events p (word kinds.Procedure) optional_parameters_at old new result (remaining ts input)
    (told_behind ts optional_parameters_events (λ o. after (opens_block (both token (optional_parameters_rows o))) c) (λ s. added (part_row parts.Procedure c s.number) s) old part new result (optional_parameters_at (remaining ts input)) h
    (block_told ts c around part block following new result (optional_parameters_at (remaining ts input)) e a b t))))

---- a type name

pub named_told : (ts : List Token) (c : Context) (q : Qualident) (r : Reader) (old new : TableBuilder) (ls : List Leaf) (rest : Cursor) →
    r ls ≡ Ok (qualident_events q, remaining ts rest) → PerformsStep (after (type_name_rows q) c) old new → AppendsEntries ts type_events type_rows c old new (Ok rest) (node constructs.NamedType r ls)
named_told ts c q r old new ls rest e h =
    told_as ts (λ (x : Qualident). construct constructs.NamedType (qualident_events x)) (λ x. after (type_name_rows x) c) type_events (λ x. after (type_rows x) c)
    (λ x. forms.Named x) (λ x. events.named_made x) (λ x s. ap (λ (p : Fragment). after p c s) (effect.named_made x)) old new (Ok rest) _
    (told_node ts qualident_events (λ x. after (type_name_rows x) c) constructs.NamedType r old new (Ok rest) ls
    (told_walked ts qualident_events (λ x. after (type_name_rows x) c) q old new rest (r ls) e h))

-- ---- a type

-- a type with this first token
pub told_type : {A : Type 0} (ts : List Token) (f : A → Events) (p : A → Stage → Stage) (d : ℕ) (old new : TableBuilder) (result : Result Cursor Stop) (ls : List Leaf) (o : Option (Leaf × List Leaf)) → uncons ls ≡ o →
    AppendsEntriesBy ts f p old new result (type_from (expr_at d) (type_at d) o) → AppendsEntriesBy ts f p old new result (type_with (expr_at d) (type_at d) ls)
unfolding type_with
told_type ts f p d old new result ls o e t = rw e t

pub type_deeper : (d : ℕ) (ls : List Leaf) → (d ≡ 0 → ⊥) → type_at d ls ≡ type_with (expr_at (d - 1)) (type_at (d - 1)) ls
unfolding type_at
type_deeper zero ls h = absurd (h refl)
type_deeper (suc n) ls h = let e : suc n - 1 ≡ n = omega arith in rw e refl
