use Rattle.std.proofs.Common.{Ok, sym, ap, ◌∙◌, arith}
use Rattle.ob_scan.specs.declared.kind.Kind.TheVariants as kinds
use Rattle.ob_tree.specs.declared.token.Leaf.TheVariants as leafs
use Rattle.ob_tree.specs.Constructs as constructs
use Rattle.ob_tree.specs.TreeEvents.{word}
use Rattle.ob_tree.specs.Types.{type_events}
use Rattle.module_table.specs.TableStages.{after}
use Rattle.table_rules.specs.Types.{type_rows}
use Rattle.ob_grammar.specs.Combinators.{accept_at, expect_at, limit_at, many, nothing, optional, seq, several, unless}
use Rattle.ob_grammar.specs.ParsesAs.{remaining, skipped}
use Rattle.ob_grammar.specs.ReadExpressions.{expr_at}
use Rattle.ob_grammar.specs.ReadTypes.{field_start, fields_with, type_at, type_with, var_with}
use Rattle.ob_grammar.proofs.Somes.{not_closed}
use Rattle.table_reader.specs.TypeShapes.{field_events, field_rows, more_events, more_fields_rows, optional_word_events, optional_word_rows}
use Rattle.table_reader.proofs.Following.{pair_told, word_told, absent_told}
use Rattle.table_reader.proofs.Combine.{failed_node, failed_then}
use Rattle.table_reader.proofs.FactorTrees.{between_failed, closed}
use Rattle.table_reader.proofs.TypeTrees.{told_type, type_deeper, var_told, var_failed, field_at, field_told, fields_told, fields_failed, parts_told, record_told, record_failed, array_told, pointer_told, boxed_outline, boxed_piece, some_fields_told}
use Rattle.ob_grammar.proofs.Repetitions.{field_lists}
use Rattle.ob_grammar.proofs.Lookaheads.{leaf_stands, word_stands}
use Rattle.table_reader.proofs.Lists.{behind_token, repeat_begun, repeat_shorter, repeat_behind, repeat_failed, repeat_done}
use Rattle.table_reader.proofs.types.+types.Goals as goal

pub type_expression-returns-then-depth-eq0-clause-effect : goal.type_expression-returns-then-depth-eq0-clause-effect
unfolding type_at limit_at
type_expression-returns-then-depth-eq0-clause-effect t c = grind arith

pub type_expression-returns-clause-effect : goal.type_expression-returns-clause-effect
type_expression-returns-clause-effect t c = rw (type_deeper c.args.depth (remaining c.args.source.now.tokens.now c.args.input) c.if-depth-eq0.false) c.type_after_depth_check.ensures.effect

pub type_after_depth_check-returns-in-Some-Name-default-clause-effect : goal.type_after_depth_check-returns-in-Some-Name-default-clause-effect
type_after_depth_check-returns-in-Some-Name-default-clause-effect t c =
    let e = leaf_stands c.args.source.now.tokens.now _ c.args.input c.in-Some-Name-default.rest _ (leafs.Name c.in-Some-Name-default.head) c.in-Some-Name-default.is c.in-Some-Name-default.field-0-0-is c.next.ensures.read in
    told_type c.args.source.now.tokens.now type_events (λ x. after (type_rows x) c.args.context) c.args.depth _ _ _ _ _ e c.named_type.ensures.effect

pub type_after_depth_check-returns-in-Some-Word-Array-default-clause-effect : goal.type_after_depth_check-returns-in-Some-Word-Array-default-clause-effect
type_after_depth_check-returns-in-Some-Word-Array-default-clause-effect t c =
    let e = word_stands c.args.source.now.tokens.now _ c.args.input c.in-Some-Word-Array-default.rest _ _ kinds.Array c.in-Some-Word-Array-default.is c.in-Some-Word-Array-default.field-0-0-is c.in-Some-Word-Array-default.field-0-0-0-is c.next.ensures.read in
    told_type c.args.source.now.tokens.now type_events (λ x. after (type_rows x) c.args.context) c.args.depth _ _ _ _ _ e c.array.ensures.effect

pub type_after_depth_check-returns-in-Some-Word-Record-default-clause-effect : goal.type_after_depth_check-returns-in-Some-Word-Record-default-clause-effect
type_after_depth_check-returns-in-Some-Word-Record-default-clause-effect t c =
    let e = word_stands c.args.source.now.tokens.now _ c.args.input c.in-Some-Word-Record-default.rest _ _ kinds.Record c.in-Some-Word-Record-default.is c.in-Some-Word-Record-default.field-0-0-is c.in-Some-Word-Record-default.field-0-0-0-is c.next.ensures.read in
    told_type c.args.source.now.tokens.now type_events (λ x. after (type_rows x) c.args.context) c.args.depth _ _ _ _ _ e c.record.ensures.effect

pub type_after_depth_check-returns-in-Some-Word-Pointer-default-clause-effect : goal.type_after_depth_check-returns-in-Some-Word-Pointer-default-clause-effect
type_after_depth_check-returns-in-Some-Word-Pointer-default-clause-effect t c =
    let e = word_stands c.args.source.now.tokens.now _ c.args.input c.in-Some-Word-Pointer-default.rest _ _ kinds.Pointer c.in-Some-Word-Pointer-default.is c.in-Some-Word-Pointer-default.field-0-0-is c.in-Some-Word-Pointer-default.field-0-0-0-is c.next.ensures.read in
    told_type c.args.source.now.tokens.now type_events (λ x. after (type_rows x) c.args.context) c.args.depth _ _ _ _ _ e c.pointer.ensures.effect

pub type_after_depth_check-returns-in-Some-Word-Procedure-default-clause-effect : goal.type_after_depth_check-returns-in-Some-Word-Procedure-default-clause-effect
type_after_depth_check-returns-in-Some-Word-Procedure-default-clause-effect t c =
    let e = word_stands c.args.source.now.tokens.now _ c.args.input c.in-Some-Word-Procedure-default.rest _ _ kinds.Procedure c.in-Some-Word-Procedure-default.is c.in-Some-Word-Procedure-default.field-0-0-is c.in-Some-Word-Procedure-default.field-0-0-0-is c.next.ensures.read in
    told_type c.args.source.now.tokens.now type_events (λ x. after (type_rows x) c.args.context) c.args.depth _ _ _ _ _ e c.procedure.ensures.effect

pub type_after_depth_check-returns-in_default-clause-effect : goal.type_after_depth_check-returns-in_default-clause-effect
unfolding type_with
type_after_depth_check-returns-in_default-clause-effect t c = grind arith

pub type_after_depth_check-returns-in_default-2-clause-effect : goal.type_after_depth_check-returns-in_default-2-clause-effect
unfolding type_with
type_after_depth_check-returns-in_default-2-clause-effect t c = grind arith

pub type_after_depth_check-returns-in_default-3-clause-effect : goal.type_after_depth_check-returns-in_default-3-clause-effect
unfolding type_with
type_after_depth_check-returns-in_default-3-clause-effect t c = grind arith

pub array-returns-in-Ok-clause-effect : goal.array-returns-in-Ok-clause-effect
array-returns-in-Ok-clause-effect t c =
    array_told c.args.source.now.tokens.now c.args.context _ c.args.depth _ _ _ _ _ c.args.input c.in-Ok.here _ c.type_context.ensures c.add_type_component.ensures.stage c.advance.ensures.stage c.in-Ok.ensures.effect c.type_after_token.ensures.effect

pub array-returns-in-Err-clause-effect : goal.array-returns-in-Err-clause-effect
array-returns-in-Err-clause-effect t c =
    between_failed c.args.source.now.tokens.now constructs.ArrayType (word kinds.Array) (several kinds.Comma (expr_at c.args.depth)) (seq (expect_at kinds.Of) (type_at c.args.depth)) _ (remaining c.args.source.now.tokens.now c.args.input) c.in-Err.ensures.effect

pub type_after_token-returns-in-Ok-clause-effect : goal.type_after_token-returns-in-Ok-clause-effect
type_after_token-returns-in-Ok-clause-effect t c = word_told c.args.source.now.tokens.now c.args.context c.args.kind type_events type_rows (type_at c.args.depth) _ _ _ c.args.input c.in-Ok.here _ c.in-Ok.ensures.effect c.type_expression.ensures.effect

pub type_after_token-returns-in-Err-clause-effect : goal.type_after_token-returns-in-Err-clause-effect
type_after_token-returns-in-Err-clause-effect t c = failed_then c.args.source.now.tokens.now (expect_at c.args.kind) (type_at c.args.depth) _ _ c.in-Err.ensures.effect

pub pointer-returns-clause-effect : goal.pointer-returns-clause-effect
pointer-returns-clause-effect t c = pointer_told c.args.source.now.tokens.now c.args.context _ c.args.depth _ _ _ _ c.args.input _ c.type_context.ensures c.add_type_component.ensures.stage c.advance.ensures.stage c.type_after_token.ensures.effect

pub record-returns-in-Ok-clause-effect : goal.record-returns-in-Ok-clause-effect
record-returns-in-Ok-clause-effect t c = record_told c.args.source.now.tokens.now c.args.context c.in-Ok.base c.args.depth _ _ _ c.args.input c.in-Ok.here _ c.in-Ok.ensures.read c.add_type_component.ensures.stage c.record_after_base.ensures.effect

pub record-returns-in-Err-clause-effect : goal.record-returns-in-Err-clause-effect
record-returns-in-Err-clause-effect t c = record_failed c.args.source.now.tokens.now c.args.depth _ (remaining c.args.source.now.tokens.now c.args.input) c.in-Err.ensures.read

pub record_after_base-returns-in-Ok-clause-effect : goal.record_after_base-returns-in-Ok-clause-effect
record_after_base-returns-in-Ok-clause-effect t c =
    parts_told c.args.source.now.tokens.now c.args.context _ c.args.base c.args.depth _ _ _ _ _ _ c.args.input c.in-Ok.here _ c.record_context-around.ensures c.add_record.ensures.stage c.advance.ensures.stage c.append_base.ensures.stage c.in-Ok.ensures.effect c.expect_word.ensures.effect

pub record_after_base-returns-in-Err-clause-effect : goal.record_after_base-returns-in-Err-clause-effect
record_after_base-returns-in-Err-clause-effect t c = failed_then c.args.source.now.tokens.now (optional (unless kinds.End) (fields_with (type_at c.args.depth))) (expect_at kinds.End) _ _ c.in-Err.ensures.effect

pub optional_fields-returns-then-next_is-clause-effect : goal.optional_fields-returns-then-next_is-clause-effect
optional_fields-returns-then-next_is-clause-effect t c =
    absent_told c.args.source.now.tokens.now c.args.context boxed_outline boxed_piece (unless kinds.End) (fields_with (type_at c.args.depth)) _ c.args.input (closed kinds.End _ (sym c.next_is.ensures ∙ c.if-next_is.true))

pub optional_fields-returns-clause-effect : goal.optional_fields-returns-clause-effect
optional_fields-returns-clause-effect t c =
    some_fields_told c.args.source.now.tokens.now c.args.context c.args.depth _ _ c.args.input _ (not_closed kinds.End _ (sym c.next_is.ensures ∙ c.if-next_is.false)) c.fields.ensures.effect

pub fields-returns-in-Ok-clause-effect : goal.fields-returns-in-Ok-clause-effect
fields-returns-in-Ok-clause-effect t c = fields_told c.args.source.now.tokens.now c.args.context c.args.depth _ _ _ c.args.input c.in-Ok.here _ c.in-Ok.ensures.effect c.fields_remainder.ensures.effect

pub fields-returns-in-Err-clause-effect : goal.fields-returns-in-Err-clause-effect
fields-returns-in-Err-clause-effect t c = fields_failed c.args.source.now.tokens.now c.args.depth _ _ c.in-Err.ensures.effect

pub fields_remainder-returns-in-Ok-clause-effect : goal.fields_remainder-returns-in-Ok-clause-effect
fields_remainder-returns-in-Ok-clause-effect t c =
    pair_told c.args.source.now.tokens.now c.args.context (more_events kinds.Semicolon field_events) more_fields_rows (optional_word_events kinds.Semicolon) optional_word_rows (many field_start (field_at c.args.depth)) (optional (accept_at kinds.Semicolon) nothing)
    _ _ _ c.args.input c.in-Ok.here (Ok c.accept_word.result) c.in-Ok.ensures.effect c.accept_word.ensures.effect

pub fields_remainder-returns-in-Err-clause-effect : goal.fields_remainder-returns-in-Err-clause-effect
fields_remainder-returns-in-Err-clause-effect t c = failed_then c.args.source.now.tokens.now (many field_start (field_at c.args.depth)) (optional (accept_at kinds.Semicolon) nothing) _ _ c.in-Err.ensures.effect

pub more_field_lists-more-init : goal.more_field_lists-more-init
more_field_lists-more-init t c = (repeat_begun c.args.source.now.tokens.now (field_lists c.args.depth) (behind_token field_rows) c.args.context _ c.args.input, c.requires)

pub more_field_lists-more-smaller : goal.more_field_lists-more-smaller
more_field_lists-more-smaller t c =
    repeat_shorter c.args.source.now.tokens.now (field_lists c.args.depth) field_rows c.args.context _ _ c.more.here c.in-Some.following c.in-Ok.next (sym c.accept_field_separator.ensures.read ∙ ap (skipped c.args.source.now.tokens.now kinds.Semicolon) c.in-Some.is) c.in-Ok.ensures.effect

pub more_field_lists-more-preserved : goal.more_field_lists-more-preserved
more_field_lists-more-preserved t c = (repeat_behind c.args.source.now.tokens.now (field_lists c.args.depth) field_rows c.args.context _ _ _ _ c.args.input c.more.here c.in-Some.following c.in-Ok.next (sym c.accept_field_separator.ensures.read ∙ ap (skipped c.args.source.now.tokens.now kinds.Semicolon) c.in-Some.is) c.more.invariant.0 c.advance.ensures.stage c.in-Ok.ensures.effect, c.in-Ok.ensures.number)

pub more_field_lists-returns-in-Err-clause-effect : goal.more_field_lists-returns-in-Err-clause-effect
more_field_lists-returns-in-Err-clause-effect t c =
    repeat_failed c.args.source.now.tokens.now (field_lists c.args.depth) (behind_token field_rows) c.args.context c.in-Err.stop _ _ c.args.input c.more.here c.in-Some.following (sym c.accept_field_separator.ensures.read ∙ ap (skipped c.args.source.now.tokens.now kinds.Semicolon) c.in-Some.is) c.more.invariant.0 c.in-Err.ensures.effect

pub more_field_lists-returns-clause-effect : goal.more_field_lists-returns-clause-effect
more_field_lists-returns-clause-effect t c =
    repeat_done c.args.source.now.tokens.now (field_lists c.args.depth) (behind_token field_rows) c.args.context _ _ c.args.input c.more.here (sym c.accept_field_separator.ensures.read ∙ ap (skipped c.args.source.now.tokens.now kinds.Semicolon) c.in_default.is) c.more.invariant.0

pub field_list-returns-in-Ok-clause-effect : goal.field_list-returns-in-Ok-clause-effect
field_list-returns-in-Ok-clause-effect t c =
    field_told c.args.source.now.tokens.now c.args.context _ c.args.depth _ _ _ _ _ _ c.args.input c.in-Ok.here c.new_decl_group-row.ensures c.open_decl_group-at.ensures.slot c.decl_group_context.ensures c.open_decl_group-at.ensures.stage c.in-Ok.ensures.effect c.close_decl_group.ensures.stage

pub field_list-returns-in-Err-clause-effect : goal.field_list-returns-in-Err-clause-effect
field_list-returns-in-Err-clause-effect t c = failed_node c.args.source.now.tokens.now constructs.FieldList (var_with (type_at c.args.depth)) _ _ c.in-Err.ensures.effect

pub var_declaration-returns-in-Ok-clause-effect : goal.var_declaration-returns-in-Ok-clause-effect
var_declaration-returns-in-Ok-clause-effect t c = var_told c.args.source.now.tokens.now c.args.context c.args.depth _ _ _ c.args.input c.in-Ok.here _ c.in-Ok.ensures.effect c.type_after_token.ensures.effect

pub var_declaration-returns-in-Err-clause-effect : goal.var_declaration-returns-in-Err-clause-effect
var_declaration-returns-in-Err-clause-effect t c = var_failed c.args.source.now.tokens.now c.args.depth _ _ c.in-Err.ensures.effect
