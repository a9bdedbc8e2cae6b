use Rattle.std.proofs.Common.{[], refl, sym, ap, ◌∙◌, arith}
use Rattle.ob_scan.specs.declared.kind.Kind.TheVariants as kinds
use Rattle.ob_tree.specs.Declaring.{const_events, type_decl_events, variable_events, procedure_events}
use Rattle.ob_tree.specs.TreeEvents.{repeated}
use Rattle.table_rules.specs.Declaring.{const_rows, type_decl_rows, variable_rows, procedure_rows}
use Rattle.module_table.specs.declared.builder.Context.{Context}
use Rattle.module_table.specs.TableStages.{after}
use Rattle.module_table.specs.Parts.{in_block}
use Rattle.module_table.specs.Parts.{each as pieces}
use Rattle.ob_grammar.specs.Lookahead.{is_word}
use Rattle.ob_grammar.specs.Combinators.{begins, seq, expect_at, name_at, optional, accept_at, limit_at}
use Rattle.ob_grammar.specs.ParsesAs.{remaining}
use Rattle.ob_grammar.specs.ReadExpressions.{expr_at}
use Rattle.ob_grammar.specs.ReadStatements.{block_at}
use Rattle.ob_grammar.specs.ReadTypes.{type_at}
use Rattle.ob_grammar.specs.ReadModules.{const_with, type_decl_with, variable_with, with_semicolon, procedure_at, procedures_with, declarations_at, body_with, procedure_named}
use Rattle.ob_grammar.proofs.Loops.{has_begun, has_not_begun}
use Rattle.ob_grammar.proofs.LoopProcedures.{procedure_advances}
use Rattle.table_reader.specs.DeclarationShapes.{ended_events, ended_rows}
use Rattle.table_reader.proofs.Combine.{failed_then}
use Rattle.table_reader.proofs.Lists.{Any, listing_failed, listing_smaller, pieces_begun, pieces_done, pieces_more}
use Rattle.table_reader.proofs.SectionTrees.{with_semicolon_told}
use Rattle.table_reader.proofs.ProcedureTrees.{star_told, behind_heading_told, named_told, named_failed, named_failed_behind, inner_told, within_told, within_failed, procedure_deeper, sections_told, first_failed, second_failed, third_failed}
use Rattle.table_reader.proofs.declarations.+declarations.Goals as goal

pub procedures-more-init : goal.procedures-more-init
procedures-more-init t c = (pieces_begun c.args.source.now.tokens.now (begins (is_word kinds.Procedure)) (with_semicolon (procedure_at c.args.depth)) (ended_events procedure_events) (ended_rows procedure_rows) c.args.context _ c.args.input, c.requires)

pub procedures-more-smaller : goal.procedures-more-smaller
procedures-more-smaller t c =
    listing_smaller c.args.source.now.tokens.now (begins (is_word kinds.Procedure)) (with_semicolon (procedure_at c.args.depth)) (ended_events procedure_events) (λ p. after (ended_rows procedure_rows p) c.args.context) []
    (procedure_advances c.args.depth) _ _ c.more.here c.more.here c.in-Ok.next (has_begun (is_word kinds.Procedure) _ (sym c.next_is.ensures ∙ c.more-test.true)) c.in-Ok.ensures.effect

pub procedures-more-preserved : goal.procedures-more-preserved
procedures-more-preserved t c = (pieces_more c.args.source.now.tokens.now (begins (is_word kinds.Procedure)) (with_semicolon (procedure_at c.args.depth)) (ended_events procedure_events) (ended_rows procedure_rows) c.args.context (ended_events procedure_events) (λ p. after (ended_rows procedure_rows p) c.args.context) (λ p. p) [] (procedure_advances c.args.depth) (λ p. refl) (λ p s. refl) _ _ _ c.args.input c.more.here c.more.here c.in-Ok.next (has_begun (is_word kinds.Procedure) _ (sym c.next_is.ensures ∙ c.more-test.true)) c.more.invariant.0 c.in-Ok.ensures.effect, c.in-Ok.ensures.number)

pub procedures-returns-in-Err-clause-effect : goal.procedures-returns-in-Err-clause-effect
unfolding procedures_with
procedures-returns-in-Err-clause-effect t c =
    listing_failed c.args.source.now.tokens.now (begins (is_word kinds.Procedure)) (with_semicolon (procedure_at c.args.depth)) (ended_events procedure_events) (λ xs. after (pieces (ended_rows procedure_rows) xs) c.args.context)
    Any c.in-Err.stop [] (procedure_advances c.args.depth) _ _ c.args.input c.more.here c.more.here
    (has_begun (is_word kinds.Procedure) _ (sym c.next_is.ensures ∙ c.more-test.true)) c.more.invariant.0 c.in-Err.ensures.effect

pub procedures-returns-clause-effect : goal.procedures-returns-clause-effect
unfolding procedures_with
procedures-returns-clause-effect t c =
    pieces_done c.args.source.now.tokens.now (begins (is_word kinds.Procedure)) (with_semicolon (procedure_at c.args.depth)) (ended_events procedure_events) (ended_rows procedure_rows) c.args.context
    (procedure_advances c.args.depth) _ _ c.args.input c.more.here (has_not_begun (is_word kinds.Procedure) _ (sym c.next_is.ensures ∙ c.more-test.false)) c.more.invariant.0

pub procedure_with_semicolon-returns-in-Ok-clause-effect : goal.procedure_with_semicolon-returns-in-Ok-clause-effect
procedure_with_semicolon-returns-in-Ok-clause-effect t c =
    with_semicolon_told c.args.source.now.tokens.now procedure_events procedure_rows c.args.context (procedure_at c.args.depth) _ _ _ c.args.input c.in-Ok.here _ c.in-Ok.ensures.effect c.expect_word.ensures.effect

pub procedure_with_semicolon-returns-in-Err-clause-effect : goal.procedure_with_semicolon-returns-in-Err-clause-effect
procedure_with_semicolon-returns-in-Err-clause-effect t c = failed_then c.args.source.now.tokens.now (procedure_at c.args.depth) (expect_at kinds.Semicolon) c.in-Err.stop _ c.in-Err.ensures.effect

pub procedure-returns-then-depth-eq0-clause-effect : goal.procedure-returns-then-depth-eq0-clause-effect
unfolding procedure_at limit_at
procedure-returns-then-depth-eq0-clause-effect t c = grind arith

pub procedure-returns-clause-effect : goal.procedure-returns-clause-effect
procedure-returns-clause-effect t c = rw (procedure_deeper c.args.depth (remaining c.args.source.now.tokens.now c.args.input) c.if-depth-eq0.false) c.procedure_after_depth_check.ensures.effect

pub procedure_after_depth_check-returns-in-Ok-clause-effect : goal.procedure_after_depth_check-returns-in-Ok-clause-effect
procedure_after_depth_check-returns-in-Ok-clause-effect t c =
    within_told c.args.source.now.tokens.now (expr_at c.args.depth) (block_at c.args.depth) (declarations_at c.args.depth) c.args.context c.block_context-around.result c.new_decl_group-row.result c.open_decl_group-at.result _ c.open_decl_group-at.new.self c.add_block.new.self _ _ c.args.input c.in-Ok.here
    c.new_decl_group-row.ensures (c.block_context-around.ensures ∙ ap (λ (d : Context). in_block d c.args.builder.now.number) c.decl_group_context.ensures) c.open_decl_group-at.ensures.slot c.open_decl_group-at.ensures.stage c.add_block.ensures.stage c.in-Ok.ensures.effect c.close_decl_group.ensures.stage

pub procedure_after_depth_check-returns-in-Err-clause-effect : goal.procedure_after_depth_check-returns-in-Err-clause-effect
procedure_after_depth_check-returns-in-Err-clause-effect t c = within_failed c.args.source.now.tokens.now (expr_at c.args.depth) (block_at c.args.depth) (declarations_at c.args.depth) c.in-Err.stop _ c.in-Err.ensures.effect

pub procedure_in_block-returns-in-Ok-identifier-clause-effect : goal.procedure_in_block-returns-in-Ok-identifier-clause-effect
procedure_in_block-returns-in-Ok-identifier-clause-effect t c =
    inner_told c.args.source.now.tokens.now (procedure_named (expr_at c.args.depth) (block_at c.args.depth) (declarations_at c.args.depth)) c.in-Ok-identifier.name c.args.context _ _ _ c.args.input c.in-Ok.here c.in-Ok-identifier.here _
    c.in-Ok.ensures.effect c.in-Ok-identifier.ensures.read c.procedure_after_name.ensures.effect

pub procedure_after_name-returns-in-Ok-expect_word-clause-effect : goal.procedure_after_name-returns-in-Ok-expect_word-clause-effect
procedure_after_name-returns-in-Ok-expect_word-clause-effect t c =
    named_told c.args.source.now.tokens.now c.args.name (expr_at c.args.depth) (block_at c.args.depth) (declarations_at c.args.depth) c.args.context _ _ _ _ _ c.args.input c.skip-is_exported.result.1 c.in-Ok.here c.in-Ok-expect_word.here _
    (star_told c.args.source.now.tokens.now c.args.name c.skip-is_exported.result.0 c.args.context _ _ c.args.input c.skip-is_exported.result.1 c.skip-is_exported.ensures.read c.append_identdef.ensures.stage) c.in-Ok.ensures.effect c.in-Ok-expect_word.ensures.effect c.procedure_block.ensures.effect

pub procedure_after_name-returns-in-Err-clause-effect : goal.procedure_after_name-returns-in-Err-clause-effect
procedure_after_name-returns-in-Err-clause-effect t c =
    named_failed c.args.source.now.tokens.now c.args.name (expr_at c.args.depth) (block_at c.args.depth) (declarations_at c.args.depth) c.args.context _ _ c.args.input c.skip-is_exported.result.1 c.in-Err.stop
    (star_told c.args.source.now.tokens.now c.args.name c.skip-is_exported.result.0 c.args.context _ _ c.args.input c.skip-is_exported.result.1 c.skip-is_exported.ensures.read c.append_identdef.ensures.stage) c.in-Err.ensures.effect

pub procedure_block-returns-in-Ok-clause-effect : goal.procedure_block-returns-in-Ok-clause-effect
procedure_block-returns-in-Ok-clause-effect t c =
    behind_heading_told c.args.source.now.tokens.now c.args.name (declarations_at c.args.depth) (seq (body_with (block_at c.args.depth)) (seq (optional (accept_at kinds.Return) (expr_at c.args.depth)) (seq (expect_at kinds.End) (name_at (repeated c.args.name)))))
    c.args.context _ _ _ c.args.input c.in-Ok.here _ c.in-Ok.ensures.effect c.procedure_ending.ensures.effect

pub declarations-returns-in-Ok-declaration_section-2-clause-effect : goal.declarations-returns-in-Ok-declaration_section-2-clause-effect
unfolding const_with const_events const_rows type_decl_with type_decl_events type_decl_rows variable_with variable_events variable_rows
declarations-returns-in-Ok-declaration_section-2-clause-effect t c =
    sections_told c.args.source.now.tokens.now (expr_at c.args.depth) (type_at c.args.depth) (procedure_at c.args.depth) c.args.context _ _ _ _ _ c.args.input c.in-Ok.here c.in-Ok-declaration_section.here c.in-Ok-declaration_section-2.here _
    c.in-Ok.ensures.effect c.in-Ok-declaration_section.ensures.effect c.in-Ok-declaration_section-2.ensures.effect c.procedures.ensures.effect

pub procedure_after_name-returns-in-Err-expect_word-clause-effect : goal.procedure_after_name-returns-in-Err-expect_word-clause-effect
procedure_after_name-returns-in-Err-expect_word-clause-effect t c =
    named_failed_behind c.args.source.now.tokens.now c.args.name (expr_at c.args.depth) (block_at c.args.depth) (declarations_at c.args.depth) c.args.context _ _ _ c.args.input c.skip-is_exported.result.1 c.in-Ok.here c.in-Err-expect_word.stop
    (star_told c.args.source.now.tokens.now c.args.name c.skip-is_exported.result.0 c.args.context _ _ c.args.input c.skip-is_exported.result.1 c.skip-is_exported.ensures.read c.append_identdef.ensures.stage) c.in-Ok.ensures.effect c.in-Err-expect_word.ensures.effect

pub declarations-returns-in-Err-clause-effect : goal.declarations-returns-in-Err-clause-effect
unfolding const_with
declarations-returns-in-Err-clause-effect t c = first_failed c.args.source.now.tokens.now (expr_at c.args.depth) (type_at c.args.depth) (procedure_at c.args.depth) c.in-Err.stop _ c.in-Err.ensures.effect

pub declarations-returns-in-Err-declaration_section-clause-effect : goal.declarations-returns-in-Err-declaration_section-clause-effect
unfolding const_with const_events const_rows type_decl_with
declarations-returns-in-Err-declaration_section-clause-effect t c =
    second_failed c.args.source.now.tokens.now (expr_at c.args.depth) (type_at c.args.depth) (procedure_at c.args.depth) c.args.context _ _ c.args.input c.in-Ok.here c.in-Err-declaration_section.stop c.in-Ok.ensures.effect c.in-Err-declaration_section.ensures.effect

pub declarations-returns-in-Err-declaration_section-2-clause-effect : goal.declarations-returns-in-Err-declaration_section-2-clause-effect
unfolding const_with const_events const_rows type_decl_with type_decl_events type_decl_rows variable_with
declarations-returns-in-Err-declaration_section-2-clause-effect t c =
    third_failed c.args.source.now.tokens.now (expr_at c.args.depth) (type_at c.args.depth) (procedure_at c.args.depth) c.args.context _ _ _ c.args.input c.in-Ok.here c.in-Ok-declaration_section.here c.in-Err-declaration_section-2.stop
    c.in-Ok.ensures.effect c.in-Ok-declaration_section.ensures.effect c.in-Err-declaration_section-2.ensures.effect
