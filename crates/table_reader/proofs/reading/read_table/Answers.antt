use Rattle.std.proofs.Common.{List, arith, ap, subst, sym, ◌∙◌, length}
use Rattle.ob_scan.proofs.Places.{spelled_in_text}
use Rattle.ob_scan.specs.declared.token.Token.{Token}
use Rattle.ob_tree.specs.TreeEvents.{Events}
use Rattle.table_rules.specs.Declaring.{module_rows, outermost}
use Rattle.module_table.specs.TableStages.{Stage}
use Rattle.module_table.proofs.Steps.{number_of}
use Rattle.module_table.proofs.TableRows.{rows_after}
use Rattle.ob_grammar.specs.ParsesAs.{Fails}
use Rattle.ob_grammar.specs.Parsed.{kinds_of, read_as_module}
use Rattle.ob_grammar.proofs.OneTree.{tokens_placed, why_none}
use Rattle.table_reader.proofs.WholeTables.{right_tree, tree_rows_as, whole_tree, wrong_tree}
use Rattle.table_reader.proofs.reading.read_table.Goals as goal

pub overflow_cast-list : goal.overflow_cast-list
overflow_cast-list c =
    let in_text = spelled_in_text c.args.bytes.now c.args.tokens.now c.requires.1 in
    omega (arith, in_text.few, c.requires.0, ap length c.as_slice-list.ensures)

pub parse_with_brackets-requires-clause-few : goal.parse_with_brackets-requires-clause-few
parse_with_brackets-requires-clause-few c =
    let in_text = spelled_in_text c.args.bytes.now c.args.tokens.now c.requires.1 in
    omega (arith, in_text.few, c.requires.0, ap length c.as_slice-list.ensures)

pub parse_with_brackets-requires-clause-number : goal.parse_with_brackets-requires-clause-number
parse_with_brackets-requires-clause-number c = sym (number_of c.new-builder.result) ∙ ap (λ (s : Stage). s.number) c.new-builder.ensures

pub returns-in-Err-clause-fault : goal.returns-in-Err-clause-fault
returns-in-Err-clause-fault c =
    let in_text = spelled_in_text c.args.bytes.now c.args.tokens.now c.requires.1 in
    let stopped : Fails {Y = Events} c.args.tokens.now c.in-Err.stop (read_as_module c.args.tokens.now) = subst (λ (ts : List Token). Fails {Y = Events} ts c.in-Err.stop (read_as_module ts)) c.as_slice-list.ensures c.in-Err.ensures in
    rw (c.stop_fault.ensures, c.as_slice-list.ensures) (why_none c.args.bytes.now c.args.tokens.now c.in-Err.stop (omega (arith, in_text.few, c.requires.0)) stopped)

pub finish_table-table-requires : goal.finish_table-table-requires
finish_table-table-requires c =
    let t = (c.in-Ok.ensures.tabulates c.if-builder.false).1 in
    (t.tree, rows_after (module_rows t.tree) outermost _ c.parse_with_brackets.new.builder c.new-builder.ensures t.comes)

pub first_wrong_end-requires-clause-in_range : goal.first_wrong_end-requires-clause-in_range
first_wrong_end-requires-clause-in_range c =
    let t = (c.in-Ok.ensures.tabulates c.if-builder.false).1 in
    let rows = c.finish_table-table.ensures ∙ rows_after (module_rows t.tree) outermost _ c.parse_with_brackets.new.builder c.new-builder.ensures t.comes in
    (whole_tree c.as_slice-list.result.now c.in-Ok.ensures.out _ t.tree c.in-Ok.ensures.is_read t.has_events rows (c.end_names_follow_events.ensures (kinds_of c.as_slice-list.result.now) t.tree)).in_range

pub first_wrong_end-requires-clause-in_text : goal.first_wrong_end-requires-clause-in_text
first_wrong_end-requires-clause-in_text c = rw c.as_slice-list.ensures (tokens_placed c.args.bytes.now c.args.tokens.now (spelled_in_text c.args.bytes.now c.args.tokens.now c.requires.1))

pub returns-in-None-clause-table : goal.returns-in-None-clause-table
returns-in-None-clause-table c =
    let t = (c.in-Ok.ensures.tabulates c.if-builder.false).1 in
    let rows = c.finish_table-table.ensures ∙ rows_after (module_rows t.tree) outermost _ c.parse_with_brackets.new.builder c.new-builder.ensures t.comes in
    let w = whole_tree c.as_slice-list.result.now c.in-Ok.ensures.out _ t.tree c.in-Ok.ensures.is_read t.has_events rows (c.end_names_follow_events.ensures (kinds_of c.as_slice-list.result.now) t.tree) in
    (w.of, right_tree c.args.bytes.now c.as_slice-list.result.now c.args.tokens.now _ w c.as_slice-list.ensures c.in-None.ensures, w.rows_are)

pub returns-in-None-clause-rows : goal.returns-in-None-clause-rows
returns-in-None-clause-rows c =
    let t = (c.in-Ok.ensures.tabulates c.if-builder.false).1 in
    let rows = c.finish_table-table.ensures ∙ rows_after (module_rows t.tree) outermost _ c.parse_with_brackets.new.builder c.new-builder.ensures t.comes in
    let w = whole_tree c.as_slice-list.result.now c.in-Ok.ensures.out _ t.tree c.in-Ok.ensures.is_read t.has_events rows (c.end_names_follow_events.ensures (kinds_of c.as_slice-list.result.now) t.tree) in
    let is = right_tree c.args.bytes.now c.as_slice-list.result.now c.args.tokens.now _ w c.as_slice-list.ensures c.in-None.ensures in
    tree_rows_as c.args.tokens.now _ w.of w.rows_are (c.tree_table_is_valid.ensures (kinds_of c.args.tokens.now) w.of is.tree.derived)

pub returns-in-Some-clause-fault : goal.returns-in-Some-clause-fault
returns-in-Some-clause-fault c =
    let t = (c.in-Ok.ensures.tabulates c.if-builder.false).1 in
    let rows = c.finish_table-table.ensures ∙ rows_after (module_rows t.tree) outermost _ c.parse_with_brackets.new.builder c.new-builder.ensures t.comes in
    let w = whole_tree c.as_slice-list.result.now c.in-Ok.ensures.out _ t.tree c.in-Ok.ensures.is_read t.has_events rows (c.end_names_follow_events.ensures (kinds_of c.as_slice-list.result.now) t.tree) in
    wrong_tree c.args.bytes.now c.as_slice-list.result.now c.args.tokens.now _ c.in-Some.offset w c.as_slice-list.ensures c.in-Some.ensures
