use Rattle.std.proofs.Common.{◌<◌, ◌≤◌, false, List, get_or, length, subst}
use Rattle.module_table.specs.declared.rows.End.{End}
use Rattle.table_rules.specs.Naming.{ending_of}
use Rattle.ob_grammar.specs.Ends.{IsEnd}
use Rattle.ob_grammar.specs.Parsed.{IsRightEnd}
use Rattle.ob_grammar.proofs.RightEnds.{any_token}
use Rattle.table_reader.proofs.EndNames.{any_end, known_at, right_row, right_rows, wrong_row}
use Rattle.table_reader.proofs.ends.first_wrong_end.Goals as goal

pub end_name_matches-requires-clause-in_range : goal.end_name_matches-requires-clause-in_range
end_name_matches-requires-clause-in_range c =
    let within = subst (λ (es : List End). c.names.end-index < length es) c.ends-end-items.ensures c.names-test.true in
    rw c.ends-end-items.ensures (known_at c.args.tokens.now c.args.table.now.ends.items c.names.end-index any_end within c.requires.in_range)

pub bounds-tokens-end : goal.bounds-tokens-end
bounds-tokens-end c =
    let within = subst (λ (es : List End). c.names.end-index < length es) c.ends-end-items.ensures c.names-test.true in
    rw c.ends-end-items.ensures (known_at c.args.tokens.now c.args.table.now.ends.items c.names.end-index any_end within c.requires.in_range).1

pub returns-then-not-end_name_matches : goal.returns-then-not-end_name_matches
returns-then-not-end_name_matches c =
    let within = subst (λ (es : List End). c.names.end-index < length es) c.ends-end-items.ensures c.names-test.true in
    let in_range = known_at c.args.tokens.now c.args.table.now.ends.items c.names.end-index any_end within c.requires.in_range in
    let wrong = subst (λ (es : List End). IsEnd c.args.bytes.now c.args.tokens.now false (ending_of (get_or es c.names.end-index any_end))) c.ends-end-items.ensures c.if-not-end_name_matches.ensures in
    rw c.ends-end-items.ensures (wrong_row c.args.tokens.now c.args.table.now.ends.items c.args.bytes.now c.names.end-index any_end any_token within c.names.invariant in_range wrong)

pub names-preserved : goal.names-preserved
names-preserved c =
    let within = subst (λ (es : List End). c.names.end-index < length es) c.ends-end-items.ensures c.names-test.true in
    let right = subst (λ (es : List End). IsRightEnd c.args.bytes.now c.args.tokens.now (ending_of (get_or es c.names.end-index any_end))) c.ends-end-items.ensures c.if-not-end_name_matches.ensures in
    right_row c.args.tokens.now c.args.table.now.ends.items c.args.bytes.now c.names.end-index any_end within c.names.invariant right

pub returns : goal.returns
returns c =
    let following = subst (λ (es : List End). length es ≤ c.names.end-index) c.ends-end-items.ensures c.names-test.false in
    right_rows c.args.tokens.now c.args.table.now.ends.items c.args.bytes.now c.names.end-index following c.names.invariant
