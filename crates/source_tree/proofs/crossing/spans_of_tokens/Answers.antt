-- The ranges of one reading of the file are those of each reading.
use Rattle.std.proofs.Common.{ℕ, List, subst}
use Rattle.module_table.specs.Tables.{rows_in}
use Rattle.ob_scan.specs.declared.token.Token.{Token}
use Rattle.source_tree.specs.Crossings.{AreSpans}
use Rattle.source_tree.proofs.CrossedTrees.{places_by}
use Rattle.source_tree.proofs.crossing.spans_of_tokens.Goals as goal

pub returns-clause-places : goal.returns-clause-places
returns-clause-places c =
    let (m, tree, is) = c.in_ok-table.ensures.table in
    let (found, crosses, spans_are) = c.in_ok-spans.ensures in
    let spans = c.in_ok-spans.field-0.items in
    let all = subst (λ (bytes : List ℕ). AreSpans bytes c.args.tokens.now found spans) c.as_slice-bytes.ensures.value
    (subst (λ (ts : List Token). AreSpans c.as_slice-bytes.result.now ts found spans) c.as_slice.ensures spans_are) in
    places_by c.args.source.now c.args.tokens.now m c.requires tree c.args.scopes.now c.args.imported.now (rows_in c.in_ok-table.table) found spans is crosses all
