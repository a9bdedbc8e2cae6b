use Rattle.std.proofs.Common.{ℕ, List, subst}
use Rattle.ob_grammar.specs.Parsed.{IsTheTree}
use Rattle.source_tree.proofs.front_end.table_from_tokens.Goals as goal

pub returns-in-Ok-clause-table : goal.returns-in-Ok-clause-table
returns-in-Ok-clause-table c =
    let (tree, is_tree, same) = c.in-Ok.ensures.table in
    (tree, subst (λ (bytes : List ℕ). IsTheTree bytes c.args.tokens.now tree) c.as_slice.ensures.value is_tree, same)
