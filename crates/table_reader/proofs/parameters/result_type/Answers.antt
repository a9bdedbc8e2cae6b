use Rattle.std.proofs.Common.{◌++◌, sym, ap, ◌∙◌}
use Rattle.ob_scan.specs.declared.kind.Kind.TheVariants as kinds
use Rattle.ob_tree.specs.TreeEvents.{word}
use Rattle.ob_tree.specs.Names.{qualident_events}
use Rattle.module_table.specs.Parts.{both, token}
use Rattle.table_rules.specs.Statements.{qualident_rows}
use Rattle.ob_grammar.specs.Combinators.{accept_at}
use Rattle.ob_grammar.specs.ParsesAs.{skipped}
use Rattle.ob_grammar.specs.ReadNames.{qualident_at}
use Rattle.table_reader.proofs.Following.{absent_told, word_there_told}
use Rattle.table_reader.proofs.parameters.result_type.Goals as goal

pub returns-in-None-clause-effect : goal.returns-in-None-clause-effect
returns-in-None-clause-effect c =
    absent_told c.args.tokens.now c.args.context (λ q. word kinds.Colon ++ qualident_events q) (λ q. both token (qualident_rows q)) (accept_at kinds.Colon) qualident_at _ c.args.input (sym c.accept.ensures.read ∙ ap (skipped c.args.tokens.now kinds.Colon) c.in-None.is)

pub returns-in-Some-clause-effect : goal.returns-in-Some-clause-effect
returns-in-Some-clause-effect c =
    word_there_told c.args.tokens.now c.args.context kinds.Colon qualident_events qualident_rows qualident_at _ _ _ c.args.input c.in-Some.rest _ (sym c.accept.ensures.read ∙ ap (skipped c.args.tokens.now kinds.Colon) c.in-Some.is) c.advance.ensures.stage c.used_qualident.ensures.effect
