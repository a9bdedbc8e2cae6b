use Rattle.std.proofs.Common.{None, refl, sym, ap, ◌∙◌}
use Rattle.ob_scan.specs.declared.kind.Kind.TheVariants as kinds
use Rattle.ob_tree.specs.Statements.{block_events}
use Rattle.table_rules.specs.Statements.{block_rows}
use Rattle.module_table.specs.TableStages.{after}
use Rattle.module_table.proofs.Steps.{after_nothing}
use Rattle.ob_grammar.specs.Combinators.{accept_at}
use Rattle.ob_grammar.specs.ParsesAs.{skipped}
use Rattle.ob_grammar.specs.ReadStatements.{block_at}
use Rattle.ob_grammar.specs.ReadModules.{body_with}
use Rattle.table_reader.specs.DeclarationShapes.{body_events, body_rows}
use Rattle.table_reader.proofs.Combine.{told_absent}
use Rattle.table_reader.proofs.Following.{word_there_told}
use Rattle.table_reader.proofs.declarations.body.Goals as goal

pub returns-in-None-clause-effect : goal.returns-in-None-clause-effect
unfolding body_with
returns-in-None-clause-effect c =
    told_absent c.args.source.now.tokens.now body_events (λ x. after (body_rows x) c.args.context) None (accept_at kinds.Begin) _ _ c.args.input refl (λ s. after_nothing c.args.context s) (sym c.accept.ensures.read ∙ ap (skipped c.args.source.now.tokens.now kinds.Begin) c.in-None.is)

pub returns-in-Some-clause-effect : goal.returns-in-Some-clause-effect
unfolding body_with
returns-in-Some-clause-effect c =
    word_there_told c.args.source.now.tokens.now c.args.context kinds.Begin block_events block_rows (block_at c.args.depth) _ _ _ c.args.input c.in-Some.rest _ (sym c.accept.ensures.read ∙ ap (skipped c.args.source.now.tokens.now kinds.Begin) c.in-Some.is) c.advance.ensures.stage c.block.ensures.effect
