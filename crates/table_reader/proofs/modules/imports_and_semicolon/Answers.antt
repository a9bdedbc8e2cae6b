use Rattle.ob_scan.specs.declared.kind.Kind.TheVariants as kinds
use Rattle.ob_tree.specs.TreeEvents.{separated}
use Rattle.ob_tree.specs.Declaring.{import_events}
use Rattle.table_rules.specs.Declaring.{import_rows}
use Rattle.ob_grammar.specs.Combinators.{expect_at, several}
use Rattle.ob_grammar.specs.ReadModules.{import_item_at}
use Rattle.table_reader.specs.TypeShapes.{list_rows}
use Rattle.table_reader.proofs.Combine.{failed_then}
use Rattle.table_reader.proofs.SectionTrees.{with_semicolon_told}
use Rattle.table_reader.proofs.modules.imports_and_semicolon.Goals as goal

pub returns-in-Ok-clause-effect : goal.returns-in-Ok-clause-effect
returns-in-Ok-clause-effect c =
    with_semicolon_told c.args.tokens.now (separated kinds.Comma import_events) (list_rows import_rows) c.args.context (several kinds.Comma import_item_at) _ _ _ c.args.input c.in-Ok.here _ c.in-Ok.ensures.effect c.expect_word.ensures.effect

pub returns-in-Err-clause-effect : goal.returns-in-Err-clause-effect
returns-in-Err-clause-effect c = failed_then c.args.tokens.now (several kinds.Comma import_item_at) (expect_at kinds.Semicolon) c.in-Err.stop _ c.in-Err.ensures.effect
