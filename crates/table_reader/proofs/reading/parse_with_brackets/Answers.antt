use Rattle.std.proofs.Common.{List, subst}
use Rattle.ob_tree.specs.declared.token.Leaf.{Leaf}
use Rattle.ob_tree.specs.Declaring.{module_events}
use Rattle.table_rules.specs.Declaring.{module_rows, outermost}
use Rattle.module_table.specs.TableStages.{after}
use Rattle.ob_grammar.specs.ReadModules.{read_all}
use Rattle.ob_grammar.proofs.Remaining.{all_remaining}
use Rattle.table_reader.specs.Tabulating.{AppendsModuleEntries}
use Rattle.table_reader.proofs.reading.parse_with_brackets.Goals as goal

pub returns : goal.returns
returns c =
    subst (λ (ls : List Leaf). AppendsModuleEntries c.args.tokens.now module_events (λ m. after (module_rows m) outermost) c.args.builder.now c.parse_all_tokens.new.builder c.parse_all_tokens.result (read_all 200 ls))
    (all_remaining c.args.tokens.now c.requires.few) c.parse_all_tokens.ensures
