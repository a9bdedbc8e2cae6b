use Rattle.std.proofs.Common.{sym, ap, ◌∙◌}
use Rattle.ob_tree.specs.Declaring.{module_events}
use Rattle.table_rules.specs.Declaring.{module_rows}
use Rattle.module_table.specs.TableStages.{after}
use Rattle.ob_grammar.specs.ParsesAs.{remaining, with_remaining}
use Rattle.table_reader.proofs.ModuleTrees.{whole_told, whole_failed, whole_left}
use Rattle.table_reader.proofs.modules.parse_all_tokens.Goals as goal

pub returns-in-None : goal.returns-in-None
returns-in-None c =
    whole_told c.args.source.now.tokens.now module_events (λ m. after (module_rows m) c.args.context) c.args.depth _ _ c.in-Ok.here _ c.in-Ok.ensures.effect
    (sym c.next.ensures.read ∙ ap (with_remaining c.args.source.now.tokens.now) c.in-None.is)

pub returns-in-Some : goal.returns-in-Some
returns-in-Some c =
    whole_left c.args.source.now.tokens.now module_events (λ m. after (module_rows m) c.args.context) c.args.depth _ _ c.in-Ok.here (remaining c.args.source.now.tokens.now c.args.input) _ c.in-Ok.ensures.effect
    (sym c.next.ensures.read ∙ ap (with_remaining c.args.source.now.tokens.now) c.in-Some.is)

pub returns-in-Err : goal.returns-in-Err
returns-in-Err c = whole_failed c.args.source.now.tokens.now c.args.depth c.in-Err.stop _ c.in-Err.ensures.effect
