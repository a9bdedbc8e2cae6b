use Rattle.oscip_run.proofs.RuleRuns.{rules_run}
use Rattle.oscip_run.proofs.tree_run.run_rules.Goals as goal

pub returns-clause-run : goal.returns-clause-run
returns-clause-run g c =
    rules_run (g.F.Reader.answers c.args.reader.now) _ c.args.path.now c.args.sources.now c.in_ok-rules.rules.items _ _ _ _ c.in_ok-rules.ensures.given c.as_slice.ensures.value c.check_tree_rules.ensures.run
