use Rattle.std.proofs.Common.{take}
use Rattle.oscip_run.specs.RuleRuns.{AreSitesIn}
use Rattle.oscip_run.proofs.rule_check.sites_of_imports.Given as goal

abbrev pub invariant-loop-import : goal.invariant-loop-import
invariant-loop-import l = AreSitesIn l.sources (take l.import-index l.imports) l.sites.items
