use Rattle.std.proofs.Common.{get_or, refl}
use Rattle.std.proofs.lemmas.Option.{slice_get-get_or}
use Rattle.source_tree.specs.Located.{no_site}
use Rattle.oscip_run.proofs.RuleRuns.{sites_next}
use Rattle.oscip_run.proofs.rule_check.sites_of_imports.Goals as goal

pub loop-import-preserved : goal.loop-import-preserved
loop-import-preserved c =
    let sources = c.args.sources.now in
    let imports = c.args.imports.now in
    let index = c.loop-import.import-index in
    let lt = c.loop-import-test.true in
    let import = get_or imports index no_site in
    let source = get_or sources import.file c.index-sources-import.result in
    let at = slice_get-get_or sources import.file c.index-sources-import.result (c.requires index import (slice_get-get_or imports index no_site lt)) in
    rw c.in_ok-push.ensures.items (sites_next sources imports index no_site _ c.loop-import.sites.items lt (source, at, c.as_str.ensures.value, refl, refl) c.loop-import.invariant)
