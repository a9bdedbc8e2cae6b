use Rattle.std.proofs.Common.{◌∙◌, ◌≡◌, ◌<◌, ℕ, List, Some, Err, inl, length, map, ap, subst, sym, arith}
use Rattle.std.specs.Prelude.{slice_get}
use Rattle.std.proofs.lemmas.List.{length-map}
use Rattle.std.proofs.lemmas.Option.{slice_get_within}
use Rattle.cut_rules.specs.declared.file.File.{File}
use Rattle.cut_rules.specs.declared.site.Site.{Site}
use Rattle.std.proofs.lemmas.Result.{err_from_is_err_and}
use Rattle.texts.specs.Places.{style_of}
use Rattle.cut_net.specs.declared.priced.Priced.{Priced}
use Rattle.oscip_run.specs.RuleRuns.{AreSitesIn, IsRuledTree, IsRulesRun}
use Rattle.oscip_run.specs.Runs.{IsRejectedTree}
use Rattle.oscip_run.specs.declared.fault.RunFault.{RunFault}
use Rattle.source_tree.specs.Located.{AreModulesOf}
use Rattle.source_tree.specs.declared.import_sites.ImportSite.{ImportSite}
use Rattle.source_tree.proofs.TreeFiles.{there}
use Rattle.oscip_run.proofs.CheckRuns.{refused_tree, Keeps-same}
use Rattle.oscip_run.proofs.RuleRuns.{files_sorted, run_of}
use Rattle.oscip_run.proofs.rule_check.check_tree_rules.Goals as goal

pub returns-in_err-located-clause-run : goal.returns-in_err-located-clause-run
returns-in_err-located-clause-run g c =
    let p = err_from_is_err_and c.from_residual.result c.from_residual.ensures.1 in
    rw (p.1, p.2) (refused_tree (λ (fault : RunFault). IsRulesRun (IsRuledTree c.args.sources.now) (IsRejectedTree c.args.sources.now) (style_of c.args.style) c.args.rules.now (g.S.Sink.taken c.args.sink.now) (g.S.Sink.taken c.args.sink.now) (Err fault)) c.args.sources.now
    (λ fault h. (h, Keeps-same _)) (inl (Keeps-same _)) _ c.in_err-located.ensures.fault)

pub files_with_modules-requires : goal.files_with_modules-requires
files_with_modules-requires g c = let at = c.in_ok-located.ensures.modules in rw c.as_slice.ensures.value (at.1.as_many ∙ at.1.accepted.as_many)

pub sites_of_imports-requires : goal.sites_of_imports-requires
sites_of_imports-requires g c = λ k i at.
    let are = c.in_ok-located.ensures.imports in
    let at_import : slice_get c.in_ok-located.located.imports.items k ≡ Some i = subst (λ (l : List ImportSite). slice_get l k ≡ Some i) c.as_slice-2.ensures.value at in
    let low = slice_get_within c.in_ok-located.located.imports.items k i at_import in
    let many = are.as_many in
    let (import, at_net) = there c.in_ok-located.located.net.imports k (omega arith) in
    let (file, at_file, named, is) = are.each k import i at_net at_import in
    let inside = slice_get_within are.files i.file file at_file in
    let files = are.accepted.as_many in
    omega arith

pub write_rules_verdict-requires-clause-sites : goal.write_rules_verdict-requires-clause-sites
write_rules_verdict-requires-clause-sites g c =
    ap length c.as_slice-4.ensures.value ∙ c.in_ok-sites.ensures.as_many ∙ ap length c.as_slice-2.ensures.value ∙ c.in_ok-located.ensures.imports.as_many

pub write_rules_verdict-requires-clause-files : goal.write_rules_verdict-requires-clause-files
write_rules_verdict-requires-clause-files g c =
    let path : File → List ℕ = λ f. f.path.now in
    files_sorted c.args.sources.now c.as_slice-3.result.now (ap (map path) c.as_slice-3.ensures.value ∙ c.in_ok-files.ensures.paths) c.requires

pub returns-clause-run : goal.returns-clause-run
returns-clause-run g c =
    let sources = c.args.sources.now in
    let net = c.in_ok-located.located.net in
    let path : File → List ℕ = λ f. f.path.now in
    let number : File → ℕ = λ f. f.module in
    let numbers = ap (map number) c.as_slice-3.ensures.value ∙ c.in_ok-files.ensures.modules ∙ c.as_slice.ensures.value in
    let ruled : IsRuledTree sources net c.as_slice-3.result.now c.as_slice-4.result.now = record {
      is_net = c.in_ok-located.ensures.net;
      paths = ap (map path) c.as_slice-3.ensures.value ∙ c.in_ok-files.ensures.paths;
      modules = subst (AreModulesOf sources net) (sym numbers) c.in_ok-located.ensures.modules;
      imports = c.in_ok-located.located.imports.items;
      are_imports = c.in_ok-located.ensures.imports;
      are_sites = subst (λ (is : List ImportSite). AreSitesIn sources is c.as_slice-4.result.now) c.as_slice-2.ensures.value (subst (AreSitesIn sources c.as_slice-2.result.now) (sym c.as_slice-4.ensures.value) c.in_ok-sites.ensures);
    } in
    run_of (IsRuledTree sources) (IsRejectedTree sources) (style_of c.args.style) net c.as_slice-3.result.now c.as_slice-4.result.now ruled c.args.rules.now _ _ _ c.write_rules_verdict.ensures.run
