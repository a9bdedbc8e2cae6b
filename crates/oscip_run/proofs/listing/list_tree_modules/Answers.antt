use Rattle.std.proofs.Common.{◌∙◌, ℕ, List, Option, None, Err, inl, length, map, sym, ap, subst, Bor}
use Rattle.std.specs.Prelude.{option_map}
use Rattle.std.proofs.lemmas.Result.{err_from_is_err_and}
use Rattle.oscip_run.specs.ModuleRuns.{entry_lines, entry_of, IsModulesRun, IsModulesText, IsPathAt, ModuleEntry}
use Rattle.oscip_run.specs.Runs.{IsRejectedTree}
use Rattle.oscip_run.specs.declared.fault.RunFault.{RunFault}
use Rattle.oscip_run.specs.declared.listing.ListedModule.{ListedModule}
use Rattle.source_tree.specs.Located.{AreModulesOf}
use Rattle.texts.specs.Places.{style_of}
use Rattle.oscip_run.proofs.CheckRuns.{refused_tree, Keeps-same}
use Rattle.oscip_run.proofs.ImportRuns.{error_prefix}
use Rattle.oscip_run.proofs.ModuleLists.{mapped_at, modules_text, modules_within}
use Rattle.oscip_run.proofs.listing.list_tree_modules.Goals as goal

pub returns-in_err-located-clause-run : goal.returns-in_err-located-clause-run
returns-in_err-located-clause-run g c =
    let p = err_from_is_err_and c.from_residual.result c.from_residual.ensures.1 in
    rw (p.1, p.2) (refused_tree (λ (fault : RunFault). IsModulesRun (style_of c.args.style) c.args.sources.now (g.S.Sink.taken c.args.sink.now) (g.S.Sink.taken c.args.sink.now) (Err fault)) c.args.sources.now
    (λ fault h. (h, Keeps-same _)) (inl (Keeps-same _)) _ c.in_err-located.ensures.fault)

pub paths_by_module-requires-clause-as_many : goal.paths_by_module-requires-clause-as_many
paths_by_module-requires-clause-as_many g c = let at = c.in_ok-located.ensures.modules in rw c.as_slice-modules.ensures.value (at.1.as_many ∙ at.1.accepted.as_many)

pub paths_by_module-requires-clause-within : goal.paths_by_module-requires-clause-within
paths_by_module-requires-clause-within g c =
    let (files, all) = c.in_ok-located.ensures.modules in
    rw (c.as_slice-modules.ensures.value, c.nodes.ensures) (modules_within c.args.sources.now c.in_ok-located.located.net c.in_ok-located.located.modules.items files all)

pub modules_with_paths-requires : goal.modules_with_paths-requires
modules_with_paths-requires g c = ap length c.as_slice.ensures.value ∙ c.in_ok-paths.ensures.size ∙ c.nodes.ensures

pub returns-in_err-write_lines-clause-run : goal.returns-in_err-write_lines-clause-run
returns-in_err-write_lines-clause-run g c =
    let p = err_from_is_err_and c.from_residual-in_err-write_lines.result c.from_residual-in_err-write_lines.ensures.1 in
    let sources = c.args.sources.now in
    let net = c.in_ok-located.located.net in
    let at : Option (Bor (List ℕ)) → Option (List ℕ) = option_map (λ (path : Bor (List ℕ)). path.now) in
    let entries = map entry_of c.as_slice-2.result.now in
    let named = ap (λ (listed : List ListedModule). map (λ (entry : ModuleEntry). entry.name) (map entry_of listed)) c.as_slice-2.ensures.value ∙ c.in_ok-listed.ensures.names in
    let pathed = ap (λ (listed : List ListedModule). map (λ (entry : ModuleEntry). entry.path) (map entry_of listed)) c.as_slice-2.ensures.value ∙ c.in_ok-listed.ensures.paths ∙ ap (map at) c.as_slice.ensures.value in
    let modules = subst (AreModulesOf sources net) (sym c.as_slice-modules.ensures.value) c.in_ok-located.ensures.modules in
    let text = modules_text (style_of c.args.style) sources net c.as_slice-modules.result.now (map at c.in_ok-paths.paths.items) entries c.in_ok-located.ensures.net modules
    (λ m. subst (IsPathAt sources c.as_slice-modules.result.now (length sources) m) (sym (mapped_at at c.in_ok-paths.paths.items m None)) (c.in_ok-paths.ensures.paths m)) named pathed in
    rw (p.1, p.2) (error_prefix (IsModulesText (style_of c.args.style) sources) (IsRejectedTree sources) _ _ _ _ text c.in_err-write_lines.ensures.writes)

pub returns-clause-run : goal.returns-clause-run
returns-clause-run g c =
    let sources = c.args.sources.now in
    let net = c.in_ok-located.located.net in
    let at : Option (Bor (List ℕ)) → Option (List ℕ) = option_map (λ (path : Bor (List ℕ)). path.now) in
    let entries = map entry_of c.as_slice-2.result.now in
    let named = ap (λ (listed : List ListedModule). map (λ (entry : ModuleEntry). entry.name) (map entry_of listed)) c.as_slice-2.ensures.value ∙ c.in_ok-listed.ensures.names in
    let pathed = ap (λ (listed : List ListedModule). map (λ (entry : ModuleEntry). entry.path) (map entry_of listed)) c.as_slice-2.ensures.value ∙ c.in_ok-listed.ensures.paths ∙ ap (map at) c.as_slice.ensures.value in
    let modules = subst (AreModulesOf sources net) (sym c.as_slice-modules.ensures.value) c.in_ok-located.ensures.modules in
    let text = modules_text (style_of c.args.style) sources net c.as_slice-modules.result.now (map at c.in_ok-paths.paths.items) entries c.in_ok-located.ensures.net modules
    (λ m. subst (IsPathAt sources c.as_slice-modules.result.now (length sources) m) (sym (mapped_at at c.in_ok-paths.paths.items m None)) (c.in_ok-paths.ensures.paths m)) named pathed in
    (entry_lines (style_of c.args.style) entries, text, c.in_ok-write_lines.ensures.writes)
