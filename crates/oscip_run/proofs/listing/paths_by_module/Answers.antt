-- The paths after each file.
use Rattle.std.proofs.Common.{◌≡◌, ◌<◌, ◌+◌, ◌∙◌, ℕ, List, Option, Some, None, inl, inr, length, get_or, set, refl, sym, ap, subst, arith, Bor}
use Rattle.std.specs.Prelude.{option_map, slice_get}
use Rattle.std.specs.String.{string_bytes}
use Rattle.std.proofs.lemmas.Bool.{cases_eq}
use Rattle.std.proofs.lemmas.List.{get_or-set_other, get_or-set_same, length-set}
use Rattle.std.proofs.lemmas.Option.{slice_get_read}
use Rattle.oscip_run.specs.ModuleRuns.{IsPathAt}
use Rattle.oscip_run.proofs.ModuleLists.{path_more, path_same}
use Rattle.oscip_run.proofs.listing.paths_by_module.Goals as goal
use Rattle.source_tree.specs.declared.source.Source.{Source}

pub loop-location-preserved : goal.loop-location-preserved
loop-location-preserved c =
    let sources = c.args.sources.now in
    let modules = c.args.modules.now in
    let location = c.loop-location.location in
    let node = get_or modules location 0 in
    let paths = c.loop-location.paths.items in
    let new = set paths node (Some c.as_str.result) in
    let at : Option (Bor (List ℕ)) → Option (List ℕ) = option_map (λ (path : Bor (List ℕ)). path.now) in
    let size = c.loop-location.invariant.size in
    let in_sources : location < length sources = c.loop-location-test.true in
    let in_modules : location < length modules = (let many = c.requires.as_many in omega arith) in
    let low = c.requires.within location 0 in_modules in
    let in_paths : node < length paths = omega arith in
    let source = c.index-sources-location.result in
    let there : slice_get sources location ≡ Some source = slice_get_read sources (length sources) location source refl in_sources c.index-sources-location.is in
    let spelled = c.as_str.ensures.value ∙ ap (λ (s : Source). string_bytes s.path) (sym c.index-sources-location.is) in
    record {
      size = length-set paths node (Some c.as_str.result) ∙ size;
      paths = λ m. elim (cases_eq m node) [
        | inl e ↦
            let own : get_or new m None ≡ Some c.as_str.result = ap (λ (k : ℕ). get_or new k None) e ∙ get_or-set_same paths node (Some c.as_str.result) None in_paths in
            subst (λ (o : Option (Bor (List ℕ))). IsPathAt sources modules (location + 1) m (at o)) (sym own)
            (path_more sources modules location m source c.as_str.result.now (sym e) there spelled)
        | inr ne ↦
            let other : get_or new m None ≡ get_or paths m None = get_or-set_other paths node m (Some c.as_str.result) None ne in
            subst (λ (o : Option (Bor (List ℕ))). IsPathAt sources modules (location + 1) m (at o)) (sym other)
            (path_same sources modules location m (at (get_or paths m None)) (λ same. ne (sym same)) (c.loop-location.invariant.paths m))
      ];
    }

pub returns-clause-paths : goal.returns-clause-paths
returns-clause-paths c m =
    let end : c.loop-location.location ≡ length c.args.sources.now = (let up = c.loop-location.auto.location-end in let past = c.loop-location-test.false in omega arith) in
    subst (λ (count : ℕ). IsPathAt c.args.sources.now c.args.modules.now count m (option_map (λ (path : Bor (List ℕ)). path.now) (get_or c.loop-location.paths.items m None))) end (c.loop-location.invariant.paths m)
