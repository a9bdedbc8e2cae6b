use Rattle.std.proofs.Common.{◌≡◌, ◌∙◌, ◌∷◌, ◌++◌, ℕ, [], List, map, sym, subst, ap, ap₂, append_assoc}
use Rattle.std.specs.Prelude.{String}
use Rattle.std.specs.String.{string_bytes}
use Rattle.std.specs.declared.alloc.Global.{Global}
use Rattle.std.proofs.lemmas.List.{map-append}
use Rattle.std.proofs.lemmas.List.Elements.{All-push}
use Rattle.oscip_run.specs.Files.{AreModulePrefixes, IsModulePrefix}
use Rattle.source_tree.specs.declared.source.Source.{Source}
use Rattle.oscip_run.proofs.folder.read_sources.Goals as goal

pub loop-path-preserved : goal.loop-path-preserved
loop-path-preserved g c =
    let (done, e, are) = c.loop-path.invariant.read in
    let path = c.in-Some.path in
    let rest = c.next.new.self.rest.items in
    let sources = c.loop-path.sources.items in
    let source = c.in_ok-source.source in
    record {
      most = subst (λ (z : List Source). AreModulePrefixes z) (sym c.in_ok-push.ensures.items) (All-push (λ (s : Source). IsModulePrefix s.bytes.items) sources source c.loop-path.invariant.most c.in_ok-source.ensures.most);
      read = (
        done ++ path ∷ [],
        e ∙ ap (λ (l : List (String Global)). done ++ l) c.in-Some.ensures.steps.0 ∙ sym (append_assoc done (path ∷ []) rest),
        ap (λ (z : List Source). map (λ (s : Source). string_bytes s.path) z) c.in_ok-push.ensures.items ∙ map-append (λ (s : Source). string_bytes s.path) sources (source ∷ [])
            ∙ ap₂ (λ (xs : List (List ℕ)) (y : List ℕ). xs ++ y ∷ []) are c.in_ok-source.ensures.path ∙ sym (map-append string_bytes done (path ∷ [])),
      );
    }
