use Rattle.std.proofs.Common.{◌≡◌, ◌∙◌, ◌++◌, ◌∷◌, [], List, map, refl, sym, ap, subst, append_assoc, append-nil}
use Rattle.std.proofs.lemmas.List.{map-append}
use Rattle.source_tree.specs.declared.import_sites.LocatedScopes.{LocatedScopes}
use Rattle.source_tree.proofs.located.split_located_scopes.Goals as goal

pub loop-file-preserved : goal.loop-file-preserved
loop-file-preserved c =
    let (done, e, scopes, items) = c.loop-file.invariant in
    let file = c.in-Some.file in
    let rest = c.next.new.self.rest.items in (
      done ++ file ∷ [],
      e ∙ ap (λ (l : List LocatedScopes). done ++ l) c.in-Some.ensures.steps.0 ∙ sym (append_assoc done (file ∷ []) rest),
      c.in_ok-push.ensures.items ∙ ap (λ l. l ++ file.scopes ∷ []) scopes ∙ sym (map-append (λ (x : LocatedScopes). x.scopes) done (file ∷ [])),
      c.in_ok-push-2.ensures.items ∙ ap (λ l. l ++ file.items ∷ []) items ∙ sym (map-append (λ (x : LocatedScopes). x.items) done (file ∷ [])),
    )
