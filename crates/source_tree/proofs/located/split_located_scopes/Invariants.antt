use Rattle.std.proofs.Common.{◌≡◌, ◌++◌, List, map}
use Rattle.source_tree.specs.declared.import_sites.LocatedScopes.{LocatedScopes}
use Rattle.source_tree.proofs.located.split_located_scopes.Given as goal

abbrev pub invariant-loop-file : goal.invariant-loop-file
invariant-loop-file l =
    (done : List LocatedScopes) × (l.fn.files.items ≡ done ++ l.file-iterator.rest.items) × (l.scopes.items ≡ map (λ (x : LocatedScopes). x.scopes) done) × (l.items.items ≡ map (λ (x : LocatedScopes). x.items) done)
