-- The entry with the found index, as a meaning.
use Rattle.std.proofs.Common.{ap, arith}
use Rattle.std.proofs.lemmas.Option.{slice_get_within}
use Rattle.scopes.specs.ScopesInvariant.{meaning_of}
use Rattle.scopes.specs.Scoped.{Meaning, ModuleScopes}
use Rattle.module_table.proofs.Elements.{ascend_map}
use Rattle.scopes.proofs.Resolutions.{resolved_found, resolved_none}
use Rattle.scopes.proofs.module_scopes.Scopes.resolve.Goals as goal

pub index_of-requires : goal.index_of-requires
index_of-requires c = rw c.as_slice.ensures.value (ascend_map meaning_of (λ (m : Meaning). m.used) c.self.inside.meanings.items c.self.invariant.meanings_ascend)

pub returns-in_err-at-clause-none : goal.returns-in_err-at-clause-none
returns-in_err-at-clause-none c =
    rw c.from_residual.ensures
    (resolved_none c.self.inside.meanings.items _ (ap (λ (s : ModuleScopes). s.meanings) c.self.view_is) c.args.used (rw c.as_slice.ensures.value at c.in_err-at.ensures.none))

pub index-requires : goal.index-requires
index-requires c = let found = c.in_ok-at.ensures.found in omega (arith, slice_get_within c.as_slice.result.now c.in_ok-at.at found.element found.there)

pub returns-clause-found : goal.returns-clause-found
returns-clause-found c =
    resolved_found c.self.inside.meanings.items _ (ap (λ (s : ModuleScopes). s.meanings) c.self.view_is) c.args.used c.in_ok-at.at c.index.result.now
    (rw c.as_slice.ensures.value at c.in_ok-at.ensures.found) c.index.ensures
