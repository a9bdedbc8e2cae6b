-- The alias with the found index, or 0 without one.
use Rattle.std.proofs.Common.{ap, arith}
use Rattle.std.proofs.lemmas.Option.{slice_get_within}
use Rattle.scopes.specs.ScopesInvariant.{alias_of}
use Rattle.scopes.specs.Scoped.{AliasUses, ModuleScopes}
use Rattle.module_table.proofs.Elements.{ascend_map}
use Rattle.scopes.proofs.Resolutions.{row_found, row_none, row_only}
use Rattle.scopes.proofs.module_scopes.Scopes.qualified_uses.Goals as goal

pub index_of-requires : goal.index_of-requires
index_of-requires c = rw c.as_slice.ensures.value (ascend_map alias_of (λ (a : AliasUses). a.alias) c.self.inside.aliases.items c.self.invariant.aliases_ascend)

pub index-requires : goal.index-requires
index-requires c = let found = c.in-Some.ensures.found in omega (arith, slice_get_within c.as_slice.result.now c.in-Some.at found.element found.there)

pub returns-in-Some-clause-found : goal.returns-in-Some-clause-found
returns-in-Some-clause-found c = λ a h e.
    ap (λ (a : AliasUses). a.uses)
    (row_only alias_of (λ (a : AliasUses). a.alias) c.self.inside.aliases.items _ (ap (λ (s : ModuleScopes). s.aliases) c.self.view_is) c.args.alias c.self.invariant.aliases_ascend c.in-Some.at c.index.result.now
    (rw c.as_slice.ensures.value at c.in-Some.ensures.found) c.index.ensures a h e)

pub returns-in-Some-clause-none : goal.returns-in-Some-clause-none
returns-in-Some-clause-none c = λ none.
    let p = row_found alias_of (λ (a : AliasUses). a.alias) c.self.inside.aliases.items _ (ap (λ (s : ModuleScopes). s.aliases) c.self.view_is) c.args.alias c.in-Some.at c.index.result.now
    (rw c.as_slice.ensures.value at c.in-Some.ensures.found) c.index.ensures in
    absurd (none (alias_of c.index.result.now) p.0 p.1)

pub returns-in-None-clause-found : goal.returns-in-None-clause-found
returns-in-None-clause-found c = λ a h e.
    absurd
    (row_none alias_of (λ (a : AliasUses). a.alias) c.self.inside.aliases.items _ (ap (λ (s : ModuleScopes). s.aliases) c.self.view_is) c.args.alias (rw c.as_slice.ensures.value at c.in-None.ensures.none) a h e)
