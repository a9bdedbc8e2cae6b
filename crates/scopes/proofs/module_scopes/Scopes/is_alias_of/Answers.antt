-- The alias with the found index, and its module.
use Rattle.std.proofs.Common.{◌≡◌, bytes_eq, true, sym, ap, ◌∙◌, arith}
use Rattle.std.proofs.lemmas.Option.{slice_get_within}
use Rattle.std.proofs.lemmas.Slice.Eq.{bytes_eq-Decides}
use Rattle.scopes.specs.ScopesInvariant.{alias_of}
use Rattle.scopes.specs.Scoped.{AliasUses, ModuleScopes}
use Rattle.module_table.proofs.Elements.{ascend_map}
use Rattle.scopes.proofs.Resolutions.{row_found, row_none, row_only}
use Rattle.scopes.proofs.module_scopes.Scopes.is_alias_of.Goals as goal

pub index_of-requires : goal.index_of-requires
index_of-requires c = rw c.as_slice.ensures.value (ascend_map alias_of (λ (a : AliasUses). a.alias) c.self.inside.aliases.items c.self.invariant.aliases_ascend)

pub index-requires : goal.index-requires
index-requires c = let found = c.in-Some.ensures.found in omega (arith, slice_get_within c.as_slice.result.now c.in-Some.at found.element found.there)

pub returns-in-Some-clause-yes : goal.returns-in-Some-clause-yes
returns-in-Some-clause-yes c = λ e.
    let p = row_found alias_of (λ (a : AliasUses). a.alias) c.self.inside.aliases.items _ (ap (λ (s : ModuleScopes). s.aliases) c.self.view_is) c.args.alias c.in-Some.at c.index.result.now
    (rw c.as_slice.ensures.value at c.in-Some.ensures.found) c.index.ensures in
    let same : bytes_eq c.as_str.result.now c.args.imported.now ≡ true = sym c.eq.ensures ∙ e in
    record {
      row = alias_of c.index.result.now;
      is_row = p.0;
      declared = p.1;
      of = sym c.as_str.ensures.value ∙ (bytes_eq-Decides c.as_str.result.now c.args.imported.now).0 same;
    }

pub returns-in-Some-clause-no : goal.returns-in-Some-clause-no
returns-in-Some-clause-no c = λ h.
    let one = row_only alias_of (λ (a : AliasUses). a.alias) c.self.inside.aliases.items _ (ap (λ (s : ModuleScopes). s.aliases) c.self.view_is) c.args.alias c.self.invariant.aliases_ascend c.in-Some.at c.index.result.now
    (rw c.as_slice.ensures.value at c.in-Some.ensures.found) c.index.ensures h.row h.is_row h.declared in
    let name : c.as_str.result.now ≡ c.args.imported.now = c.as_str.ensures.value ∙ ap (λ (a : AliasUses). a.imported) one ∙ h.of in
    c.eq.ensures ∙ (bytes_eq-Decides c.as_str.result.now c.args.imported.now).1 name

pub returns-in-None-clause-no : goal.returns-in-None-clause-no
returns-in-None-clause-no c = λ h.
    absurd
    (row_none alias_of (λ (a : AliasUses). a.alias) c.self.inside.aliases.items _ (ap (λ (s : ModuleScopes). s.aliases) c.self.view_is) c.args.alias (rw c.as_slice.ensures.value at c.in-None.ensures.none) h.row h.is_row
    h.declared)
