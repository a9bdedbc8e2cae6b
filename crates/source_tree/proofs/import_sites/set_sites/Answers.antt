use Rattle.std.proofs.Common.{◌≡◌, ◌∙◌, ◌+◌, ◌-◌, ◌<◌, ℕ, true, List, Some, length, get_or, vec_len, refl, ap, subst, sym, arith}
use Rattle.std.specs.Prelude.{Contains, Vec, slice_get}
use Rattle.std.specs.declared.alloc.Global.{Global}
use Rattle.std.specs.String.{string_bytes}
use Rattle.std.proofs.lemmas.List.{length-map}
use Rattle.std.proofs.lemmas.Option.{slice_get-get_or}
use Rattle.cut_net.specs.declared.priced.Priced.{Priced}
use Rattle.cut_net.specs.Network.{missing_item}
use Rattle.cut_net.specs.Prices.{is_named}
use Rattle.scopes.specs.declared.module_scopes.Alias.{Alias}
use Rattle.scopes.specs.ScopesInvariant.{alias_of}
use Rattle.source_tree.specs.Located.{no_site, IsSetFrom}
use Rattle.source_tree.specs.declared.import_sites.ImportSite.{ImportSite}
use Rattle.source_tree.proofs.ImportSites.{alias_at, set_none, set_one, set_past}
use Rattle.source_tree.proofs.import_sites.set_sites.Goals as goal
use Rattle.source_tree.proofs.import_sites.set_sites.Goals.{in-Some, in_default}

pub loop-passed-preserved : goal.loop-passed-preserved
loop-passed-preserved c =
    let net = c.args.net.now in
    let network = c.invariants.ensures.network in
    let s = c.args.scopes.now in
    let items = c.args.items.now in
    let f = c.args.file in
    let olds = c.args.sites.now.items in
    let rows = c.aliases-aliases.result.now in
    let passed = c.loop-passed.passed in
    let within : passed < length rows = c.loop-passed-test.true in
    let low = (length rows - 1) - passed in
    let next : length rows - passed ≡ low + 1 = omega arith in
    let last : low ≡ length rows - (passed + 1) = omega arith in
    let row = c.index-aliases-item.result in
    let alias = alias_of row in
    let text : c.as_str-imported.result.now ≡ alias.imported = c.as_str-imported.ensures.value ∙ ap (λ (a : Alias). string_bytes a.«module») (sym c.index-aliases-item.is) in
    let many = c.requires.as_many in
    let long = sym (length-map rows alias_of) ∙ ap length c.aliases-aliases.ensures in
    let there : slice_get s.aliases low ≡ Some alias = alias_at rows s.aliases low row c.aliases-aliases.ensures (omega arith) c.index-aliases-item.is in
    let so_far : (k : ℕ) → k < length net.imports → IsSetFrom (low + 1) net f s items (get_or net.imports k missing_item) (get_or olds k no_site) (get_or c.loop-passed.sites.items k no_site) =
    λ k lt. subst (λ (n : ℕ). IsSetFrom n net f s items (get_or net.imports k missing_item) (get_or olds k no_site) (get_or c.loop-passed.sites.items k no_site)) next (c.loop-passed.invariant.set k lt) in
    elim c.match-find_import_number.branch [
      | in-Some w ↦
          let named : is_named net s.name alias.imported (get_or net.imports w.in-Some.import missing_item) ≡ true =
          subst (λ (a : List ℕ). is_named net a alias.imported (get_or net.imports w.in-Some.import missing_item) ≡ true) c.name.ensures
          (subst (λ (b : List ℕ). is_named net c.name.result.now b (get_or net.imports w.in-Some.import missing_item) ≡ true) text w.in-Some.ensures.found.1) in
          let size = c.loop-passed.invariant.size in
          let start = c.requires.size in
          let ok = c.loop-passed.sites.ok in
          record {
            size = ap vec_len w.sites-is ∙ c.loop-passed.invariant.size;
            set = λ k lt.
                subst (λ (n : ℕ). IsSetFrom n net f s items (get_or net.imports k missing_item) (get_or olds k no_site) (get_or c.match-find_import_number.sites.items k no_site)) last
                (subst (λ (v : Vec ImportSite Global). IsSetFrom low net f s items (get_or net.imports k missing_item) (get_or olds k no_site) (get_or v.items k no_site)) (sym w.sites-is)
                (set_one net network f s items low alias there w.in-Some.import (get_or items low (record { line = 0; column = 0 })) w.in-Some.ensures.found.0 named (slice_get-get_or items low (record { line = 0; column = 0 }) (omega arith)) olds c.loop-passed.sites.items (omega arith) so_far k lt));
          }
      | in_default w ↦
          let none : (i : Priced) → Contains net.imports i → is_named net s.name alias.imported i ≡ true → ⊥ =
          subst (λ (a : List ℕ). (i : Priced) → Contains net.imports i → is_named net a alias.imported i ≡ true → ⊥) c.name.ensures
          (subst (λ (b : List ℕ). (i : Priced) → Contains net.imports i → is_named net c.name.result.now b i ≡ true → ⊥) text (rw w.in_default.is at c.find_import_number.ensures.none)) in
          record {
            size = ap vec_len w.sites-is ∙ c.loop-passed.invariant.size;
            set = λ k lt.
                subst (λ (n : ℕ). IsSetFrom n net f s items (get_or net.imports k missing_item) (get_or olds k no_site) (get_or c.match-find_import_number.sites.items k no_site)) last
                (subst (λ (v : Vec ImportSite Global). IsSetFrom low net f s items (get_or net.imports k missing_item) (get_or olds k no_site) (get_or v.items k no_site)) (sym w.sites-is)
                (set_none net network f s items low alias there none olds c.loop-passed.sites.items so_far k lt));
          }
    ]

pub loop-passed-init : goal.loop-passed-init
loop-passed-init c = record {
  size = refl;
  set = λ k lt.
      let long = sym (length-map c.aliases-aliases.result.now alias_of) ∙ ap length c.aliases-aliases.ensures in
      set_past c.args.net.now c.args.file c.args.scopes.now c.args.items.now _ (get_or c.args.net.now.imports k missing_item) (get_or c.args.sites.now.items k no_site) (omega arith);
}

pub returns-clause-set : goal.returns-clause-set
returns-clause-set c = λ k lt.
    let past = c.loop-passed-test.false in
    let end = c.loop-passed.auto.passed-end in
    let none : length c.aliases-aliases.result.now - c.loop-passed.passed ≡ 0 = omega arith in
    subst (λ (n : ℕ). IsSetFrom n c.args.net.now c.args.file c.args.scopes.now c.args.items.now (get_or c.args.net.now.imports k missing_item) (get_or c.args.sites.now.items k no_site) (get_or c.loop-passed.sites.items k no_site)) none (c.loop-passed.invariant.set k lt)
