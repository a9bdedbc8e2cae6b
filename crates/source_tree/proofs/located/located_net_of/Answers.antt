use Rattle.std.proofs.Common.{◌≡◌, ◌∙◌, List, length, map, ap, subst, sym}
use Rattle.std.specs.Prelude.{All, Contains, Vec}
use Rattle.std.specs.declared.alloc.Global.{Global}
use Rattle.std.proofs.lemmas.List.{length-map}
use Rattle.cut_net.specs.Network.{name_of}
use Rattle.ob_scan.specs.declared.line_column.Position.{Position}
use Rattle.scopes.specs.Scoped.{ModuleScopes}
use Rattle.source_tree.specs.TreeReading.{AreFilesRead, IsTreeOf}
use Rattle.source_tree.specs.declared.import_sites.LocatedScopes.{LocatedScopes}
use Rattle.source_tree.specs.declared.tree_reading.ScopedTree.{ScopedTree}
use Rattle.source_tree.proofs.ImportSites.{scopes_read, sites_by, sizes_by}
use Rattle.source_tree.proofs.LocatedFiles.{all_named, modules_of}
use Rattle.source_tree.proofs.located.located_net_of.Goals as goal

pub build_tree-requires : goal.build_tree-requires
build_tree-requires g c =
    let (files, read) = c.in_ok-files.ensures.kept in
    (files, subst (AreFilesRead c.args.sources.now files) (sym c.in_ok-scopes.ensures.scopes) (scopes_read c.args.sources.now files c.in_ok-files.files.items read))

pub network_numbers-requires : goal.network_numbers-requires
network_numbers-requires g c =
    let of : IsTreeOf c.args.sources.now c.deref.result.now = subst (λ (t : ScopedTree). IsTreeOf c.args.sources.now t) (sym c.deref.ensures) c.in_ok-tree.ensures.tree in
    let same : c.as_slice-scopes.result.now ≡ c.deref.result.now.scopes.items = c.as_slice-scopes.ensures.value ∙ ap (λ (t : ScopedTree). t.scopes.items) (c.deref-2.ensures ∙ sym c.deref.ensures) in
    subst (λ (ss : List ModuleScopes). All (λ (s : ModuleScopes). Contains c.in_ok-net.net.names s.name) ss) (sym same)
    (all_named c.args.sources.now of.files c.deref.result.now.scopes.items of.read c.in_ok-net.net.names (λ n. (c.in_ok-net.ensures.named c.args.sources.now of n).1))

pub returns-clause-modules : goal.returns-clause-modules
returns-clause-modules g c =
    let of : IsTreeOf c.args.sources.now c.deref.result.now = subst (λ (t : ScopedTree). IsTreeOf c.args.sources.now t) (sym c.deref.ensures) c.in_ok-tree.ensures.tree in
    let same : c.as_slice-scopes.result.now ≡ c.deref.result.now.scopes.items = c.as_slice-scopes.ensures.value ∙ ap (λ (t : ScopedTree). t.scopes.items) (c.deref-2.ensures ∙ sym c.deref.ensures) in
    modules_of c.args.sources.now of.files c.deref.result.now.scopes.items of.read c.in_ok-net.net c.in_ok-modules.modules.items c.in_ok-modules.ensures.low
    (c.in_ok-modules.ensures.named ∙ ap (λ (ss : List ModuleScopes). map (λ (s : ModuleScopes). s.name) ss) same)

-- the scopes and the positions are those that were read
pub import_sites-requires-clause-as_many : goal.import_sites-requires-clause-as_many
import_sites-requires-clause-as_many g c =
    let scopes = c.as_slice-scopes.ensures.value ∙ ap (λ (t : ScopedTree). t.scopes.items) c.deref-2.ensures ∙ ap (λ (v : Vec ModuleScopes Global). v.items) c.in_ok-tree.ensures.scopes ∙ c.in_ok-scopes.ensures.scopes in
    let items = c.as_slice.ensures.value ∙ c.in_ok-scopes.ensures.items in
    ap length items ∙ length-map c.in_ok-files.files.items (λ (l : LocatedScopes). l.items) ∙ sym (length-map c.in_ok-files.files.items (λ (l : LocatedScopes). l.scopes)) ∙ sym (ap length scopes)

pub import_sites-requires-clause-each : goal.import_sites-requires-clause-each
import_sites-requires-clause-each g c =
    let scopes = c.as_slice-scopes.ensures.value ∙ ap (λ (t : ScopedTree). t.scopes.items) c.deref-2.ensures ∙ ap (λ (v : Vec ModuleScopes Global). v.items) c.in_ok-tree.ensures.scopes ∙ c.in_ok-scopes.ensures.scopes in
    let items = c.as_slice.ensures.value ∙ c.in_ok-scopes.ensures.items in
    let (files, read) = c.in_ok-files.ensures.kept in
    sizes_by c.args.sources.now files c.in_ok-files.files.items read c.as_slice-scopes.result.now c.as_slice.result.now scopes items

pub returns-clause-imports : goal.returns-clause-imports
returns-clause-imports g c =
    let scopes = c.as_slice-scopes.ensures.value ∙ ap (λ (t : ScopedTree). t.scopes.items) c.deref-2.ensures ∙ ap (λ (v : Vec ModuleScopes Global). v.items) c.in_ok-tree.ensures.scopes ∙ c.in_ok-scopes.ensures.scopes in
    let items = c.as_slice.ensures.value ∙ c.in_ok-scopes.ensures.items in
    let (files, read) = c.in_ok-files.ensures.kept in
    let of : IsTreeOf c.args.sources.now c.deref.result.now = subst (λ (t : ScopedTree). IsTreeOf c.args.sources.now t) (sym c.deref.ensures) c.in_ok-tree.ensures.tree in
    sites_by c.args.sources.now files c.in_ok-files.files.items read c.in_ok-net.net (c.in_ok-net.ensures.net c.args.sources.now of) c.as_slice-scopes.result.now c.as_slice.result.now scopes items c.in_ok-imports.imports.items c.in_ok-imports.ensures.size c.in_ok-imports.ensures.found
