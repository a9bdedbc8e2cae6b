use Rattle.std.proofs.Common.{◌≡◌, ◌∙◌, ◌<◌, ℕ, List, Some, length, get_or, vec_len, refl, subst, sym, ap, arith}
use Rattle.std.specs.Prelude.{Vec, slice_get}
use Rattle.std.specs.declared.alloc.Global.{Global}
use Rattle.ob_scan.specs.declared.line_column.Position.{Position}
use Rattle.cut_net.specs.Network.{missing_item}
use Rattle.source_tree.specs.Located.{no_site, HasSite, IsSetFrom}
use Rattle.source_tree.proofs.ImportSites.{found_more, none_found}
use Rattle.source_tree.proofs.TreeFiles.{at_item}
use Rattle.source_tree.proofs.import_sites.import_sites.Goals as goal

pub loop-file-init : goal.loop-file-init
loop-file-init c = record {
  size = c.in_ok-sites.ensures.len ∙ ap length c.imports.ensures;
  found = λ k lt. none_found c.args.net.now c.args.scopes.now c.args.items.now (get_or c.args.net.now.imports k missing_item) (get_or c.in_ok-sites.sites.items k no_site);
}

pub set_sites-requires-clause-as_many : goal.set_sites-requires-clause-as_many
set_sites-requires-clause-as_many c =
    let many = c.requires.as_many in
    let lt = c.loop-file-test.true in
    ap length c.as_slice-items.ensures.value ∙ c.requires.each c.loop-file.file c.index-scopes-file.result c.index-items-file.result (at_item c.args.scopes.now c.loop-file.file c.index-scopes-file.result lt c.index-scopes-file.is)
    (at_item c.args.items.now c.loop-file.file c.index-items-file.result (omega arith) c.index-items-file.is)

pub loop-file-preserved : goal.loop-file-preserved
loop-file-preserved c =
    let many = c.requires.as_many in
    let lt = c.loop-file-test.true in
    record {
      size = c.set_sites.ensures.size ∙ c.loop-file.invariant.size;
      found = λ k low. found_more c.args.net.now c.args.scopes.now c.args.items.now c.loop-file.file c.index-scopes-file.result c.index-items-file.result (at_item c.args.scopes.now c.loop-file.file c.index-scopes-file.result lt c.index-scopes-file.is)
          (at_item c.args.items.now c.loop-file.file c.index-items-file.result (omega arith) c.index-items-file.is) (get_or c.args.net.now.imports k missing_item) (get_or c.loop-file.sites.items k no_site) (get_or c.set_sites.new.sites.items k no_site)
          (c.loop-file.invariant.found k low)
          (subst (λ (items : List Position). IsSetFrom 0 c.args.net.now c.loop-file.file c.index-scopes-file.result items (get_or c.args.net.now.imports k missing_item) (get_or c.loop-file.sites.items k no_site) (get_or c.set_sites.new.sites.items k no_site)) c.as_slice-items.ensures.value
          (c.set_sites.ensures.set k low));
    }

pub returns-clause-found : goal.returns-clause-found
returns-clause-found c = λ k low.
    let past = c.loop-file-test.false in
    let end = c.loop-file.auto.file-end in
    let all : c.loop-file.file ≡ length c.args.scopes.now = omega arith in
    subst (λ (n : ℕ). HasSite c.args.net.now c.args.scopes.now c.args.items.now n (get_or c.args.net.now.imports k missing_item) (get_or c.loop-file.sites.items k no_site)) all (c.loop-file.invariant.found k low)
