use Rattle.std.proofs.Common.{◌≡◌, ◌<◌, ℕ, length, get_or, vec_len}
use Rattle.cut_net.specs.Network.{missing_item}
use Rattle.source_tree.specs.Located.{no_site, HasSite}
use Rattle.source_tree.proofs.import_sites.import_sites.Given as goal

abbrev pub invariant-loop-file : goal.invariant-loop-file
invariant-loop-file l = record {
  size : vec_len l.sites ≡ length l.net.imports;
  found : (k : ℕ) → k < length l.net.imports → HasSite l.net l.scopes l.items l.file (get_or l.net.imports k missing_item) (get_or l.sites.items k no_site);
}
