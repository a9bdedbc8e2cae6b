use Rattle.std.proofs.Common.{◌≡◌, ◌<◌, ◌-◌, ℕ, length, get_or, vec_len}
use Rattle.cut_net.specs.Network.{missing_item}
use Rattle.source_tree.specs.Located.{no_site, IsSetFrom}
use Rattle.source_tree.proofs.import_sites.set_sites.Given as goal

abbrev pub invariant-loop-passed : goal.invariant-loop-passed
invariant-loop-passed l = record {
  size : vec_len l.sites ≡ vec_len l.initial.sites;
  set : (k : ℕ) → k < length l.net.imports → IsSetFrom (l.count - l.passed) l.net l.file l.scopes l.items (get_or l.net.imports k missing_item) (get_or l.initial.sites.items k no_site) (get_or l.sites.items k no_site);
}
