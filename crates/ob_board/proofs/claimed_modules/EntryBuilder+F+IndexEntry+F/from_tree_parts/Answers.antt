use Rattle.ob_board.proofs.SeenFiles.{parts_seen}
use Rattle.ob_board.proofs.claimed_modules.EntryBuilder+F+IndexEntry+F.from_tree_parts.Goals as goal

pub new-requires-clause-seen : goal.new-requires-clause-seen
new-requires-clause-seen g c =
    let (files, of) = c.requires.parts in
    rw c.as_slice-2.ensures.value (parts_seen c.args.sources.now files c.args.tree.now.modules.items of.all c.args.tree.now.graph of.kept)

pub from_files-precomputed_chains-requires : goal.from_files-precomputed_chains-requires
from_files-precomputed_chains-requires g c =
    let (files, of) = c.requires.parts in
    (c.args.tree.now.graph, rw c.as_slice.ensures.value (parts_seen c.args.sources.now files c.args.tree.now.modules.items of.all c.args.tree.now.graph of.kept))
