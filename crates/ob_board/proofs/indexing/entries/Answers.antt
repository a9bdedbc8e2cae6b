use Rattle.std.proofs.Common.{map}
use Rattle.std.specs.String.{string_bytes}
use Rattle.ob_board.proofs.SeenFiles.{parts_seen}
use Rattle.ob_board.specs.Entries.{entry_model}
use Rattle.ob_board.proofs.EntryHanding.{entries_told}
use Rattle.ob_board.proofs.indexing.entries.Goals as goal

pub entries_of_parts-entries-requires-clause-seen : goal.entries_of_parts-entries-requires-clause-seen
entries_of_parts-entries-requires-clause-seen g c =
    let (files, of) = c.in_ok-tree.ensures.parts in
    λ ranges lives. parts_seen c.args.sources.now files c.in_ok-tree.tree.modules.items of.all c.in_ok-tree.tree.graph of.kept

pub returns-clause-exact : goal.returns-clause-exact
returns-clause-exact g c =
    let (files, of) = c.in_ok-tree.ensures.parts in
    entries_told c.args.sources.now (string_bytes c.args.options.now.package) files c.in_ok-tree.tree (map entry_model c.in_ok-entries.field-0.items) of c.in_ok-entries.ensures
