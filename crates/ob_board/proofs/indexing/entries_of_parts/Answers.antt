use Rattle.std.proofs.Common.{List, sym, subst}
use Rattle.std.proofs.lemmas.Result.{IfOk-weaker}
use Rattle.ob_board.specs.Reached.{FileModel}
use Rattle.ob_board.specs.Entries.{AreEntriesOf, IsEntryOf, EntryModel}
use Rattle.ob_board.proofs.EntryHanding.{entries_all}
use Rattle.ob_board.proofs.Handing.{in_own}
use Rattle.ob_board.proofs.indexing.entries_of_parts.Goals as goal

pub from_files-precomputed_chains-requires : goal.from_files-precomputed_chains-requires
from_files-precomputed_chains-requires g c = (c.args.tree.now.graph, rw c.as_slice.ensures.value c.requires.seen)

pub returns : goal.returns
returns g c =
    let p = g.F.NamedIndex.package_name in
    let tree = c.args.tree.now in
    let all = c.in_ok-all.field-0.items in
    let here = in_own (λ (fs : List FileModel). IsEntryOf fs p) _ _ _ _ all c.requires.files c.in_ok-graph.ensures.graph c.in_ok-all.ensures in
    let output_is = entries_all c.args.sources.now tree.modules.items tree.graph c.requires.seen p all here in
    IfOk-weaker c.into_entries.result _ _
    (λ entries same. subst (λ (es : List EntryModel). AreEntriesOf g.F.NamedIndex.files p es) (sym same) (subst (λ (fs : List FileModel). AreEntriesOf fs p all) (sym c.requires.files) output_is))
    c.into_entries.ensures
