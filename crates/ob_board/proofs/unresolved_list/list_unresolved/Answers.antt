use Rattle.std.proofs.Common.{List, map, sym, subst}
use Rattle.std.proofs.lemmas.Result.{IfOk-weaker}
use Rattle.ob_board.specs.Reached.{FileModel}
use Rattle.ob_board.specs.SourceParts.{file_models}
use Rattle.ob_board.specs.UnresolvedEntry.{IsUnresolvedEntryOf}
use Rattle.ob_board.specs.Unresolved.{unresolved_model, IsUnresolvedOf, UnresolvedModel}
use Rattle.ob_board.proofs.Handing.{found_all, in_own}
use Rattle.ob_board.proofs.unresolved_list.list_unresolved.Goals as goal

pub from_files-precomputed_chains-requires : goal.from_files-precomputed_chains-requires
from_files-precomputed_chains-requires g c = (c.args.tree.now.graph, rw c.as_slice.ensures.value c.requires.seen)

pub returns : goal.returns
returns g c =
    let sources = c.args.sources.now in
    let tree = c.args.tree.now in
    let all = c.in_ok-all.field-0.items in
    let here = in_own IsUnresolvedEntryOf _ _ _ _ all c.requires.files c.in_ok-graph.ensures.graph c.in_ok-all.ensures in
    let of = found_all sources tree.modules.items tree.graph c.requires.seen all here in
    IfOk-weaker c.concatenate_rows.result _ _
    (λ rows same. subst (λ (fs : List FileModel). IsUnresolvedOf fs (map unresolved_model rows.items)) (sym c.requires.files)
    (subst (λ (all : List UnresolvedModel). IsUnresolvedOf (file_models sources tree.modules.items) all) (sym same) of)) c.concatenate_rows.ensures
