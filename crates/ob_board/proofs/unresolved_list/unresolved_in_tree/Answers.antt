use Rattle.std.proofs.Common.{List, map, subst}
use Rattle.ob_board.specs.Reached.{FileModel}
use Rattle.ob_board.proofs.SeenFiles.{parts_seen, seen_are}
use Rattle.ob_board.specs.Unresolved.{unresolved_model, IsUnresolvedOf}
use Rattle.ob_board.proofs.unresolved_list.unresolved_in_tree.Goals as goal

pub list_unresolved-rows-requires-clause-seen : goal.list_unresolved-rows-requires-clause-seen
list_unresolved-rows-requires-clause-seen g c =
    let (files, of) = c.in_ok-tree.ensures.parts in
    parts_seen c.args.sources.now files c.in_ok-tree.tree.modules.items of.all c.in_ok-tree.tree.graph of.kept

pub returns-clause-exact : goal.returns-clause-exact
returns-clause-exact g c =
    let (files, of) = c.in_ok-tree.ensures.parts in
    let tree = c.in_ok-tree.tree in
    record {
      files = files;
      is_tree = record { accepted = of.all.accepted; graph = tree.graph; kept = of.kept; acyclic = of.acyclic };
      are_rows = subst (λ (fs : List FileModel). IsUnresolvedOf fs (map unresolved_model c.in_ok-rows.field-0.items)) (seen_are c.args.sources.now files tree.modules.items of.all) c.in_ok-rows.ensures;
    }
