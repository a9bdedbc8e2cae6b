use Rattle.std.proofs.Common.{ℕ, map}
use Rattle.std.specs.Global.{Vec}
use Rattle.std.specs.String.{string_bytes}
use Rattle.scip_index.specs.Plain.{symbol_model}
use Rattle.ob_board.proofs.SeenFiles.{parts_seen}
use Rattle.ob_board.proofs.RecordHanding.{records_told}
use Rattle.ob_board.proofs.writing.tree_records.Goals as goal

pub records_of_parts-gathered-requires-clause-seen : goal.records_of_parts-gathered-requires-clause-seen
records_of_parts-gathered-requires-clause-seen g c =
    let (files, of) = c.in_ok-tree.ensures.parts in
    λ ranges lives. parts_seen c.args.sources.now files c.in_ok-tree.tree.modules.items of.all c.in_ok-tree.tree.graph of.kept

pub returns-clause-exact : goal.returns-clause-exact
returns-clause-exact g c =
    let (files, of) = c.in_ok-tree.ensures.parts in
    let all = c.in_ok-gathered.field-0 in
    records_told c.args.sources.now (string_bytes c.args.options.now.package) files c.in_ok-tree.tree (map (λ (row : Vec ℕ). row.items) all.records.items) (map symbol_model all.rows.items) of
    c.in_ok-gathered.ensures
