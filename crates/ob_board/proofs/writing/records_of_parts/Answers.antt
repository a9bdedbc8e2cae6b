use Rattle.std.proofs.Common.{ℕ, List, map, sym, subst}
use Rattle.std.specs.Global.{Vec}
use Rattle.std.specs.List.{flat_map}
use Rattle.scip_index.specs.Plain.{symbol_model}
use Rattle.ob_board.specs.Reached.{FileModel}
use Rattle.ob_board.specs.Records.{AreRecordsOf, IsEncodedEntryOf, EncodedEntryModel}
use Rattle.ob_board.proofs.Handing.{in_own}
use Rattle.ob_board.proofs.RecordHanding.{gathered, records_all}
use Rattle.ob_board.proofs.writing.records_of_parts.Goals as goal

pub from_files-precomputed_chains-requires : goal.from_files-precomputed_chains-requires
from_files-precomputed_chains-requires g c = (c.args.tree.now.graph, rw c.as_slice.ensures.value c.requires.seen)

pub returns : goal.returns
returns g c =
    let p = g.F.NamedIndex.package_name in
    let tree = c.args.tree.now in
    let all = c.in_ok-all.field-0.items in
    let here = in_own (λ (fs : List FileModel). IsEncodedEntryOf fs p) _ _ _ _ all c.requires.files c.in_ok-graph.ensures.graph c.in_ok-all.ensures in
    let output_is = records_all c.args.sources.now tree.modules.items tree.graph c.requires.seen p all here in
    gathered g.F.NamedIndex.files p _ _ c.gather.result (λ t. map (λ (row : Vec ℕ). row.items) t.records.items) (λ t. map symbol_model t.rows.items) c.gather.ensures.records c.gather.ensures.rows
    (subst (λ (fs : List FileModel). AreRecordsOf fs p (map (λ (r : EncodedEntryModel). r.bytes) all) (flat_map (λ (r : EncodedEntryModel). r.externals) all)) (sym c.requires.files) output_is)
