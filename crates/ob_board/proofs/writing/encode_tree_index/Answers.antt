use Rattle.std.proofs.Common.{map, ap, ◌∙◌}
use Rattle.std.specs.String.{string_bytes}
use Rattle.scip_index.specs.Plain.{symbol_model}
use Rattle.ob_board.specs.Indexes.{tool_metadata}
use Rattle.ob_board.proofs.RecordHanding.{externals_gathered, written_told}
use Rattle.ob_board.proofs.writing.encode_tree_index.Goals as goal

pub make_encoded_index-requires : goal.make_encoded_index-requires
make_encoded_index-requires g c = externals_gathered _ _ _ _ c.in_ok-gathered.ensures.exact

pub returns-clause-exact : goal.returns-clause-exact
returns-clause-exact g c =
    let w = c.in_ok-parts.parts in
    let all = c.in_ok-gathered.gathered in
    written_told c.args.sources.now (string_bytes c.args.options.now.package) (string_bytes c.args.options.now.root) w all.records.items (map symbol_model all.rows.items) c.in_ok-gathered.ensures.exact
    (c.in_ok-parts.ensures.metadata ∙ ap tool_metadata c.as_str.ensures.value) c.in_ok-parts.ensures.records c.in_ok-parts.ensures.externals
