use Rattle.std.proofs.Common.{◌≡◌, ◌++◌, ◌∙◌, List, true, ap, map, sym}
use Rattle.std.specs.Prelude.{◌||◌, not}
use Rattle.std.specs.List.{flat_map}
use Rattle.std.specs.Str.{bytes_eq}
use Rattle.proto_wire.specs.MessageBytes.{records_of}
use Rattle.scip_index.specs.Meaning.{document_of}
use Rattle.index_store.specs.Direct.{location_of_symbol}
use Rattle.index_store.specs.Queries.{LocationModel, location_model}
use Rattle.index_store.proofs.DirectLaws.{cut_off, in_document, looked_at_all, looked_by_path, not_not}
use Rattle.index_store.proofs.byte_queries.append_locations_in_one_pass.Goals.{else-lookup-via-then-lookup+else-ne, else-lookup-via-else-lookup}
use Rattle.index_store.proofs.byte_queries.append_locations_in_one_pass.Goals as goal

pub returns-then-ne-2 : goal.returns-then-ne-2
returns-then-ne-2 c =
    let added = flat_map (location_of_symbol c.args.lookup.defines c.args.lookup.symbol.now c.in-Ok.path.now) (document_of (records_of c.args.document)).occurrences in
    rw (c.truncate.ensures.items, c.len-before.ensures, c.args.locations.now.ok.0) (cut_off location_model c.args.locations.now.items c.append_matching_locations.new.locations.items added c.in_ok-last.ensures.added)

pub returns : goal.returns
returns c =
    let document = document_of (records_of c.args.document) in
    let path = c.in-Ok.path.now in
    let lookup = c.args.lookup in
    let same : bytes_eq document.relative_path path ≡ true = rw (c.in_ok-last.ensures.path, c.in-Ok.ensures.cases.0) (not_not _ (sym c.if-ne-2.ensures)) in
    let looked : (not lookup.local || bytes_eq path lookup.path.now) ≡ true = elim c.else-lookup.branch [
      | else-lookup-via-then-lookup+else-ne w ↦ looked_by_path lookup.local _ (rw c.in-Ok.ensures.cases.0 (not_not _ (sym w.if-ne.ensures)))
      | else-lookup-via-else-lookup w ↦ looked_at_all lookup.local _ w.if-lookup.false
    ] in
    c.in_ok-last.ensures.added ∙ ap (λ (xs : List LocationModel). map location_model c.args.locations.now.items ++ xs) (in_document lookup.defines lookup.local lookup.path.now lookup.symbol.now path document same looked)
