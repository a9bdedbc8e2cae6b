use Rattle.std.proofs.Common.{◌≡◌, ◌∙◌, map}
use Rattle.index_store.specs.TableLookup.{locations_by_role}
use Rattle.index_store.specs.Queries.{location_model}
use Rattle.index_store.proofs.DirectLaws.{if_ok, paths_text, places_there}
use Rattle.index_store.proofs.byte_queries.locations_in_bytes.Goals as goal

pub returns : goal.returns
returns c index means =
    let found = rw (c.is_local.ensures, c.as_bytes.ensures.value) at (c.matching_locations.ensures (paths_text c.args.bytes.now index means)) in
    if_ok c.matching_locations.result _ (λ locations. map location_model locations.items ≡ locations_by_role c.args.defines index c.args.path.now c.args.symbol.now) found
    (λ locations e. e ∙ places_there c.args.defines c.args.bytes.now c.args.path.now c.args.symbol.now index means)
