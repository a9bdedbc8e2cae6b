use Rattle.std.proofs.Common.{◌≡◌, map, take}
use Rattle.std.specs.List.{flat_map}
use Rattle.index_store.specs.TableLookup.{requested_location}
use Rattle.index_store.specs.Queries.{location_model}
use Rattle.index_store.specs.Stores.{mention_model}
use Rattle.index_store.specs.Tables.{texts_in}
use Rattle.index_store.proofs.locations.requested_locations.Given as goal

abbrev pub invariant-loop-mention : goal.invariant-loop-mention
invariant-loop-mention l =
    map location_model l.locations.items ≡ flat_map (requested_location l.requested.defines l.requested.local l.requested.path.now) (map (mention_model (texts_in l.paths)) (take l.mention-index l.mentions))
