use Rattle.std.proofs.Common.{◌≡◌, map, take}
use Rattle.index_store.specs.Queries.{location_model}
use Rattle.oscip_run.specs.CrossingRuns.{location_in_file}
use Rattle.oscip_run.proofs.crossing.locations_of_spans.Given as goal

abbrev pub invariant-loop-span : goal.invariant-loop-span
invariant-loop-span l = map location_model l.places.items ≡ map (location_in_file l.path) (take l.span-index l.spans)
