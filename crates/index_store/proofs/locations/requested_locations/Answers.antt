use Rattle.std.proofs.Common.{List, map, ap, ◌∙◌, take_all}
use Rattle.std.specs.List.{flat_map}
use Rattle.index_store.specs.declared.row.SymbolEntry.{SymbolEntry}
use Rattle.index_store.specs.TableLookup.{requested_location}
use Rattle.index_store.specs.Stores.{mention_model}
use Rattle.index_store.specs.Tables.{texts_in}
use Rattle.index_store.proofs.locations.requested_locations.Goals as goal

pub returns : goal.returns
returns c =
    let requested = c.args.requested in
    c.loop-mention.invariant
    ∙ ap (λ (mentions : List SymbolEntry). flat_map (requested_location requested.defines requested.local requested.path.now) (map (mention_model (texts_in c.args.paths.now)) mentions))
    (take_all c.loop-mention.mention-index c.args.mentions.now c.loop-mention-test.false)
