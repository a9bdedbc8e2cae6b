use Rattle.std.proofs.Common.{map, sym, subst}
use Rattle.std.specs.Arc.{arc_value}
use Rattle.module_table.specs.Tables.{rows_in}
use Rattle.ob_emit.specs.Named.{NamesAreIdentifiers}
use Rattle.ob_view.specs.World.{world}
use Rattle.ob_board.proofs.written.encode_module.Goals as goal

pub encode_document-encoded-requires-clause-named : goal.encode_document-encoded-requires-clause-named
encode_document-encoded-requires-clause-named c =
    let w = world c.args.source.now.bytes.items c.args.parts.now.tokens (rows_in c.args.parts.now.table) c.args.parts.now.scopes (map arc_value c.args.reached.now) in
    subst NamesAreIdentifiers (sym c.in_ok-types.ensures) (c.scoped_names_are_identifiers.ensures.here w c.args.parts.now.scopes c.requires.scoped c.requires.named)
