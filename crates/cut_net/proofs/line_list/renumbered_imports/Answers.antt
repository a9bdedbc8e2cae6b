use Rattle.std.proofs.Common.{◌∙◌, map, ap, get_or, sym, take_all}
use Rattle.std.proofs.lemmas.List.{map_more, map_push}
use Rattle.std.proofs.lemmas.List.Elements.{Contains-get_or}
use Rattle.cut_net.specs.NetReading.{import_line}
use Rattle.cut_net.specs.Network.{missing_item}
use Rattle.cut_net.proofs.Networks.{between_next}
use Rattle.cut_net.proofs.line_list.renumbered_imports.Goals as goal

pub renumbered_import-requires : goal.renumbered_import-requires
renumbered_import-requires c =
    let imports = c.args.imports.now in
    let k = c.loop-import.import-index in
    record { placed = c.requires (get_or imports k missing_item) (Contains-get_or imports k missing_item c.loop-import-test.true) }

pub loop-import-preserved : goal.loop-import-preserved
loop-import-preserved c old names are =
    let imports = c.args.imports.now in
    let k = c.loop-import.import-index in
    let list = c.loop-import.list.items in
    let h = c.loop-import.invariant old names are in
    rw c.in_ok-push.ensures.items (
      between_next list c.renumbered_import.result _ h.0 (c.renumbered_import.ensures.between old names are),
      rw (map_push (import_line names) list c.renumbered_import.result, h.1, c.renumbered_import.ensures.line old names are) (sym (map_more (import_line old) imports k missing_item c.loop-import-test.true)),
    )

pub returns-clause-between : goal.returns-clause-between
returns-clause-between c old names are = (c.loop-import.invariant old names are).0

pub returns-clause-lines : goal.returns-clause-lines
returns-clause-lines c old names are =
    (c.loop-import.invariant old names are).1 ∙ ap (map (import_line old)) (take_all c.loop-import.import-index c.args.imports.now c.loop-import-test.false)
