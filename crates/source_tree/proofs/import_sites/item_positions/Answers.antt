use Rattle.std.proofs.Common.{◌≡◌, ◌<◌, ℕ, List, length, get_or, subst, sym, arith}
use Rattle.std.proofs.lemmas.List.{take_all}
use Rattle.module_table.specs.declared.rows.Import.{Import}
use Rattle.ob_scan.specs.Position.{IsPosition}
use Rattle.ob_scan.proofs.InText.{start_in_text}
use Rattle.source_tree.specs.Located.{AreItemPositions}
use Rattle.source_tree.proofs.ImportSites.{positions_next}
use Rattle.source_tree.proofs.import_sites.item_positions.Goals as goal

pub loop-item-preserved : goal.loop-item-preserved
loop-item-preserved c =
    let bytes = c.args.bytes.now in
    let ts = c.args.tokens.now in
    rw c.in_ok-push.ensures.items
    (positions_next bytes ts c.args.items.now c.loop-item.item-index _ c.position.result c.loop-item.positions.items c.loop-item-test.true
    (subst (λ (at : ℕ). IsPosition bytes at c.position.result.line c.position.result.column) c.start.ensures (c.position.ensures bytes c.in_ok-lines.ensures (rw c.start.ensures (start_in_text bytes ts _ c.requires)))) c.loop-item.invariant)

pub returns : goal.returns
returns c =
    let past = c.loop-item-test.false in
    subst (λ (l : List Import). AreItemPositions c.args.bytes.now c.args.tokens.now l c.loop-item.positions.items) (take_all c.loop-item.item-index c.args.items.now (omega arith)) c.loop-item.invariant
