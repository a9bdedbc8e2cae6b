use Rattle.std.proofs.Common.{◌∙◌, get_or, sym, arith}
use Rattle.std.proofs.lemmas.Slice.Eq.{bytes_eq-Decides}
use Rattle.cut_net.specs.Network.{missing_item}
use Rattle.cut_report.proofs.NearEnds.{ends_low, number_is}
use Rattle.cut_report.proofs.import_guess.ImportCursor.find_ends_at_cursor.Goals as goal

pub name-requires : goal.name-requires
name-requires c =
    let end = c.min-end.ensures in
    (ends_low c.args.net.now c.imports-imports.result.now c.loop-import_guess.import_guess c.invariants.ensures.network c.imports-imports.ensures (let low = c.loop-import_guess-test.true in omega arith)).1

pub name-requires-then-eq : goal.name-requires-then-eq
name-requires-then-eq c =
    let end = c.min-end.ensures in
    (ends_low c.args.net.now c.imports-imports.result.now c.loop-import_guess.import_guess c.invariants.ensures.network c.imports-imports.ensures (let low = c.loop-import_guess-test.true in omega arith)).0

pub returns-then-eq-2-clause-from : goal.returns-then-eq-2-clause-from
returns-then-eq-2-clause-from c =
    let end = c.min-end.ensures in
    let low = ends_low c.args.net.now c.imports-imports.result.now c.loop-import_guess.import_guess c.invariants.ensures.network c.imports-imports.ensures (let low = c.loop-import_guess-test.true in omega arith) in
    number_is c.args.net.now (get_or c.imports-imports.result.now c.loop-import_guess.import_guess missing_item).from c.args.from.now c.invariants.ensures.network low.0
    (sym c.name-then-eq.ensures ∙ (bytes_eq-Decides c.name-then-eq.result.now c.args.from.now).0 (sym c.if-eq-2.ensures))

pub returns-then-eq-2-clause-to : goal.returns-then-eq-2-clause-to
returns-then-eq-2-clause-to c =
    let end = c.min-end.ensures in
    let low = ends_low c.args.net.now c.imports-imports.result.now c.loop-import_guess.import_guess c.invariants.ensures.network c.imports-imports.ensures (let low = c.loop-import_guess-test.true in omega arith) in
    number_is c.args.net.now (get_or c.imports-imports.result.now c.loop-import_guess.import_guess missing_item).to c.args.to.now c.invariants.ensures.network low.1
    (sym c.name.ensures ∙ (bytes_eq-Decides c.name.result.now c.args.to.now).0 (sym c.if-eq.ensures))
