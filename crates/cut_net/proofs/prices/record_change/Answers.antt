use Rattle.std.proofs.Common.{◌∷◌, [], sym, ap, ◌∙◌}
use Rattle.std.specs.Prelude.{is_some}
use Rattle.cut_net.specs.PriceReading.{line_content}
use Rattle.cut_net.proofs.Noting.{absent_is, is_told, is_twice, of_import, spelled_one}
use Rattle.cut_net.proofs.PriceLines.{line_takes, no_line, not_read}
use Rattle.cut_net.proofs.Tables.{written_is}
use Rattle.cut_net.proofs.prices.record_change.Goals as goal

pub returns-in_default : goal.returns-in_default
returns-in_default c before changes = (written_is c.args.piece.now c.is_empty.result c.is_empty.ensures c.if-is_empty.false, no_line c.args.piece.now (not_read line_content c.parse_price_line.result _ c.parse_price_line.ensures c.in_default.not-Some))

pub returns-in_default-find_import_number : goal.returns-in_default-find_import_number
returns-in_default-find_import_number c before changes =
    let claim = line_takes c.args.piece.now _ (sym c.in-Some.ensures) in
    let none = absent_is c.find_import_number.result c.find_import_number.ensures.none c.in_default-find_import_number.not-Some in
    (line_content c.in-Some.line, claim.0, claim.1, λ of. none of.0 of.1 of.2)

pub returns-then-is_some : goal.returns-then-is_some
returns-then-is_some c before changes =
    let claim = line_takes c.args.piece.now _ (sym c.in-Some.ensures) in
    let found = c.in-Some-find_import_number.ensures.found in
    let line = line_content c.in-Some.line in (
      line,
      claim.0,
      claim.1,
      of_import c.args.net.now c.invariants.ensures.network before c.args.changes.now.items changes line claim.1 c.in-Some-find_import_number.number found.0 found.1,
      is_twice c.args.net.now c.invariants.ensures.network before c.args.changes.now.items changes line claim.1 c.in-Some-find_import_number.number found.0 found.1 c.index.result.now
          (ap is_some (sym c.index.ensures) ∙ sym c.is_some.ensures ∙ c.if-is_some.true),
    )

pub returns : goal.returns
returns c before changes =
    let claim = line_takes c.args.piece.now _ (sym c.in-Some.ensures) in
    let found = c.in-Some-find_import_number.ensures.found in
    let line = line_content c.in-Some.line in (
      line ∷ [],
      spelled_one line c.args.piece.now claim.0,
      is_told c.args.net.now c.invariants.ensures.network before c.args.changes.now.items changes line claim.1 c.in-Some-find_import_number.number found.0 found.1 c.index.result.now
          (ap is_some (sym c.index.ensures) ∙ sym c.is_some.ensures ∙ c.if-is_some.false),
    )
