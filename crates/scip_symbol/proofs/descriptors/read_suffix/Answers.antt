use Rattle.std.proofs.Common.{◌≡◌, Some, sym}
use Rattle.std.specs.List.{slice_get}
use Rattle.scip_symbol.proofs.Suffixes.{told_boundary}
use Rattle.scip_symbol.proofs.descriptors.read_suffix.Goals as goal

pub split_at-requires : goal.split_at-requires
split_at-requires c =
    let front : Some c.in_ok-first.field-0.now ≡ slice_get c.args.text.now 0 = rw c.as_bytes.ensures.value at c.in_ok-first.ensures.value in
    told_boundary c.args.text.now c.in_ok-first.field-0.now c.in_ok-kind.kind c.utf8.text front (sym c.in_ok-kind.ensures)
