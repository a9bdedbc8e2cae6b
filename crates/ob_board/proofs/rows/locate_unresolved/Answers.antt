use Rattle.std.proofs.Common.{ℕ, ap, subst}
use Rattle.std.specs.String.{string_bytes}
use Rattle.ob_scan.specs.Position.{IsPosition}
use Rattle.ob_scan.proofs.InText.{start_in_text}
use Rattle.ob_board.proofs.rows.locate_unresolved.Goals as goal

pub returns : goal.returns
returns c =
    let bytes = c.args.text.now.bytes.now in
    let ts = c.args.text.now.tokens.now in
    record {
      path_is = ap string_bytes c.in_ok-path.ensures;
      position = subst (λ (at : ℕ). IsPosition bytes at c.position-at.result.line c.position-at.result.column) c.start.ensures
          (c.position-at.ensures bytes c.requires.lined (rw c.start.ensures (start_in_text bytes ts c.args.number c.requires.in_text)));
      name_is = c.in_ok-name.ensures c.requires.text;
    }
