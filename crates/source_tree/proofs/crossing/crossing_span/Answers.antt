use Rattle.std.proofs.Common.{ℕ, subst}
use Rattle.ob_scan.specs.Position.{IsPosition}
use Rattle.ob_scan.proofs.InText.{end_in_text, start_in_text}
use Rattle.source_tree.proofs.crossing.crossing_span.Goals as goal

pub returns : goal.returns
returns c =
    let bytes = c.args.text.now.bytes.now in
    let ts = c.args.text.now.tokens.now in
    record {
      starts = subst (λ (at : ℕ). IsPosition bytes at c.position.result.line c.position.result.column) c.start.ensures
          (c.position.ensures bytes c.requires.lined (rw c.start.ensures (start_in_text bytes ts c.args.crossing.first c.requires.in_text)));
      ends = subst (λ (at : ℕ). IsPosition bytes at c.position-2.result.line c.position-2.result.column) c.end.ensures
          (c.position-2.ensures bytes c.requires.lined (rw c.end.ensures (end_in_text bytes ts c.args.crossing.last c.requires.in_text)));
    }
