use Rattle.ob_scan.proofs.Outcomes.{only_outcome}
use Rattle.ob_scan.proofs.scanner.scan.Goals as goal

pub returns-clause-only : goal.returns-clause-only
returns-clause-only c = only_outcome c.args.bytes.now c.scan_tokens.result c.scan_tokens.ensures
