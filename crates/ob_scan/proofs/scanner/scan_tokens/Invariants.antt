use Rattle.std.proofs.Common.{◌≤◌, ◌-◌, length}
use Rattle.ob_scan.specs.Spelling.{Scanned}
use Rattle.ob_scan.proofs.scanner.scan_tokens.Given as goal

abbrev pub invariant-lexemes : goal.invariant-lexemes
invariant-lexemes l = record {
  within : l.at ≤ length l.bytes;
  so_far : Scanned l.bytes l.tokens.items l.at;
}

abbrev pub decreases-lexemes : goal.decreases-lexemes
decreases-lexemes l = length l.bytes - l.at
