use Rattle.std.proofs.Common.{◌≡◌, ◌≤◌, ◌-◌, length, drop}
use Rattle.ob_scan.specs.Lexemes.{after_comment}
use Rattle.ob_scan.proofs.comment.comment_len.Given as goal

abbrev pub invariant-inside : goal.invariant-inside
invariant-inside l = record {
  place : (2 ≤ l.at) × (l.at ≤ length l.bytes);
  few : l.open ≤ l.at;
  same : after_comment l.open (drop l.at l.bytes) ≡ after_comment 1 (drop 2 l.bytes);
}

abbrev pub decreases-inside : goal.decreases-inside
decreases-inside l = length l.bytes - l.at
