-- The offsets of the errors of a file.
use Rattle.std.proofs.Common.{◌≡◌, ℕ, ◌<◌, ◌≤◌, Bool, List, [], ◌∷◌, length, drop, true, length-drop, arith}
use Rattle.std.proofs.lemmas.Bool.{false≢true}
use Rattle.ob_scan.specs.Comments.{begins_comment}
use Rattle.ob_scan.specs.Numbers.{first_passes}
use Rattle.ob_scan.specs.Spelling.{AreInText, Spells}
use Rattle.ob_scan.proofs.InText.{found_in_text, start_in_text}
use Rattle.ob_scan.specs.declared.fault.ScanFault.{ScanFault}
use Rattle.ob_scan.specs.declared.fault.ScanFault.TheVariants as scans
use Rattle.ob_scan.specs.declared.token.Token.{Token}
use Rattle.ob_grammar.proofs.OneFault.{syntax_place}
use Rattle.ob_grammar.proofs.OneTree.{place_in_text}
use Rattle.ob_grammar.specs.declared.fault.ParseFault.{ParseFault}
use Rattle.ob_grammar.specs.declared.fault.ParseFault.TheVariants as parses
use Rattle.ob_scope.specs.declared.fault.ScopeFault.{ScopeFault}
use Rattle.ob_scope.specs.declared.fault.ScopeFault.TheVariants as scopes
use Rattle.source_tree.specs.Trees.{parse_offset, scan_offset, scope_offset, HasParseFault, HasScanFault, HasScopeFault}

some_there : (p : ℕ → Bool) (bs : List ℕ) → first_passes p bs ≡ true → 0 < length bs
some_there p [] e = absurd (false≢true e)
some_there p (b ∷ bs) e = omega arith

comment_there : (bs : List ℕ) → begins_comment bs ≡ true → 0 < length bs
comment_there [] e = absurd (false≢true e)
comment_there (b ∷ bs) e = omega arith

-- an offset at which a token begins
before_end : (bytes : List ℕ) (at : ℕ) → 0 < length (drop at bytes) → at ≤ length bytes
before_end bytes at some = let long = length-drop at bytes in omega arith

pub scan_in_text : (bytes : List ℕ) (fault : ScanFault) → HasScanFault fault bytes → scan_offset fault ≤ length bytes
scan_in_text bytes (scans.BadByte at) h = before_end bytes at h.1.reason.some
scan_in_text bytes (scans.BadNumber at) h = before_end bytes at (some_there _ (drop at bytes) h.1.reason.digit)
scan_in_text bytes (scans.OpenString at) h = before_end bytes at (some_there _ (drop at bytes) h.1.reason.quote)
scan_in_text bytes (scans.OpenComment at) h = before_end bytes at (comment_there (drop at bytes) h.1.reason.opens)
scan_in_text bytes scans.TooLong h = omega arith
scan_in_text bytes scans.Memory h = omega arith

-- the tokens of a text are in the bounds of the text
abbrev pub StandIn : Type 0
StandIn = (bytes : List ℕ) (ts : List Token) → Spells bytes ts → AreInText bytes ts

pub parse_in_text : StandIn → (bytes : List ℕ) (fault : ParseFault) → HasParseFault fault bytes → parse_offset fault ≤ length bytes
parse_in_text law bytes (parses.Syntax at) (ts, reads, h) = place_in_text bytes ts at (law bytes ts reads.1) (syntax_place bytes ts at h)
parse_in_text law bytes (parses.EndName at) (ts, reads, h) =
    let wrong = h.first.is_wrong in
    omega (arith, found_in_text bytes ts _ wrong.pair.end (law bytes ts reads.1) wrong.pair.is_end, wrong.begins)
parse_in_text law bytes (parses.TooDeep at) (ts, reads, h) = omega (arith, found_in_text bytes ts h.0.number h.0.token (law bytes ts reads.1) h.0.is_token, h.0.begins)
parse_in_text law bytes parses.Memory h = omega arith

pub scope_in_text : StandIn → (bytes : List ℕ) (fault : ScopeFault) → HasScopeFault fault bytes → scope_offset fault ≤ length bytes
scope_in_text law bytes (scopes.Twice name first second) (ts, m, reads, tree, (d, e, block, located_message, h)) = rw h.second_at (start_in_text bytes ts e.number (law bytes ts reads.1))
scope_in_text law bytes (scopes.TwiceField name first second) (ts, m, reads, tree, (d, e, token, located_message, h)) = rw h.second_at (start_in_text bytes ts e.number (law bytes ts reads.1))
scope_in_text law bytes scopes.Memory h = omega arith
