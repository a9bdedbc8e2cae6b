-- The characters before the current one are appended.
use Rattle.std.proofs.Common.{◌≡◌, ◌++◌}
use Rattle.std.specs.String.{string_bytes}
use Rattle.texts.proofs.EscapeLemmas.{escaped_chars}
use Rattle.texts.proofs.escape.append_chars.Given as goal

abbrev pub invariant-loop-character : goal.invariant-loop-character
invariant-loop-character l = string_bytes l.out ≡ string_bytes l.initial.out ++ escaped_chars l.yielded
