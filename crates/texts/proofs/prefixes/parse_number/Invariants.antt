use Rattle.std.proofs.Common.{◌≡◌, true, take}
use Rattle.std.specs.List.{list_all}
use Rattle.std.specs.Char.{is_ascii_digit}
use Rattle.std.specs.Str.Parse.{digits_value}
use Rattle.texts.proofs.prefixes.parse_number.Given as goal

abbrev pub invariant-loop-at : goal.invariant-loop-at
invariant-loop-at l = record {
  digits : list_all is_ascii_digit (take l.at l.text) ≡ true;
  so_far : l.value ≡ digits_value 10 (take l.at l.text);
}
