use Rattle.std.proofs.Common.{◌≡◌, ◌++◌, map, take}
use Rattle.std.specs.String.{string_bytes}
use Rattle.cut_net.specs.Network.{name_of}
use Rattle.cut_rules.specs.Verdicts.{names_after_spaces}
use Rattle.cut_rules.proofs.verdict.append_names.Given as goal

abbrev pub invariant-loop-module : goal.invariant-loop-module
invariant-loop-module l = string_bytes l.text ≡ string_bytes l.initial.text ++ names_after_spaces (map (name_of l.net) (take l.module-index l.modules))
